use Rattle.std.proofs.Common.{◌++◌, List, ap, ◌∙◌, slice_index}
use Rattle.ct_base.specs.declared.cell.Cell.{Cell}
use Rattle.traffic_model.specs.Flow.{terms}
use Rattle.plan_point.specs.inner.Points.{split_counts}
use Rattle.plan_point.proofs.EncodingLaws.{cell_added}
use Rattle.plan_point.proofs.encoding.cells.push_cell.Goals as goal

pub returns : goal.returns
returns c =
    let units = c.args.units.now in
    let i = c.args.number in
    cell_added c.args.net.now.cells c.args.letters.now units c.as_slice.result.now i c.args.values.now.items c.push_units.new.values.items c.push_split.new.values.items
    c.push_move.new.values.items c.in_ok-push_units.ensures
    (c.in_ok-push_split.ensures
    ∙ ap (λ (cells : List Cell). c.push_units.new.values.items ++ split_counts cells units (slice_index units i) c.cell-cell.result.now.out) c.as_slice-cells.ensures
    ∙ ap (λ (cell : Cell). c.push_units.new.values.items ++ split_counts c.args.net.now.cells units (slice_index units i) cell.out) c.cell-cell.ensures.value)
    (c.as_slice.ensures.value ∙ c.in_ok-move_terms.ensures ∙ ap (λ (cells : List Cell). terms cells c.args.letters.now units i) c.as_slice-cells.ensures)
    c.in_ok-push_move.ensures
