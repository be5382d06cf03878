use Rattle.std.proofs.Common.{◌+◌}
use Rattle.listed.specs.Below.{join_below}
use Rattle.listed.proofs.JoinLaws.{join_below-suc, join_below-zero}
use Rattle.plan_point.specs.inner.Points.{cell_counts}
use Rattle.plan_point.proofs.EncodingLaws.{none_added, part_added}
use Rattle.plan_point.proofs.encoding.cells.push_cells.Goals as goal

pub loop-number-init : goal.loop-number-init
loop-number-init c =
    none_added c.args.values.now.items (join_below 0 (cell_counts c.args.net.now.cells c.args.letters.now c.args.units.now))
    (join_below-zero (cell_counts c.args.net.now.cells c.args.letters.now c.args.units.now))

pub loop-number-preserved : goal.loop-number-preserved
loop-number-preserved c =
    let parts = cell_counts c.args.net.now.cells c.args.letters.now c.args.units.now in
    part_added c.args.values.now.items (join_below c.loop-number.number parts) (parts c.loop-number.number) c.loop-number.values.items c.push_cell.new.values.items
    (join_below (c.loop-number.number + 1) parts) c.loop-number.invariant c.in_ok-push_cell.ensures (join_below-suc c.loop-number.number parts)
