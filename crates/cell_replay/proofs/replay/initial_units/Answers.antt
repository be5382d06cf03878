use Rattle.std.proofs.Common.{◌≡◌, length, ap, ◌∙◌, sym, arith}
use Rattle.listed.proofs.TableLaws.{table_of-zero}
use Rattle.ct_base.specs.Access.{cell_of}
use Rattle.listed.specs.Below.{table_of}
use Rattle.traffic_model.specs.Occupancy.{initial_units}
use Rattle.cell_replay.proofs.Steps.{initial-more}
use Rattle.cell_replay.proofs.replay.initial_units.Goals as goal

pub loop-cell-init : goal.loop-cell-init
loop-cell-init c = record {
  items = c.in_ok-units.ensures.items ∙ sym (table_of-zero (λ i. (cell_of c.args.cells.now i).initial));
  length = c.in_ok-units.ensures.len;
}

pub loop-cell-preserved : goal.loop-cell-preserved
loop-cell-preserved c = record {
  items =
      c.in_ok-push.ensures.items
      ∙ initial-more c.args.cells.now c.loop-cell.cell-index c.loop-cell.units.items c.cell-item.result c.cell-item.result c.loop-cell-test.true c.cell-item.is
      c.loop-cell.invariant.items;
  length = omega (arith, c.in_ok-push.ensures.len, c.loop-cell.invariant.length);
}

pub returns-clause-value : goal.returns-clause-value
unfolding initial_units
returns-clause-value c =
    let all : c.loop-cell.cell-index ≡ length c.args.cells.now = omega arith in
    c.loop-cell.invariant.items ∙ ap (λ n. table_of n (λ i. (cell_of c.args.cells.now i).initial)) all
