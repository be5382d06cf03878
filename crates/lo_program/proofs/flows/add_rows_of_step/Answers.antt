use Rattle.std.proofs.Common.{◌≡◌, ◌∙◌, rules, length, subst}
use Rattle.listed.specs.Below.{join_below}
use Rattle.program_model.specs.FlowRows.{flow_rows_at}
use Rattle.lo_program.specs.inner.Adding.{Adds}
use Rattle.program_columns.specs.Columns.{arrived_before}
use Rattle.program_layout.proofs.LayoutLaws.{from_table}
use Rattle.lo_program.proofs.RowLaws.{adds_no_part, adds_part, fits_part, same_columns}
use Rattle.lo_program.proofs.flows.add_rows_of_step.Goals as goal

pub loop-i-init : goal.loop-i-init
loop-i-init c = adds_no_part c.args.net.now c.args.builder.now (flow_rows_at c.args.net.now c.args.t)

pub bounds-arrived-i : goal.bounds-arrived-i
bounds-arrived-i c = (from_table c.args.arrived.now (length c.args.net.now.cells) (arrived_before c.args.net.now.cells c.args.t) c.loop-i.i 0 c.requires.arrived (search (rules, c.loop-i-test.true))).0

pub add_rows_of_cell-requires-clause-arrived : goal.add_rows_of_cell-requires-clause-arrived
add_rows_of_cell-requires-clause-arrived c = (from_table c.args.arrived.now (length c.args.net.now.cells) (arrived_before c.args.net.now.cells c.args.t) c.loop-i.i 0 c.requires.arrived (search (rules, c.loop-i-test.true))).1

pub add_rows_of_cell-requires-clause-fits : goal.add_rows_of_cell-requires-clause-fits
add_rows_of_cell-requires-clause-fits c =
    fits_part c.args.net.now c.args.builder.now c.loop-i.builder (length c.args.net.now.cells) c.loop-i.i (flow_rows_at c.args.net.now c.args.t) c.requires.fits (search (rules, c.loop-i-test.true)) c.loop-i.invariant

pub add_rows_of_cell-requires-clause-all_columns : goal.add_rows_of_cell-requires-clause-all_columns
add_rows_of_cell-requires-clause-all_columns c =
    same_columns c.args.net.now c.args.builder.now c.loop-i.builder (join_below c.loop-i.i (flow_rows_at c.args.net.now c.args.t)) c.loop-i.invariant ∙ c.requires.all_columns

pub loop-i-preserved : goal.loop-i-preserved
loop-i-preserved c = adds_part c.args.net.now c.args.builder.now c.loop-i.builder c.add_rows_of_cell.new.builder c.loop-i.i (flow_rows_at c.args.net.now c.args.t) c.loop-i.invariant c.in_ok-add_rows_of_cell.ensures

pub returns : goal.returns
returns c =
    let all : c.loop-i.i ≡ length c.args.net.now.cells = search (rules, c.loop-i-test.false, c.loop-i.auto.i-end) in
    subst (λ n. Adds c.args.net.now c.args.builder.now c.loop-i.builder (join_below n (flow_rows_at c.args.net.now c.args.t))) all c.loop-i.invariant
