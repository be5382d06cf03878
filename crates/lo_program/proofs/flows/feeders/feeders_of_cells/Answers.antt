use Rattle.std.proofs.Common.{◌≡◌, length, ap, ◌∙◌, sym, arith}
use Rattle.listed.specs.Below.{table_of}
use Rattle.listed.proofs.TableLaws.{length-table_of, table_of-suc, table_of-zero}
use Rattle.lo_program.specs.inner.Flows.{feeders_of, flow_place}
use Rattle.lo_program.proofs.flows.feeders.feeders_of_cells.Goals as goal

pub loop-i-init : goal.loop-i-init
loop-i-init c = c.new-feeders.ensures ∙ sym (table_of-zero (feeders_of c.args.net.now.cells))

pub overflow_cast-i : goal.overflow_cast-i
overflow_cast-i c = omega (arith, c.loop-i-test.true, ap length c.requires.flows ∙ length-table_of (length c.args.net.now.cells) (flow_place c.args.net.now.cells), c.requires.valid.cells.1)

pub loop-i-preserved : goal.loop-i-preserved
loop-i-preserved c =
    c.in_ok-push.ensures.ok ∙ rw (table_of-suc, c.loop-i.invariant, c.in_ok-of_cell.ensures)

pub returns : goal.returns
returns c =
    let cells = c.args.net.now.cells in
    let long : length c.args.flows.now ≡ length cells = ap length c.requires.flows ∙ length-table_of (length cells) (flow_place cells) in
    let all : c.loop-i.i ≡ length cells = omega (arith, long) in
    c.loop-i.invariant ∙ ap (λ n. table_of n (feeders_of cells)) all
