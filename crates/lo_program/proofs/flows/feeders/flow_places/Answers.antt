use Rattle.std.proofs.Common.{◌∙◌, sym}
use Rattle.listed.proofs.TableLaws.{table_of-suc, table_of-zero}
use Rattle.lo_program.specs.inner.Flows.{flow_place}
use Rattle.lo_program.proofs.flows.feeders.flow_places.Goals as goal

pub loop-i-init : goal.loop-i-init
loop-i-init c = c.new-flows.ensures ∙ sym (table_of-zero (flow_place c.args.net.now.cells))

pub loop-i-preserved : goal.loop-i-preserved
loop-i-preserved c =
    c.in_ok-push.ensures.ok ∙ rw (table_of-suc, c.loop-i.invariant, c.flow_place.ensures)
