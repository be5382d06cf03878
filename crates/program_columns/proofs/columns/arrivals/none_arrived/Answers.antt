use Rattle.std.proofs.Common.{◌∙◌, sym}
use Rattle.listed.proofs.SumLaws.{sum_below-zero}
use Rattle.listed.proofs.TableLaws.{table_of-zero}
use Rattle.ct_base.specs.Access.{cell_of}
use Rattle.traffic_model.specs.Occupancy.{demand_at}
use Rattle.program_columns.specs.Columns.{arrived_before}
use Rattle.program_layout.proofs.LayoutLaws.{table_more}
use Rattle.program_columns.proofs.columns.arrivals.none_arrived.Goals as goal

pub loop-i-init : goal.loop-i-init
loop-i-init c = c.new-arrived.ensures ∙ sym (table_of-zero (arrived_before c.args.net.now.cells 0))

pub loop-i-preserved : goal.loop-i-preserved
loop-i-preserved c =
    c.in_ok-push.ensures.ok
    ∙ table_more c.loop-i.i (arrived_before c.args.net.now.cells 0) c.loop-i.arrived 0 c.loop-i.invariant (sym (sum_below-zero (demand_at (cell_of c.args.net.now.cells c.loop-i.i))))
