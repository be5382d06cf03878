use Rattle.std.proofs.Common.{◌≡◌, ap, ◌+◌, ◌∙◌, length, sym, arith}
use Rattle.listed.proofs.SumLaws.{sum_below-suc}
use Rattle.listed.proofs.TableLaws.{table_of-zero}
use Rattle.ct_base.specs.Access.{cell_of}
use Rattle.ct_base.specs.declared.cell.Cell.{Cell}
use Rattle.traffic_model.specs.Occupancy.{demand_at}
use Rattle.program_columns.specs.Columns.{arrived_before}
use Rattle.program_columns.proofs.CapLaws.{arrivals_small}
use Rattle.program_layout.proofs.LayoutLaws.{from_table, table_more}
use Rattle.program_columns.proofs.columns.arrivals.more_arrived.Goals as goal

pub loop-i-init : goal.loop-i-init
loop-i-init c = c.new-more.ensures ∙ sym (table_of-zero (arrived_before c.args.net.now.cells (c.args.t + 1)))

pub bounds-arrived-i : goal.bounds-arrived-i
bounds-arrived-i c = (from_table c.args.arrived.now (length c.args.net.now.cells) (arrived_before c.args.net.now.cells c.args.t) c.loop-i.i 0 c.requires.arrived (omega arith)).0

pub overflow_add-arrived : goal.overflow_add-arrived
overflow_add-arrived c =
    let here = (from_table c.args.arrived.now (length c.args.net.now.cells) (arrived_before c.args.net.now.cells c.args.t) c.loop-i.i 0 c.requires.arrived (omega arith)).1 in
    let small = arrivals_small c.args.net.now c.args.t c.loop-i.i c.requires.valid c.requires.before (omega arith) in
    let demand : c.demand_at.result ≡ demand_at (cell_of c.args.net.now.cells c.loop-i.i) c.args.t =
    c.demand_at.ensures ∙ ap (λ (cell : Cell). demand_at cell c.args.t) c.cell.ensures.value in
    omega (arith, here, small.0, small.1, demand, c.requires.before, c.requires.valid.steps.1)

pub loop-i-preserved : goal.loop-i-preserved
loop-i-preserved c =
    let here = (from_table c.args.arrived.now (length c.args.net.now.cells) (arrived_before c.args.net.now.cells c.args.t) c.loop-i.i 0 c.requires.arrived (omega arith)).1 in
    let demand : c.demand_at.result ≡ demand_at (cell_of c.args.net.now.cells c.loop-i.i) c.args.t =
    c.demand_at.ensures ∙ ap (λ (cell : Cell). demand_at cell c.args.t) c.cell.ensures.value in
    c.in_ok-push.ensures.ok
    ∙ table_more c.loop-i.i (arrived_before c.args.net.now.cells (c.args.t + 1)) c.loop-i.more _ c.loop-i.invariant
    (omega (arith, here, demand, sum_below-suc c.args.t (demand_at (cell_of c.args.net.now.cells c.loop-i.i))))
