use Rattle.std.proofs.Common.{sym, ap, ◌∙◌, refl}
use Rattle.ct_base.specs.declared.cell.Cell.{Cell}
use Rattle.ct_base.specs.declared.cell.Out.TheVariants.{To}
use Rattle.traffic_model.proofs.TrafficLaws.{outflow-closed}
use Rattle.traffic_model.specs.Flow.{is_open}
use Rattle.cell_replay.specs.inner.Moves.{sent_by}
use Rattle.cell_replay.proofs.Flows.{outflow-sent_by}
use Rattle.cell_replay.proofs.flow.units_leaving.Goals as goal

pub returns-then-not-is_open-clause-value : goal.returns-then-not-is_open-clause-value
returns-then-not-is_open-clause-value c =
    sym (outflow-closed c.args.cells.now c.args.letters.now c.args.units.now c.args.number
    (ap (λ (cell : Cell). is_open c.args.letters.now cell.gate) (sym c.requires.cell) ∙ sym c.is_open.ensures ∙ c.if-not-is_open.true))

pub returns-in-To-clause-value : goal.returns-in-To-clause-value
returns-in-To-clause-value c =
    let leaves = outflow-sent_by c.args.cells.now c.args.letters.now c.args.units.now c.args.number c.args.cell.now (To c.in-To.target)
    c.requires.cell (sym c.is_open.ensures ∙ c.if-not-is_open.false) c.in-To.is in
    cc

pub returns-in_default-clause-value : goal.returns-in_default-clause-value
returns-in_default-clause-value c =
    let leaves = outflow-sent_by c.args.cells.now c.args.letters.now c.args.units.now c.args.number c.args.cell.now c.args.cell.now.out
    c.requires.cell (sym c.is_open.ensures ∙ c.if-not-is_open.false) refl in
    c.units_leaving_apart.ensures.value ∙ ap (λ n. sent_by c.args.cells.now c.args.units.now n c.args.cell.now.out) c.min-most.ensures ∙ sym leaves
