use Rattle.std.proofs.Common.{◌∙◌, arith}
use Rattle.cell_replay.proofs.Steps.{fits, held_after-next, sent-held, sent-small}
use Rattle.cell_replay.proofs.moves.advance.Goals as goal

pub send-delay-requires-clause-fit : goal.send-delay-requires-clause-fit
send-delay-requires-clause-fit c =
    rw c.as_slice-cells.ensures (fits c.args.net.now c.args.step c.args.units.now c.requires.valid (omega arith) c.requires.held)

pub receive-requires-clause-fit : goal.receive-requires-clause-fit
receive-requires-clause-fit c =
    rw c.as_slice-cells.ensures (fits c.args.net.now c.args.step c.args.units.now c.requires.valid (omega arith) c.requires.held)

pub receive-requires-clause-held : goal.receive-requires-clause-held
receive-requires-clause-held c =
    rw c.as_slice-cells.ensures
    (sent-held c.args.net.now c.args.letters.now c.args.units.now c.send-delay.new.outflows (rw c.as_slice-cells.ensures at c.send-delay.ensures.outflows))

pub receive-requires-clause-small : goal.receive-requires-clause-small
receive-requires-clause-small c =
    rw c.as_slice-cells.ensures
    (sent-small c.args.net.now c.args.letters.now c.args.units.now c.send-delay.new.outflows c.requires.valid
    (rw c.as_slice-cells.ensures at c.send-delay.ensures.outflows))

pub returns-clause-units : goal.returns-clause-units
returns-clause-units c =
    (rw c.as_slice-cells.ensures at c.receive.ensures)
    ∙ held_after-next c.args.net.now c.args.letters.now c.args.step c.args.units.now c.send-delay.new.outflows c.requires.valid
    (rw c.as_slice-cells.ensures at c.send-delay.ensures.outflows)
