use Rattle.cell_replay.proofs.Passing.{AreMoved}
use Rattle.cell_replay.proofs.moves.receive.Given as goal

abbrev pub invariant-loop-number : goal.invariant-loop-number
invariant-loop-number l = AreMoved l.cells l.step l.initial.units l.outflows l.number l.units
