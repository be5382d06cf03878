-- What stands there is the demand of the pieces that were reached.
use Rattle.std.proofs.Common.{◌≡◌, length, take}
use Rattle.demand.specs.Spread.{rates_of}
use Rattle.demand.proofs.sums.add_pieces.Given as goal

abbrev pub invariant-loop-piece : goal.invariant-loop-piece
invariant-loop-piece l = l.rates ≡ rates_of (take l.piece-index l.pieces) (length l.initial.rates)
