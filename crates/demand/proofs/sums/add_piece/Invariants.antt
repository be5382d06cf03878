-- The steps of the piece that were reached have its rate more, and the others what they had.
use Rattle.std.proofs.Common.{◌≡◌, ℕ, ◌+◌, ◌<◌, ◌&&◌, nat_lt, nat_le, if◌then◌else◌, length, slice_index}
use Rattle.demand.proofs.sums.add_piece.Given as goal

abbrev pub invariant-loop-step : goal.invariant-loop-step
invariant-loop-step l =
    (k : ℕ) → k < length l.rates → slice_index l.rates k ≡ slice_index l.initial.rates k + (if nat_le l.piece.first k && nat_lt k l.step then l.piece.rate else 0)
