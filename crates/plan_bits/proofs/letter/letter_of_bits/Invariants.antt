use Rattle.std.proofs.Common.{◌≢◌, ◌<◌, ℕ, get_or}
use Rattle.std.specs.Prelude.{pos}
use Rattle.plan_bits.proofs.letter.letter_of_bits.Given as goal

-- no bit that was passed is 1
abbrev pub invariant-loop-place : goal.invariant-loop-place
invariant-loop-place l = (k : ℕ) → k < l.place → get_or l.bits k (pos 0) ≢ pos 1
