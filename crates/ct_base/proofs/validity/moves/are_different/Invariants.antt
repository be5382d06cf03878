-- The branches that were passed lead into different cells.
use Rattle.std.proofs.Common.{◌<◌, ◌≢◌, ℕ, slice_index_or}
use Rattle.ct_base.proofs.validity.moves.are_different.Given as goal

abbrev pub invariant-loop-later : goal.invariant-loop-later
invariant-loop-later l = (i j : ℕ) (d : ℕ × ℕ) → i < j → j < l.later → (slice_index_or l.turns i d).0 ≢ (slice_index_or l.turns j d).0
