-- Each phase that was passed obeys its rules.
use Rattle.std.proofs.Common.{◌<◌, ℕ, length, slice_index_or}
use Rattle.ct_base.specs.Access.{no_phase}
use Rattle.ct_base.specs.Validity.{IsPhase}
use Rattle.ct_base.proofs.validity.signal.are_phases.Given as goal

abbrev pub invariant-loop-number : goal.invariant-loop-number
invariant-loop-number l = (p : ℕ) → p < l.number → IsPhase (length l.phases) p (slice_index_or l.phases p no_phase)
