use Rattle.std.proofs.Common.{◌≡◌}
use Rattle.listed.specs.Below.{join_below}
use Rattle.ct_base.specs.Access.{phase_of}
use Rattle.program_model.specs.Columns.{letters_by}
use Rattle.plan_bits.proofs.letter.letters_of.Given as goal

-- the letters of the phases that were passed
abbrev pub invariant-loop-p : goal.invariant-loop-p
invariant-loop-p l = l.letters ≡ join_below l.p (λ p. letters_by p (phase_of l.signal p).clear)
