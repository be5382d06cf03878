-- The terms so far are added.
use Rattle.std.proofs.Common.{◌≡◌, ℕ, ◌∷◌, ◌++◌, take}
use Rattle.std.specs.Prelude.{ℤ, flat_map}
use Rattle.program_text.specs.ProgramText.{term_word}
use Rattle.program_text.proofs.program.push_terms.Given as goal

abbrev pub invariant-loop-term : goal.invariant-loop-term
invariant-loop-term l = l.text.items ≡ l.fn.text.items ++ flat_map (λ (term : ℕ × ℤ). 32 ∷ term_word term) (take l.term-index l.terms)
