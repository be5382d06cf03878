use Rattle.std.proofs.Common.{ℕ, ◌<◌, take, All}
use Rattle.std.specs.Prelude.{ℤ}
use Rattle.sparse_program.specs.Terms.{AreTerms}
use Rattle.program_tests.proofs.one_link.are_terms.Given as goal

abbrev pub invariant-loop-term : goal.invariant-loop-term
invariant-loop-term l = record {
  lawful : AreTerms l.columns (take l.term-index l.terms);
  below : All (λ (term : ℕ × ℤ). term.0 < l.from) (take l.term-index l.terms);
}
