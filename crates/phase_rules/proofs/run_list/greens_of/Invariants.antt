-- The greens that ended, and those of what is left, are all greens; and the green under way is no longer than what was read.
use Rattle.std.proofs.Common.{◌≡◌, ◌++◌, ◌≤◌, ℕ}
use Rattle.std.specs.Prelude.{drop, IfSome}
use Rattle.phase_rules.specs.inner.Greens.{greens_from, greens_of}
use Rattle.phase_rules.proofs.run_list.greens_of.Given as goal

abbrev pub invariant-loop-letter : goal.invariant-loop-letter
invariant-loop-letter l = record {
  greens : l.greens ++ greens_from l.current (drop l.letter-index l.word) ≡ greens_of l.word;
  short : IfSome l.current (λ (green : ℕ × ℕ). green.1 ≤ l.letter-index);
}
