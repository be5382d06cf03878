use Rattle.std.proofs.Common.{◌≡◌, ◌≢◌, ℕ, All, drop}
use Rattle.std.specs.Prelude.{ℤ, pos, ◌+ℤ◌}
use Rattle.safe_bound.specs.inner.Paid.{IsLight, least_left, paid_at}
use Rattle.safe_bound.proofs.costed_box.settle_row.Given as goal

abbrev pub invariant-loop-term : goal.invariant-loop-term
invariant-loop-term l = record {
  value : l.settled +ℤ least_left l.program l.with_cost l.bounds l.paid ≡ least_left l.program l.with_cost l.bounds l.initial.paid;
  light : IsLight l.paid;
  settled : (j : ℕ) → (All (λ (term : ℕ × ℤ). term.0 ≢ j) l.terms → paid_at l.initial.paid j ≡ pos 0) → All (λ (term : ℕ × ℤ). term.0 ≢ j) (drop l.term-index l.terms) → paid_at l.paid j ≡ pos 0;
}
