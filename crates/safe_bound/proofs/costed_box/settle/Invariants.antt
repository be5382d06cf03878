use Rattle.std.proofs.Common.{◌≡◌, ℕ, drop}
use Rattle.std.specs.Prelude.{pos, ◌+ℤ◌}
use Rattle.safe_bound.specs.inner.Paid.{IsLight, IsUnnamed, least_left, paid_at}
use Rattle.safe_bound.proofs.costed_box.settle.Given as goal

abbrev pub invariant-loop-pair : goal.invariant-loop-pair
invariant-loop-pair l = record {
  value : l.settled +ℤ least_left l.program l.with_cost l.bounds l.paid ≡ least_left l.program l.with_cost l.bounds l.initial.paid;
  light : IsLight l.paid;
  named : (j : ℕ) → IsUnnamed l.program.rows (drop l.pair-index l.pairs) j → paid_at l.paid j ≡ pos 0;
}
