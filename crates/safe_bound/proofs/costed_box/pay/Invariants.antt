use Rattle.std.proofs.Common.{◌≡◌, ℕ, ◌<◌, length, take}
use Rattle.safe_bound.specs.inner.Paid.{paid_at, paid_for, paid_for_sides}
use Rattle.safe_bound.proofs.costed_box.pay.Given as goal

abbrev pub invariant-loop-pair : goal.invariant-loop-pair
invariant-loop-pair l = record {
  sides : l.sides ≡ paid_for_sides l.program.rows (take l.pair-index l.pairs);
  paid : (j : ℕ) → j < length l.paid → paid_at l.paid j ≡ paid_for l.program.rows (take l.pair-index l.pairs) j;
}
