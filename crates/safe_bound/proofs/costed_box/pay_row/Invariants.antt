use Rattle.std.proofs.Common.{◌≡◌, ℕ, ◌<◌, length, take}
use Rattle.std.specs.Prelude.{◌+ℤ◌, ◌*ℤ◌}
use Rattle.sparse_program.specs.Terms.{coefficient}
use Rattle.safe_bound.specs.inner.Paid.{paid_at}
use Rattle.safe_bound.proofs.costed_box.pay_row.Given as goal

abbrev pub invariant-loop-term : goal.invariant-loop-term
invariant-loop-term l = (j : ℕ) → j < length l.paid → paid_at l.paid j ≡ paid_at l.initial.paid j +ℤ l.price *ℤ coefficient (take l.term-index l.terms) j
