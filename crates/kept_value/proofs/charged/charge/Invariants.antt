use Rattle.std.proofs.Common.{◌≡◌, ℕ, ◌*◌, ◌<◌, ◌≤◌, ◌^◌, length, take}
use Rattle.std.specs.Prelude.{◌-ℤ◌, unsigned_abs}
use Rattle.kept_value.specs.Kept.{reduced_at}
use Rattle.kept_value.specs.inner.Charged.{charged, least_of}
use Rattle.kept_value.proofs.charged.charge.Given as goal

abbrev pub invariant-loop-term : goal.invariant-loop-term
invariant-loop-term l = record {
  value : l.gain ≡ least_of (length l.initial.reduced) l.bounds (charged (reduced_at l.initial.reduced) l.price (take l.term-index l.terms)) -ℤ least_of (length l.initial.reduced) l.bounds (reduced_at l.initial.reduced);
  small : unsigned_abs l.gain ≤ 2 ^ 101 * l.term-index;
  reduced : (j : ℕ) → j < length l.reduced → reduced_at l.reduced j ≡ charged (reduced_at l.initial.reduced) l.price (take l.term-index l.terms) j;
}
