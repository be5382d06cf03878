use Rattle.std.proofs.Common.{◌≡◌, ◌*◌, ◌≤◌, ◌^◌, true, false, length, take}
use Rattle.std.specs.Prelude.{pos, ◌-ℤ◌, unsigned_abs}
use Rattle.sparse_program.specs.Terms.{terms_sum}
use Rattle.kept_value.specs.Kept.{reduced_at}
use Rattle.kept_value.specs.inner.Charged.{IsSteepest, stands_at}
use Rattle.kept_value.proofs.charged.slopes_of.Given as goal

abbrev pub invariant-loop-term : goal.invariant-loop-term
invariant-loop-term l = record {
  rising : l.up ≡ pos 0 -ℤ terms_sum (take l.term-index l.terms) (stands_at l.bounds (reduced_at l.reduced) l.terms l.price true);
  falling : l.down ≡ pos 0 -ℤ terms_sum (take l.term-index l.terms) (stands_at l.bounds (reduced_at l.reduced) l.terms l.price false);
  up : IsSteepest (length l.reduced) l.bounds (reduced_at l.reduced) (take l.term-index l.terms) l.price l.up;
  down : IsSteepest (length l.reduced) l.bounds (reduced_at l.reduced) (take l.term-index l.terms) l.price l.down;
  few_up : unsigned_abs l.up ≤ 2 ^ 40 * l.term-index;
  few_down : unsigned_abs l.down ≤ 2 ^ 40 * l.term-index;
}
