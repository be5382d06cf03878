use Rattle.std.proofs.Common.{◌≡◌, ◌≤◌, ◌*◌, ◌^◌, take, unsigned_abs}
use Rattle.sparse_program.specs.Terms.{terms_sum}
use Rattle.program_model.specs.Points.{value_at}
use Rattle.point_decode.proofs.judge.terms_sum.Given as goal

abbrev pub invariant-loop-term : goal.invariant-loop-term
invariant-loop-term l = record {
  is : l.sum ≡ terms_sum (take l.term-index l.terms) (value_at l.point);
  small : unsigned_abs l.sum ≤ 2 ^ 40 * l.term-index;
}
