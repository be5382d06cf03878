use Rattle.std.proofs.Common.{ℕ, ◌<◌, ◌≤◌, get_or}
use Rattle.std.specs.Prelude.{pos}
use Rattle.safe_bound.specs.inner.Pairs.{IsLawfulPair}
use Rattle.safe_bound.proofs.lawful.are_pairs.Given as goal

abbrev pub invariant-loop-pair : goal.invariant-loop-pair
invariant-loop-pair l = record {
  lawful : (m : ℕ) → m < l.pair-index → IsLawfulPair l.program.rows (get_or l.pairs m (0, pos 0));
  rises : (m n : ℕ) → m < n → n < l.pair-index → (get_or l.pairs m (0, pos 0)).0 < (get_or l.pairs n (0, pos 0)).0;
  behind : (m : ℕ) → m < l.pair-index → (get_or l.pairs m (0, pos 0)).0 < l.next;
  least : (row : ℕ) → ((m : ℕ) → m < l.pair-index → (get_or l.pairs m (0, pos 0)).0 < row) → l.next ≤ row;
}
