use Rattle.std.proofs.Common.{◌≡◌, ℕ, ◌<◌, get_or, length, pos, ◌≤ℤ◌, ◌<ℤ◌}
use Rattle.flow_switches.proofs.first_least.least.Given as goal

-- the place and the value are those of the first least number so far
abbrev pub invariant-loop-k : goal.invariant-loop-k
invariant-loop-k l = record {
  within : l.place < length l.terms;
  is : get_or l.terms l.place (pos 0) ≡ l.value;
  least : (k : ℕ) → k < l.k → l.value ≤ℤ get_or l.terms k (pos 0);
  first : (k : ℕ) → k < l.place → l.value <ℤ get_or l.terms k (pos 0);
}
