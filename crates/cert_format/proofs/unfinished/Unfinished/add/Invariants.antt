-- The bytes so far are added.
use Rattle.std.proofs.Common.{◌≡◌, ◌-◌, ◌≤◌, ◌++◌, List, length, take, ℕ}
use Rattle.cert_format.specs.Unfinished.{ReadsAs}
use Rattle.cert_format.proofs.unfinished.Unfinished.add.Given as goal

abbrev pub invariant-loop-at : goal.invariant-loop-at
invariant-loop-at l = record {
  reads : (line : List ℕ) → ReadsAs l.fn.self.most l.fn.self.bytes line → ReadsAs l.fn.self.most l.self.bytes (line ++ take l.at l.bytes);
  most : l.self.most ≡ l.fn.self.most;
  within : l.at ≤ length l.bytes;
}

abbrev pub decreases-loop-at : goal.decreases-loop-at
decreases-loop-at l = length l.bytes - l.at
