use Rattle.std.proofs.Common.{◌≡◌, ◌≤◌, ◌+◌}
use Rattle.listed.specs.Below.{sum_below}
use Rattle.program_model.specs.Columns.{Bit}
use Rattle.rule_breaks.specs.inner.Parts.{on}
use Rattle.rule_breaks.proofs.lasting.steps_on.Given as goal

-- the steps that were passed
abbrev pub invariant-loop-k : goal.invariant-loop-k
invariant-loop-k l = record {
  value : l.steps ≡ sum_below l.k (λ k. on l.net l.bits (Bit (l.t + k) l.part.signal l.letter));
  few : l.steps ≤ l.k;
}
