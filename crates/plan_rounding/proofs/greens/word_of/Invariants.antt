-- The word has room left or none, and some phase may follow.
use Rattle.std.proofs.Common.{◌<◌, ◌≤◌, length}
use Rattle.std.specs.Prelude.{◌^◌}
use Rattle.plan_rounding.proofs.greens.word_of.Given as goal

abbrev pub invariant-loop-number : goal.invariant-loop-number
invariant-loop-number l = record {
  within : length l.word ≤ l.steps;
  some : 0 < l.allowed;
  phases : l.allowed < 2 ^ length l.signal.phases;
}
