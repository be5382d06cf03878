-- The word has room left or none, and some phase may follow.
use Rattle.std.proofs.Common.{◌<◌, ◌≤◌, length}
use Rattle.std.specs.Prelude.{◌^◌}
use Rattle.plan_rounding.proofs.splits.split_word.Given as goal

abbrev pub invariant-loop : goal.invariant-loop
invariant-loop l = record {
  within : length l.word ≤ l.steps;
  some : 0 < l.allowed;
  phases : l.allowed < 2 ^ length l.signal.phases;
}
