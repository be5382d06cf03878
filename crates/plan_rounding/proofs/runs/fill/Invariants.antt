-- The word, with the runs that are left to add, is that of the first phases with all runs.
use Rattle.std.proofs.Common.{◌≡◌, ◌++◌, ◌-◌, ◌<◌, ◌≤◌, length}
use Rattle.std.specs.Prelude.{◌^◌, take}
use Rattle.traffic_model.specs.Runs.{letters_of_runs}
use Rattle.plan_rounding.specs.Named.{named_runs}
use Rattle.plan_rounding.proofs.runs.fill.Given as goal

abbrev pub invariant-loop : goal.invariant-loop
invariant-loop l = record {
  letters : take l.steps (l.word ++ letters_of_runs l.signal (named_runs l.signal l.long l.allowed (l.steps - l.counter)))
      ≡ take l.steps (l.initial.word ++ letters_of_runs l.signal (named_runs l.signal l.long l.first l.steps));
  within : length l.word ≤ l.steps;
  some : 0 < l.allowed;
  phases : l.allowed < 2 ^ length l.signal.phases;
}
