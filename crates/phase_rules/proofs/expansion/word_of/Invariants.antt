-- The word is that of the runs that were reached.
use Rattle.std.proofs.Common.{◌≡◌, ◌≤◌, length, map}
use Rattle.std.specs.Prelude.{take}
use Rattle.traffic_model.specs.Runs.{letters_of_runs}
use Rattle.phase_rules.specs.Expansion.{run_by}
use Rattle.phase_rules.proofs.expansion.word_of.Given as goal

abbrev pub invariant-loop-run : goal.invariant-loop-run
invariant-loop-run l = record {
  letters : l.word ≡ take l.steps (letters_of_runs l.signal (map run_by (take l.run-index l.runs)));
  within : length l.word ≤ l.steps;
}
