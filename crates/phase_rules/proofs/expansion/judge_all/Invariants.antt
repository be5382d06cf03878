-- No run that was reached has a fault, and their letters are counted.
use Rattle.std.proofs.Common.{◌≡◌, ◌+◌, ◌≤◌, [], map}
use Rattle.listed.specs.Below.{join_below}
use Rattle.phase_rules.specs.Expansion.{begins_at, faults_at, run_by}
use Rattle.phase_rules.proofs.expansion.judge_all.Given as goal

abbrev pub invariant-loop-j : goal.invariant-loop-j
invariant-loop-j l = record {
  fine : join_below l.j (faults_at l.signal (map run_by l.runs) l.steps) ≡ [];
  counted : l.letters ≡ begins_at l.signal (map run_by l.runs) l.j;
  reached : l.j ≤ l.letters;
  bounded : l.letters ≤ l.steps + 20;
}
