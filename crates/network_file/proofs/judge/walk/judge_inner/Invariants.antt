-- The values that are left decide.
use Rattle.std.proofs.Common.{◌≡◌}
use Rattle.network_file.specs.inner.Stages.{inner_faults_at}
use Rattle.network_file.proofs.TableWalks.{left}
use Rattle.network_file.proofs.judge.walk.judge_inner.Given as goal

abbrev pub invariant-loop-value : goal.invariant-loop-value
invariant-loop-value l = left l.j (inner_faults_at l.stage l.inner l.k) l.values l.value-index ≡ left 0 (inner_faults_at l.stage l.inner l.k) l.values 0
