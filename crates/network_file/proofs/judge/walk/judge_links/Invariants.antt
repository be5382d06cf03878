-- The values that are left decide.
use Rattle.std.proofs.Common.{◌≡◌}
use Rattle.network_file.specs.inner.Stages.{link_faults}
use Rattle.network_file.proofs.TableWalks.{left}
use Rattle.network_file.proofs.judge.walk.judge_links.Given as goal

abbrev pub invariant-loop-value : goal.invariant-loop-value
invariant-loop-value l = left l.k (link_faults l.stage) l.values l.value-index ≡ left 0 (link_faults l.stage) l.values 0
