-- The values that are left decide, with the names of those before them.
use Rattle.std.proofs.Common.{◌≡◌}
use Rattle.network_file.specs.inner.SameNames.{signal_after}
use Rattle.network_file.proofs.NameLists.{left}
use Rattle.network_file.proofs.judge.names.judge_signals.Given as goal

abbrev pub invariant-loop-index : goal.invariant-loop-index
invariant-loop-index l = left l.s signal_after l.values l.index ≡ left 0 signal_after l.values 0
