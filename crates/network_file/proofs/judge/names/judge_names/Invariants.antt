-- The values that are left decide, with the names of those before them.
use Rattle.std.proofs.Common.{◌≡◌}
use Rattle.network_file.specs.inner.SameNames.{name_after, named_at}
use Rattle.network_file.proofs.NameLists.{left}
use Rattle.network_file.proofs.judge.names.judge_names.Given as goal

abbrev pub invariant-loop-index : goal.invariant-loop-index
invariant-loop-index l = left l.k (name_after (named_at l.named)) l.values l.index ≡ left 0 (name_after (named_at l.named)) l.values 0
