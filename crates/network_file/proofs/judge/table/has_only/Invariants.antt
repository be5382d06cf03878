-- The keys that are left decide.
use Rattle.std.proofs.Common.{◌≡◌}
use Rattle.std.specs.Map.{keys_of}
use Rattle.network_file.proofs.KeyLists.{are_known}
use Rattle.network_file.proofs.judge.table.has_only.Given as goal

abbrev pub invariant-loop-name : goal.invariant-loop-name
invariant-loop-name l = are_known l.keys l.name-iterator ≡ are_known l.keys (keys_of l.table.entries)
