-- The keys that are left have the faults of all.
use Rattle.std.proofs.Common.{◌≡◌, drop}
use Rattle.toml.specs.View.{table_view}
use Rattle.refusals.specs.Faults.{items_from, per_item}
use Rattle.network_file.specs.inner.KeyTables.{keys_of}
use Rattle.network_file.specs.Refusals.{key_at}
use Rattle.network_file.proofs.judge.table.judge_known_keys.Given as goal

abbrev pub invariant-loop-k : goal.invariant-loop-k
invariant-loop-k l =
    per_item (keys_of l.keys) (key_at l.at (table_view l.table)) ≡ items_from l.k (keys_of (drop l.k l.keys)) (key_at l.at (table_view l.table))
