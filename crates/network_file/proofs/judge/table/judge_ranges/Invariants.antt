-- The keys that are left have the faults of all.
use Rattle.std.proofs.Common.{◌≡◌, drop}
use Rattle.toml.specs.View.{table_view}
use Rattle.refusals.specs.Faults.{items_from, per_item}
use Rattle.network_file.specs.inner.KeyTables.{keys_of}
use Rattle.network_file.specs.Refusals.{range_at}
use Rattle.network_file.proofs.judge.table.judge_ranges.Given as goal

abbrev pub invariant-loop-k : goal.invariant-loop-k
invariant-loop-k l =
    per_item (keys_of l.keys) (range_at l.at (table_view l.table)) ≡ items_from l.k (keys_of (drop l.k l.keys)) (range_at l.at (table_view l.table))
