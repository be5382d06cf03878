-- What was read and what is left are all that there is.
use Rattle.std.proofs.Common.{◌≡◌, ◌++◌, drop}
use Rattle.toml.specs.View.{items_view}
use Rattle.network_file.specs.Documents.{each_item, number_of}
use Rattle.network_file.proofs.document.numbers_of.Given as goal

abbrev pub invariant-loop-value : goal.invariant-loop-value
invariant-loop-value l = l.numbers ++ each_item number_of (items_view (drop l.value-index l.values)) ≡ each_item number_of (items_view l.values)
