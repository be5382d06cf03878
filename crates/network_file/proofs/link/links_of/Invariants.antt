-- What was read and what is left are all that there is.
use Rattle.std.proofs.Common.{◌≡◌, ◌++◌, drop, map}
use Rattle.toml.specs.View.{items_view}
use Rattle.network_file.specs.Documents.{tables_among}
use Rattle.network_file.specs.Spelled.{link_of}
use Rattle.network_file.proofs.link.links_of.Given as goal

abbrev pub invariant-loop-value : goal.invariant-loop-value
invariant-loop-value l = l.links ++ map link_of (tables_among (items_view (drop l.value-index l.values))) ≡ map link_of (tables_among (items_view l.values))
