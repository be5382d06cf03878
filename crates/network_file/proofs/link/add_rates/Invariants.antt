-- The pieces so far and those of the rates that are left are all the pieces.
use Rattle.std.proofs.Common.{◌≡◌, ◌++◌, drop}
use Rattle.toml.specs.View.{items_view}
use Rattle.network_file.specs.Documents.{each_item, number_of}
use Rattle.network_file.specs.Spelled.{pieces_from}
use Rattle.network_file.proofs.link.add_rates.Given as goal

abbrev pub invariant-loop-step : goal.invariant-loop-step
invariant-loop-step l = l.pieces ++ pieces_from l.step (each_item number_of (items_view (drop l.step l.rates))) ≡ l.initial.pieces ++ pieces_from 0 (each_item number_of (items_view l.rates))
