-- The names of a network (docs/network-file.md, "Names"): those of its links and signals, and where each cell lies.
use Rattle.std.specs.Prelude.{◌≡◌, ℕ, ◌<◌, true, List, [], length, map, None, slice_index_or, All, EachIndex, IsSome}
use Rattle.ct_base.specs.Access.{cell_of, signal_of}
use Rattle.ct_base.specs.Validity.{IsValid}
use Rattle.ct_base.specs.declared.cell.Cell.{Cell}
use Rattle.ct_base.specs.declared.cell.Kind.TheVariants.{Queue, Road}
use Rattle.ct_base.specs.declared.net.Net.{Net}
use Rattle.ct_base.specs.declared.signal.Signal.{Signal}
use Rattle.texts.specs.Names.{all_differ, is_name}
use Rattle.named_net.specs.declared.names.SignalNames.{SignalNames}
use Rattle.named_net.specs.declared.names.Place.{Place}

-- the names of links and signals, one per link and per signal, and the places of cells, one per cell
pub record NameTable : Type 0 where
  pub links : List (List ℕ)
  pub signals : List SignalNames
  pub places : List Place

-- the names of the signal with a number
abbrev pub signal_names_at : NameTable → ℕ → SignalNames
signal_names_at names s = slice_index_or names.signals s (record { name = []; phases = [] })

-- the place of the cell with a number
abbrev pub place_at : NameTable → ℕ → Place
place_at names i = slice_index_or names.places i (record { link = 0; road = None })

-- a network of cells, and its names
pub record Named : Type 0 where
  pub net : Net
  pub names : NameTable

-- each cell lies in a link that is there
abbrev pub AreInLinks : NameTable → Type 0
AreInLinks names = All (λ (place : Place). place.link < length names.links) names.places

-- where a cell lies: in a link that is there, and at a place among its road cells, unless the cell is the link's queue
pub record IsPlaced (names : NameTable) (cell : Cell) (place : Place) : Type 0 where
  pub link : place.link < length names.links
  pub queue : cell.kind ≡ Queue → place.road ≡ None
  pub road : cell.kind ≡ Road → IsSome place.road

-- the names of a signal: one of its own and one per phase, which differ
pub record AreSignalNames (signal : Signal) (names : SignalNames) : Type 0 where
  pub name : is_name names.name ≡ true
  pub one_per_phase : length names.phases ≡ length signal.phases
  pub phases : All (λ name. is_name name ≡ true) names.phases
  pub differ : all_differ names.phases ≡ true

-- a valid network whose names fit it
pub record IsNamed (named : Named) : Type 0 where
  pub valid : IsValid named.net
  pub links : All (λ name. is_name name ≡ true) named.names.links
  pub one_per_signal : length named.names.signals ≡ length named.net.signals
  pub each_signal : EachIndex named.names.signals (λ s. AreSignalNames (signal_of named.net.signals s) (signal_names_at named.names s))
  pub differ : all_differ (map (λ (signal : SignalNames). signal.name) named.names.signals) ≡ true
  pub one_per_cell : length named.names.places ≡ length named.net.cells
  pub each_cell : EachIndex named.names.places (λ i. IsPlaced named.names (cell_of named.net.cells i) (place_at named.names i))
