-- The names that a file gives to the parts of a network (docs/network-file.md, "Names"), and where each cell lies.
use Rattle.std.specs.Prelude.{ℕ, List, ◌++◌, length, map, Some, None}
use Rattle.listed.specs.Below.{join_below, table_of}
use Rattle.named_net.specs.Naming.{NameTable}
use Rattle.named_net.specs.declared.names.SignalNames.{SignalNames}
use Rattle.named_net.specs.declared.names.Place.{Place}
use Rattle.network_file.specs.declared.raw.RawNet.{RawNet}
use Rattle.network_file.specs.declared.raw.RawLink.{RawLink}
use Rattle.network_file.specs.declared.raw.RawSignal.{RawSignal}
use Rattle.cell_build.specs.Link.{where_demand}
use Rattle.cell_build.specs.Names.{link_names, raw_link, phase_names}

-- the places of the cells of link k: its queue, where there is demand, and then its road cells
abbrev pub places_of_link : ℕ → RawLink → List Place
places_of_link k link = where_demand link.pieces (record { link = k; road = None }) ++ table_of link.cells (λ i. record { link = k; road = Some i })

-- the places of all cells, link by link
unfoldable pub places_of : List RawLink → List Place
places_of links = join_below (length links) (λ k. places_of_link k (raw_link links k))

-- the names of a signal and of its phases
abbrev pub names_of_signal : RawSignal → SignalNames
names_of_signal signal = record { name = signal.name; phases = phase_names signal }

-- the names that a file gives
abbrev pub names_of : RawNet → NameTable
names_of raw = record { links = link_names raw.links; signals = map names_of_signal raw.signals; places = places_of raw.links }
