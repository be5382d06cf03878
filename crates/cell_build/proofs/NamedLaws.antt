-- The names of a network that is read and has no fault fit it.
use Rattle.std.proofs.Common.{◌≡◌, inl, inr, ℕ, ◌<◌, true, List, [], length, get_or, Some, None, All, refl, subst, sym, ap, ◌∙◌, arith}
use Rattle.std.proofs.lemmas.Bool.{cases_lt}
use Rattle.std.proofs.lemmas.List.{get_or-map, length-map}
use Rattle.std.proofs.lemmas.Simd.{map-map}
use Rattle.std.proofs.lemmas.List.Elements.{All-map}
use Rattle.ct_base.specs.Access.{cell_of, signal_of as built_signal}
use Rattle.ct_base.specs.declared.cell.Kind.TheVariants.{Queue, Road}
use Rattle.network_file.specs.Range.{IsInRange, IsSignalInRange, all_differ}
use Rattle.network_file.specs.declared.raw.RawNet.{RawNet}
use Rattle.network_file.specs.declared.raw.RawLink.{RawLink}
use Rattle.network_file.specs.declared.raw.RawPhase.{RawPhase}
use Rattle.texts.specs.Names.{is_name}
use Rattle.cell_build.specs.Built.{named_of, signal_built}
use Rattle.cell_build.specs.Link.{cell_count, cells_below, queue_count}
use Rattle.cell_build.specs.Names.{link_names, raw_link, no_signal, raw_signal}
use Rattle.named_net.specs.Naming.{AreInLinks, AreSignalNames, IsNamed, IsPlaced, NameTable, place_at}
use Rattle.cell_build.specs.Naming.{names_of, names_of_signal, places_of, places_of_link}
use Rattle.cell_build.specs.Refusals.{faults_of}
use Rattle.named_net.specs.declared.names.Place.{Place}
use Rattle.named_net.specs.declared.names.SignalNames.{SignalNames}
use Rattle.listed.proofs.JoinLaws.{get_or-join_below, length-join_below, All-join_below}
use Rattle.cell_build.proofs.FaultLaws.{HasNoFault, has_no_fault}
use Rattle.cell_build.proofs.NetworkLaws.{named_is_valid}
use Rattle.cell_build.proofs.PlaceLaws.{IsAt, cell_is_link_cell, cells_of, length-cells_of, place_of}
use Rattle.cell_build.proofs.SignalLaws.{count_of_phases, signals_of}
use Rattle.cell_build.proofs.LinkCells.{length-with_queue, with_queue-first, with_queue-road}

-- the place of the queue of link k, and of its road cell i
abbrev queue_place : ℕ → Place
queue_place k = record { link = k; road = None }

abbrev road_place : ℕ → ℕ → Place
road_place k i = record { link = k; road = Some i }

-- a link has as many places as cells
length-places_of_link : (k : ℕ) (link : RawLink) → length (places_of_link k link) ≡ cell_count link
length-places_of_link k link = length-with_queue link.pieces (queue_place k) link.cells (road_place k)

pub length-places_of : (links : List RawLink) → length (places_of links) ≡ cells_below links (length links)
unfolding places_of
length-places_of links = length-join_below (length links) (λ k. places_of_link k (raw_link links k)) (λ k. cell_count (raw_link links k)) (λ k. length-places_of_link k (raw_link links k))

-- each place of link k is one of a link that is there
places_of_link_are_of : (k n : ℕ) (link : RawLink) → k < n → All (λ (place : Place). place.link < n) (places_of_link k link)
places_of_link_are_of k n link within = λ i d there.
    elim (cases_lt i (queue_count link.pieces)) [
      | inl before ↦ rw (with_queue-first link.pieces (queue_place k) link.cells (road_place k) i d before) within
      | inr after ↦ rw (with_queue-road link.pieces (queue_place k) link.cells (road_place k) i d after (omega (arith, there, length-places_of_link k link))) within
    ]

places_are_of : (links : List RawLink) → All (λ (place : Place). place.link < length links) (places_of links)
unfolding places_of
places_are_of links =
    All-join_below (λ (place : Place). place.link < length links) (length links) (λ k. places_of_link k (raw_link links k))
    (λ k within. places_of_link_are_of k (length links) (raw_link links k) within)

-- the places of the cells are in links that are there
pub are_in_links : (links : List RawLink) (names : NameTable) → names.links ≡ link_names links → names.places ≡ places_of links → AreInLinks names
are_in_links links names same_links same_places = rw (same_links, same_places, length-map) (places_are_of links)

-- cell j of the network, which is cell i of link k, has the place of that cell
place_of_cell : (links : List RawLink) (j k i : ℕ) (d : Place) → IsAt links j k i → get_or (places_of links) j d ≡ get_or (places_of_link k (raw_link links k)) i d
unfolding places_of
place_of_cell links j k i d here =
    ap (λ j. get_or (places_of links) j d) here.is
    ∙ get_or-join_below (length links) (λ k. places_of_link k (raw_link links k)) (λ m. cell_count (raw_link links m)) k i d (λ k. length-places_of_link k (raw_link links k)) here.link here.cell

-- it is a queue without a place, or a road cell with one
cell_is_placed : (raw : RawNet) (j k i : ℕ) → IsInRange raw → HasNoFault raw → IsAt raw.links j k i → IsPlaced (names_of raw) (cell_of (cells_of raw) j) (place_at (names_of raw) j)
cell_is_placed raw j k i in_range fine here =
    let link = raw_link raw.links k in
    let queues = queue_count link.pieces in
    let cell = cell_of (cells_of raw) j in
    let is = cell_is_link_cell raw j k i in_range fine here in
    let P : Place → Type 0 = λ place. IsPlaced (names_of raw) cell place in
    let is_there : k < length (link_names raw.links) = rw length-map here.link in
    let among = place_of_cell raw.links j k i (record { link = 0; road = None }) here in
    elim (cases_lt i queues) [
      | inl before ↦
          let is_queue : cell.kind ≡ Queue = is.queue before in
          subst P (sym (among ∙ with_queue-first link.pieces (queue_place k) link.cells (road_place k) i (record { link = 0; road = None }) before))
          (record { link = is_there; queue = λ _. refl; road = λ is_road. absurd (cc) })
      | inr after ↦
          let is_road : cell.kind ≡ Road = is.road after in
          subst P (sym (among ∙ with_queue-road link.pieces (queue_place k) link.cells (road_place k) i (record { link = 0; road = None }) after here.cell))
          (record { link = is_there; queue = λ is_queue. absurd (cc); road = λ _. refl })
    ]

-- the names of signal s, as the network has it
signal_is_named : (raw : RawNet) (s : ℕ) → IsInRange raw → s < length raw.signals → AreSignalNames (built_signal (signals_of raw) s) (names_of_signal (raw_signal raw.signals s))
signal_is_named raw s in_range within =
    let signal = raw_signal raw.signals s in
    let limits : IsSignalInRange signal = in_range.each_signal s no_signal within in
    record {
      name = limits.name;
      one_per_phase = length-map signal.phases (λ (phase : RawPhase). phase.name) ∙ sym (count_of_phases raw s within);
      phases = All-map (λ name. is_name name ≡ true) (λ (phase : RawPhase). phase.name) signal.phases (λ p d there. (limits.each_phase p d there).name);
      differ = limits.names_differ;
    }

-- the network is valid, and its names fit it
pub named_is_named : (raw : RawNet) → IsInRange raw → faults_of raw ≡ [] → IsNamed (named_of raw)
unfolding named_of
named_is_named raw in_range none = record {
  valid = named_is_valid raw in_range none;
  links = All-map (λ name. is_name name ≡ true) (λ (link : RawLink). link.name) raw.links (λ k d there. (in_range.each_link k d there).name);
  one_per_signal = length-map raw.signals names_of_signal ∙ sym (length-map raw.signals signal_built);
  each_signal = λ s there.
      let within : s < length raw.signals = omega (arith, there, length-map raw.signals names_of_signal) in
      rw (get_or-map names_of_signal raw.signals s no_signal (record { name = []; phases = [] }) within) (signal_is_named raw s in_range within);
  differ = ap all_differ (map-map (λ (names : SignalNames). names.name) names_of_signal raw.signals) ∙ in_range.signals_differ;
  one_per_cell = length-places_of raw.links ∙ sym (length-cells_of raw);
  each_cell = λ j there.
      let within : j < cells_below raw.links (length raw.links) = omega (arith, there, length-places_of raw.links) in
      let part = place_of raw.links j within in
      cell_is_placed raw j part.0 part.1 in_range (has_no_fault raw none) part.2;
}
