-- What a network without a fault keeps, rule by rule.
use Rattle.std.proofs.Common.{◌≡◌, inl, inr, ℕ, ◌+◌, ◌<◌, ◌≤◌, true, false, not, ◌&&◌, ◌||◌, nat_lt, ◌==◌, List, [], length, map, take, get_or, Some, slice_index_or, All, sym, ◌∙◌, ◌≢◌, ◌∷◌, Option, None, Ok, refl, arith}
use Rattle.std.specs.List.{list_any}
use Rattle.std.specs.Str.{bytes_eq}
use Rattle.std.proofs.lemmas.Bool.{or_parts, not-false, eqb-true, ltb-false, cases_lt, lt-ltb, false≢true}
use Rattle.std.proofs.lemmas.List.Folds.{list_any_at}
use Rattle.network_file.specs.declared.raw.RawNet.{RawNet}
use Rattle.network_file.specs.declared.raw.RawLink.{RawLink}
use Rattle.network_file.specs.declared.raw.RawPhase.{RawPhase}
use Rattle.demand.specs.Spread.{faults_of as demand_faults, heavy_at, rate_at, rates_of}
use Rattle.refusals.specs.Faults.{per_item, unless}
use Rattle.cell_build.specs.Link.{cells_below, gate_of, initial_at, signal_named}
use Rattle.cell_build.specs.Names.{is_unknown, link_names, raw_link, no_link, no_phase, no_signal, phase_names, raw_phase, signal_names, raw_signal}
use Rattle.cell_build.specs.Refusals.{are_apart, demand, faults_of, fed, feeders, initial_in, initial_units, is_empty, itself, leads_to, many_cells, open_merge, out_both, phase, twice_turn, unknown_gate, unknown_greens_at, unknown_greens_of, unknown_link, unknown_next_at, unknown_nexts_of, unknown_phase, unknown_signal, unknown_start, unknown_start_at, unknown_to, unknown_turn_at, unknown_signal_at}
use Rattle.cell_build.specs.declared.fault.BuildFault.TheVariants.{UnknownLink, UnknownSignal, UnknownPhase, Itself, TwiceTurn, Fed, OpenMerge, Initial, Cells, Demand, Phase}
use Rattle.demand.specs.declared.fault.DemandFault.TheVariants.{Heavy}
use Rattle.cell_build.specs.declared.fault.PhaseAt.TheVariants.{Green, Start, Next}
use Rattle.listed.proofs.JoinLaws.{append_none, map_none}
use Rattle.refusals.proofs.FirstFaults.{where_none, unless_fine}
use Rattle.refusals.proofs.Items.{per_item_none}
use Rattle.demand.proofs.DemandLaws.{length-rates_of, slice_index-rates_of}
use Rattle.std.specs.Prelude.{⊤}
use Rattle.std.proofs.lemmas.List.{get_or_default}
use Rattle.network_file.specs.declared.raw.RawSignal.{RawSignal}

-- no rule has a place that breaks it
pub record HasNoFault (raw : RawNet) : Type 0 where
  pub unknown_link : unknown_link raw.links ≡ []
  pub unknown_signal : unknown_signal raw.signals raw.links ≡ []
  pub unknown_greens : per_item raw.links (unknown_greens_at raw.signals) ≡ []
  pub unknown_starts : per_item raw.signals unknown_start_at ≡ []
  pub unknown_nexts : per_item raw.signals unknown_nexts_of ≡ []
  pub out_both : out_both raw.links ≡ []
  pub itself : itself raw.links ≡ []
  pub twice_turn : twice_turn raw.links ≡ []
  pub fed : fed raw.links ≡ []
  pub open_merge : open_merge raw.signals raw.links ≡ []
  pub initial_units : initial_units raw.links ≡ []
  pub many_cells : many_cells raw.links ≡ []
  pub demand : demand raw.steps raw.links ≡ []
  pub phase : phase raw.signals ≡ []

pub has_no_fault : (raw : RawNet) → faults_of raw ≡ [] → HasNoFault raw
unfolding unknown_phase
has_no_fault raw none =
    let first = append_none (unknown_link raw.links) _ none in
    let second = append_none (unknown_signal raw.signals raw.links) _ first.1 in
    let third = append_none (unknown_phase raw.signals raw.links) _ second.1 in
    let greens = append_none (per_item raw.links (unknown_greens_at raw.signals)) _ third.0 in
    let starts = append_none (per_item raw.signals unknown_start_at) (per_item raw.signals unknown_nexts_of) greens.1 in
    let fourth = append_none (out_both raw.links) _ third.1 in
    let fifth = append_none (itself raw.links) _ fourth.1 in
    let sixth = append_none (twice_turn raw.links) _ fifth.1 in
    let seventh = append_none (fed raw.links) _ sixth.1 in
    let eighth = append_none (open_merge raw.signals raw.links) _ seventh.1 in
    let ninth = append_none (initial_units raw.links) _ eighth.1 in
    let tenth = append_none (many_cells raw.links) _ ninth.1 in
    let eleventh = append_none (demand raw.steps raw.links) (phase raw.signals) tenth.1 in
    record {
      unknown_link = first.0;
      unknown_signal = second.0;
      unknown_greens = greens.0;
      unknown_starts = starts.0;
      unknown_nexts = starts.1;
      out_both = fourth.0;
      itself = fifth.0;
      twice_turn = sixth.0;
      fed = seventh.0;
      open_merge = eighth.0;
      initial_units = ninth.0;
      many_cells = tenth.0;
      demand = eleventh.0;
      phase = eleventh.1;
    }

-- the link that branch j of a link names
abbrev pub turn_of : RawLink → ℕ → List ℕ
turn_of link j = (slice_index_or link.turns j ([], 0)).0

-- `to` and each branch name a link
pub to_is_known : (raw : RawNet) (k : ℕ) (name : List ℕ) → HasNoFault raw → k < length raw.links → (raw_link raw.links k).to ≡ Some name → is_unknown (link_names raw.links) name ≡ false
unfolding unknown_link
to_is_known raw k name fine within to =
    let link = raw_link raw.links k in
    let here : unknown_to (link_names raw.links) k link.to ≡ [] =
    (append_none (unknown_to (link_names raw.links) k link.to) _ (per_item_none raw.links _ k no_link fine.unknown_link within)).0 in
    where_none (is_unknown (link_names raw.links) name) (UnknownLink k 0) (rw to at here)

pub turn_is_known : (raw : RawNet) (k j : ℕ) → HasNoFault raw → k < length raw.links → j < length (raw_link raw.links k).turns → is_unknown (link_names raw.links) (turn_of (raw_link raw.links k) j) ≡ false
unfolding unknown_link
turn_is_known raw k j fine within there =
    let link = raw_link raw.links k in
    let here : per_item link.turns (unknown_turn_at (link_names raw.links) k) ≡ [] =
    (append_none (unknown_to (link_names raw.links) k link.to) _ (per_item_none raw.links _ k no_link fine.unknown_link within)).1 in
    where_none (is_unknown (link_names raw.links) (turn_of link j)) (UnknownLink k (j + 1)) (per_item_none link.turns _ j ([], 0) here there)

-- a signal is named that is there
pub signal_is_known : (raw : RawNet) (k : ℕ) (name : List ℕ) → HasNoFault raw → k < length raw.links → (raw_link raw.links k).signal ≡ Some name → is_unknown (signal_names raw.signals) name ≡ false
unfolding unknown_signal
signal_is_known raw k name fine within gated =
    let here : unknown_gate (signal_names raw.signals) k (raw_link raw.links k).signal ≡ [] = per_item_none raw.links _ k no_link fine.unknown_signal within in
    where_none (is_unknown (signal_names raw.signals) name) (UnknownSignal k) (rw gated at here)

-- the phases that are named are there
pub greens_are_known : (raw : RawNet) (k : ℕ) (name : List ℕ) → HasNoFault raw → k < length raw.links → (raw_link raw.links k).signal ≡ Some name →
    All (λ green. is_unknown (phase_names (signal_named raw.signals name)) green ≡ false) (raw_link raw.links k).greens
greens_are_known raw k name fine within gated = λ j d there.
    let link = raw_link raw.links k in
    let here : unknown_greens_of raw.signals k link.signal link.greens ≡ [] = per_item_none raw.links _ k no_link fine.unknown_greens within in
    where_none (is_unknown (phase_names (signal_named raw.signals name)) (get_or link.greens j d)) (UnknownPhase (Green k j)) (per_item_none link.greens _ j d (rw gated at here) there)

pub start_is_known : (raw : RawNet) (s : ℕ) (name : List ℕ) → HasNoFault raw → s < length raw.signals → (raw_signal raw.signals s).start ≡ Some name → is_unknown (phase_names (raw_signal raw.signals s)) name ≡ false
start_is_known raw s name fine within starts =
    let signal = raw_signal raw.signals s in
    let here : unknown_start s signal signal.start ≡ [] = per_item_none raw.signals _ s no_signal fine.unknown_starts within in
    where_none (is_unknown (phase_names signal) name) (UnknownPhase (Start s)) (rw starts at here)

pub nexts_are_known : (raw : RawNet) (s p : ℕ) → HasNoFault raw → s < length raw.signals → p < length (raw_signal raw.signals s).phases →
    All (λ name. is_unknown (phase_names (raw_signal raw.signals s)) name ≡ false) (raw_phase (raw_signal raw.signals s) p).next
nexts_are_known raw s p fine within inner = λ j d there.
    let signal = raw_signal raw.signals s in
    let next = (raw_phase signal p).next in
    let here : per_item next (unknown_next_at (phase_names signal) s p) ≡ [] = per_item_none signal.phases _ p no_phase (per_item_none raw.signals _ s no_signal fine.unknown_nexts within) inner in
    where_none (is_unknown (phase_names signal) (get_or next j d)) (UnknownPhase (Next s p j)) (per_item_none next _ j d here there)

-- no link leads to itself
pub leads_elsewhere : (raw : RawNet) (k : ℕ) → HasNoFault raw → k < length raw.links → leads_to (raw_link raw.links k) (raw_link raw.links k).name ≡ false
unfolding itself
leads_elsewhere raw k fine within = where_none (leads_to (raw_link raw.links k) (raw_link raw.links k).name) (Itself k) (per_item_none raw.links _ k no_link fine.itself within)

-- no branch names the link of an earlier one
pub branch_is_new : (raw : RawNet) (k j : ℕ) → HasNoFault raw → k < length raw.links → j < length (raw_link raw.links k).turns →
    list_any (λ (turn : List ℕ × ℕ). bytes_eq (turn_of (raw_link raw.links k) j) turn.0) (take j (raw_link raw.links k).turns) ≡ false
unfolding twice_turn
branch_is_new raw k j fine within there =
    let link = raw_link raw.links k in
    where_none (list_any (λ (turn : List ℕ × ℕ). bytes_eq (turn_of link j) turn.0) (take j link.turns)) (TwiceTurn k j)
    (per_item_none link.turns _ j ([], 0) (per_item_none raw.links _ k no_link fine.twice_turn within) there)

-- no link with demand is led into
pub queue_is_not_fed : (raw : RawNet) (k : ℕ) → HasNoFault raw → k < length raw.links →
    (not (is_empty (raw_link raw.links k).pieces) && list_any (λ (feeder : RawLink). leads_to feeder (raw_link raw.links k).name) raw.links) ≡ false
unfolding fed
queue_is_not_fed raw k fine within = where_none _ (Fed k) (per_item_none raw.links _ k no_link fine.fed within)

-- the gates of the links that lead into one are apart
pub feeders_are_apart : (raw : RawNet) (k : ℕ) → HasNoFault raw → k < length raw.links →
    are_apart (map (gate_of raw.signals) (feeders raw.links (raw_link raw.links k).name)) ≡ true
unfolding open_merge
feeders_are_apart raw k fine within = not-false (are_apart (map (gate_of raw.signals) (feeders raw.links (raw_link raw.links k).name))) (where_none _ (OpenMerge k) (per_item_none raw.links _ k no_link fine.open_merge within))

-- the units at step 0 are one number for each cell, none above the storage
initial_has_room : (k : ℕ) (link : RawLink) (initial : Option (List ℕ)) (i : ℕ) → initial_in k link initial ≡ [] → i < link.cells → initial_at initial i ≤ link.store
initial_has_room k link None i none inner = omega arith
initial_has_room k link (Some units) i none inner =
    let parts = or_parts (not (length units == link.cells)) (list_any (nat_lt link.store) units)
    (where_none (not (length units == link.cells) || list_any (nat_lt link.store) units) (Initial k) none) in
    let count : length units ≡ link.cells = eqb-true (length units) link.cells (not-false (length units == link.cells) parts.0) in
    elim (cases_lt link.store (get_or units i 0)) [
      | inl heavy ↦ absurd (false≢true (sym parts.1 ∙ list_any_at (nat_lt link.store) units i 0 (omega arith) (lt-ltb link.store (get_or units i 0) heavy)))
      | inr le ↦ le
    ]

pub has_room : (raw : RawNet) (k i : ℕ) → HasNoFault raw → k < length raw.links → i < (raw_link raw.links k).cells → initial_at (raw_link raw.links k).initial i ≤ (raw_link raw.links k).store
unfolding initial_units
has_room raw k i fine within inner = initial_has_room k (raw_link raw.links k) (raw_link raw.links k).initial i (per_item_none raw.links _ k no_link fine.initial_units within) inner

-- at most 256 cells
pub cells_are_few : (raw : RawNet) → HasNoFault raw → cells_below raw.links (length raw.links) ≤ 256
unfolding many_cells
cells_are_few raw fine =
    let count = cells_below raw.links (length raw.links) in
    ltb-false 256 count (where_none (nat_lt 256 count) (Cells count) fine.many_cells)

-- at most 1000 units in a step
pub step_is_light : (raw : RawNet) (k t : ℕ) → HasNoFault raw → k < length raw.links → t < raw.steps → rate_at (raw_link raw.links k).pieces t ≤ 1000
unfolding demand demand_faults
step_is_light raw k t fine within there =
    let link = raw_link raw.links k in
    let here : demand_faults link.pieces raw.steps ≡ [] = map_none (Demand k) (demand_faults link.pieces raw.steps) (per_item_none raw.links _ k no_link fine.demand within) in
    let rates = rates_of link.pieces raw.steps in
    let light : get_or rates t 0 ≤ 1000 =
    ltb-false 1000 (get_or rates t 0) (where_none (nat_lt 1000 (get_or rates t 0)) (Heavy t) (per_item_none rates heavy_at t 0 (append_none _ _ here).1 (rw (length-rates_of link.pieces raw.steps) there))) in
    rw (slice_index-rates_of link.pieces raw.steps t there) at light

-- a phase has a minimum up to its maximum, and some phase other than itself may follow
pub record IsPhaseRuled (phase : RawPhase) : Type 0 where
  pub limits : phase.min ≤ phase.max
  pub followed : is_empty phase.next ≡ false
  pub not_by_itself : list_any (bytes_eq phase.name) phase.next ≡ false

pub phase_is_ruled : (raw : RawNet) (s p : ℕ) → HasNoFault raw → s < length raw.signals → p < length (raw_signal raw.signals s).phases → IsPhaseRuled (raw_phase (raw_signal raw.signals s) p)
unfolding phase
phase_is_ruled raw s p fine within inner =
    let signal = raw_signal raw.signals s in
    let phase = raw_phase signal p in
    let broken = nat_lt phase.max phase.min || is_empty phase.next || list_any (bytes_eq phase.name) phase.next in
    let here : broken ≡ false = where_none broken (Phase s p) (per_item_none signal.phases _ p no_phase (per_item_none raw.signals _ s no_signal fine.phase within) inner) in
    let outer = or_parts (nat_lt phase.max phase.min || is_empty phase.next) (list_any (bytes_eq phase.name) phase.next) here in
    let first = or_parts (nat_lt phase.max phase.min) (is_empty phase.next) outer.0 in
    record { limits = ltb-false phase.max phase.min first.0; followed = first.1; not_by_itself = outer.1 }

-- a name without fault is that of a signal
some_signal : (signals : List RawSignal) (k : ℕ) (signal : Option (List ℕ)) → unknown_gate (signal_names signals) k signal ≡ [] → signal ≢ None → 0 < length signals
some_signal signals k None fine some = absurd (some refl)
some_signal [] k (Some name) fine some = absurd (cc)
some_signal (signal ∷ signals) k (Some name) fine some = omega arith

-- each link with a signal tells of one
pub signals_are_there : (signals : List RawSignal) (links : List RawLink) (judged : ⊤) → Ok judged ≡ unless (unknown_signal signals links) judged → All (λ (link : RawLink). link.signal ≢ None → 0 < length signals) links
unfolding unknown_signal
signals_are_there signals links judged fine = λ k d within.
    rw (get_or_default links k d no_link within)
    (some_signal signals k (raw_link links k).signal (per_item_none links (unknown_signal_at (signal_names signals)) k no_link (unless_fine _ judged judged fine) within))

-- what building asks of a network without a fault
pub ruleset few_steps = (has_no_fault, cells_are_few)
