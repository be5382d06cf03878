-- Why a network is refused (docs/network-file.md, "Refusals"): each rule bears the word that is printed for it and lists
-- the places that break it. The first rule that has one decides, with its first place.
use Rattle.std.specs.Prelude.{ℕ, ◌+◌, Bool, true, false, not, ◌&&◌, ◌||◌, nat_lt, ◌==◌, List, [], ◌∷◌, ◌++◌, length, map, filter, take, Option, Some, None, is_some, bit_and}
use Rattle.std.specs.List.{list_any, list_all}
use Rattle.std.specs.Str.{bytes_eq}
use Rattle.ct_base.specs.declared.cell.Gate.{Gate}
use Rattle.network_file.specs.declared.raw.RawNet.{RawNet}
use Rattle.network_file.specs.declared.raw.RawLink.{RawLink}
use Rattle.network_file.specs.declared.raw.RawSignal.{RawSignal}
use Rattle.network_file.specs.declared.raw.RawPhase.{RawPhase}
use Rattle.demand.specs.Spread.{faults_of as demand_faults}
use Rattle.limits.specs.declared.TheConstants.{MAX_CELLS}
use Rattle.refusals.specs.Faults.{per_item, where_so}
use Rattle.cell_build.specs.Link.{cells_below, gate_of, signal_named}
use Rattle.cell_build.specs.Names.{is_unknown, link_names, names_led_to, phase_names, signal_names}
use Rattle.cell_build.specs.declared.fault.BuildFault.{BuildFault}
use Rattle.cell_build.specs.declared.fault.BuildFault.TheVariants.{UnknownLink, UnknownSignal, UnknownPhase, OutBoth, Itself, TwiceTurn, Fed, OpenMerge, Initial, Cells, Demand, Phase}
use Rattle.cell_build.specs.declared.fault.PhaseAt.TheVariants.{Green, Start, Next}

-- unknownlink: `to` names no link
abbrev pub unknown_to : List (List ℕ) → ℕ → Option (List ℕ) → List BuildFault
unknown_to names k None = []
unknown_to names k (Some name) = where_so (is_unknown names name) (UnknownLink k 0)

-- branch j of link k names no link
abbrev pub unknown_turn_at : List (List ℕ) → ℕ → ℕ → List ℕ × ℕ → List BuildFault
unknown_turn_at names k j turn = where_so (is_unknown names turn.0) (UnknownLink k (j + 1))

-- `to` of link k, and then its branches
abbrev pub unknown_link_at : List (List ℕ) → ℕ → RawLink → List BuildFault
unknown_link_at names k link = unknown_to names k link.to ++ per_item link.turns (unknown_turn_at names k)

-- unknownlink: all names of links that no link has
unfoldable pub unknown_link : List RawLink → List BuildFault
unknown_link links = per_item links (unknown_link_at (link_names links))

-- unknownsignal: a link names no signal
abbrev pub unknown_gate : List (List ℕ) → ℕ → Option (List ℕ) → List BuildFault
unknown_gate names k None = []
unknown_gate names k (Some name) = where_so (is_unknown names name) (UnknownSignal k)

-- link k names no signal
abbrev pub unknown_signal_at : List (List ℕ) → ℕ → RawLink → List BuildFault
unknown_signal_at names k link = unknown_gate names k link.signal

-- unknownsignal: all links that name no signal
unfoldable pub unknown_signal : List RawSignal → List RawLink → List BuildFault
unknown_signal signals links = per_item links (unknown_signal_at (signal_names signals))

-- unknownphase: green j of link k is none of the phases of these names
abbrev pub unknown_green_at : List (List ℕ) → ℕ → ℕ → List ℕ → List BuildFault
unknown_green_at names k j name = where_so (is_unknown names name) (UnknownPhase (Green k j))

-- the greens of link k that its signal does not have
abbrev pub unknown_greens_of : List RawSignal → ℕ → Option (List ℕ) → List (List ℕ) → List BuildFault
unknown_greens_of signals k None greens = []
unknown_greens_of signals k (Some name) greens = per_item greens (unknown_green_at (phase_names (signal_named signals name)) k)

-- the same of a link
abbrev pub unknown_greens_at : List RawSignal → ℕ → RawLink → List BuildFault
unknown_greens_at signals k link = unknown_greens_of signals k link.signal link.greens

-- the start of signal s is none of its phases
abbrev pub unknown_start : ℕ → RawSignal → Option (List ℕ) → List BuildFault
unknown_start s signal None = []
unknown_start s signal (Some name) = where_so (is_unknown (phase_names signal) name) (UnknownPhase (Start s))

-- the same of a signal
abbrev pub unknown_start_at : ℕ → RawSignal → List BuildFault
unknown_start_at s signal = unknown_start s signal signal.start

-- phase j that may follow phase p of signal s is none of its phases
abbrev pub unknown_next_at : List (List ℕ) → ℕ → ℕ → ℕ → List ℕ → List BuildFault
unknown_next_at names s p j name = where_so (is_unknown names name) (UnknownPhase (Next s p j))

-- the same of all that may follow phase p
abbrev pub unknown_nexts_at : List (List ℕ) → ℕ → ℕ → RawPhase → List BuildFault
unknown_nexts_at names s p phase = per_item phase.next (unknown_next_at names s p)

-- the same of all phases of signal s
abbrev pub unknown_nexts_of : ℕ → RawSignal → List BuildFault
unknown_nexts_of s signal = per_item signal.phases (unknown_nexts_at (phase_names signal) s)

-- unknownphase: all names of phases that their signal does not have: all greens, then all starts, then all that may follow
unfoldable pub unknown_phase : List RawSignal → List RawLink → List BuildFault
unknown_phase signals links = per_item links (unknown_greens_at signals) ++ (per_item signals unknown_start_at ++ per_item signals unknown_nexts_of)

-- a list without an element
abbrev pub is_empty : {X : Type 0} → List X → Bool
is_empty [] = true
is_empty (x ∷ xs) = false

-- outboth: link k has both `to` and `turns`
abbrev pub out_both_at : ℕ → RawLink → List BuildFault
out_both_at k link = where_so (is_some link.to && not (is_empty link.turns)) (OutBoth k)

-- outboth: all links that have both
unfoldable pub out_both : List RawLink → List BuildFault
out_both links = per_item links out_both_at

-- a link leads to the one of this name
abbrev pub leads_to : RawLink → List ℕ → Bool
leads_to link name = list_any (bytes_eq name) (names_led_to link)

-- itself: link k leads to itself
abbrev pub itself_at : ℕ → RawLink → List BuildFault
itself_at k link = where_so (leads_to link link.name) (Itself k)

-- itself: all links that lead to themselves
unfoldable pub itself : List RawLink → List BuildFault
itself links = per_item links itself_at

-- twiceturn: branch j of link k names the link of an earlier branch
abbrev pub twice_turn_in : List (List ℕ × ℕ) → ℕ → ℕ → List ℕ × ℕ → List BuildFault
twice_turn_in turns k j turn = where_so (list_any (λ (earlier : List ℕ × ℕ). bytes_eq turn.0 earlier.0) (take j turns)) (TwiceTurn k j)

-- the branches of link k that name the link of an earlier one
abbrev pub twice_turn_at : ℕ → RawLink → List BuildFault
twice_turn_at k link = per_item link.turns (twice_turn_in link.turns k)

-- twiceturn: the same of all links
unfoldable pub twice_turn : List RawLink → List BuildFault
twice_turn links = per_item links twice_turn_at

-- the links that lead into one of this name
abbrev pub feeders : List RawLink → List ℕ → List RawLink
feeders links name = filter (λ (link : RawLink). leads_to link name) links

-- fed: link k has demand and is led into
abbrev pub fed_at : List RawLink → ℕ → RawLink → List BuildFault
fed_at links k link = where_so (not (is_empty link.pieces) && list_any (λ (feeder : RawLink). leads_to feeder link.name) links) (Fed k)

-- fed: all links that have demand and are led into
unfoldable pub fed : List RawLink → List BuildFault
fed links = per_item links (fed_at links)

-- two gates of one signal whose greens have no phase in common
abbrev pub is_apart : Option Gate → Option Gate → Bool
is_apart (Some g) (Some h) = (g.signal == h.signal) && (bit_and g.greens h.greens == 0)
is_apart (Some g) None = false
is_apart None h = false

-- each two of some gates are apart
abbrev pub are_apart : List (Option Gate) → Bool
are_apart [] = true
are_apart (gate ∷ gates) = list_all (is_apart gate) gates && are_apart gates

-- openmerge: the links that lead into link k are not apart
abbrev pub open_merge_at : List RawSignal → List RawLink → ℕ → RawLink → List BuildFault
open_merge_at signals links k link = where_so (not (are_apart (map (gate_of signals) (feeders links link.name)))) (OpenMerge k)

-- openmerge: all links that several lead into without one signal that separates them
unfoldable pub open_merge : List RawSignal → List RawLink → List BuildFault
open_merge signals links = per_item links (open_merge_at signals links)

-- initial: the units at step 0 are not one number for each cell, or one is above the storage
abbrev pub initial_in : ℕ → RawLink → Option (List ℕ) → List BuildFault
initial_in k link None = []
initial_in k link (Some units) = where_so (not (length units == link.cells) || list_any (nat_lt link.store) units) (Initial k)

-- the units of link k at step 0 do not fit it
abbrev pub initial_units_at : ℕ → RawLink → List BuildFault
initial_units_at k link = initial_in k link link.initial

-- initial: all links whose units at step 0 do not fit them
unfoldable pub initial_units : List RawLink → List BuildFault
initial_units links = per_item links initial_units_at

-- cells: there are more than 256 cells
unfoldable pub many_cells : List RawLink → List BuildFault
many_cells links = let count = cells_below links (length links) in where_so (nat_lt MAX_CELLS count) (Cells count)

-- demand: of link k, a piece that holds no step or ends past the horizon, then a step of more than 1000 units
abbrev pub demand_at : ℕ → ℕ → RawLink → List BuildFault
demand_at steps k link = map (Demand k) (demand_faults link.pieces steps)

-- demand: the faults of demand of all links
unfoldable pub demand : ℕ → List RawLink → List BuildFault
demand steps links = per_item links (demand_at steps)

-- phase: phase p of signal s has a minimum above its maximum, none that may follow it, or itself among them
abbrev pub phase_in : ℕ → ℕ → RawPhase → List BuildFault
phase_in s p phase = where_so (nat_lt phase.max phase.min || is_empty phase.next || list_any (bytes_eq phase.name) phase.next) (Phase s p)

-- the phases of signal s that break the rule
abbrev pub phase_at : ℕ → RawSignal → List BuildFault
phase_at s signal = per_item signal.phases (phase_in s)

-- phase: the phases of all signals that break the rule
unfoldable pub phase : List RawSignal → List BuildFault
phase signals = per_item signals phase_at

-- all faults of a network, those of the first rule first
abbrev pub faults_of : RawNet → List BuildFault
faults_of raw =
    unknown_link raw.links
    ++ (unknown_signal raw.signals raw.links
    ++ (unknown_phase raw.signals raw.links
    ++ (out_both raw.links
    ++ (itself raw.links
    ++ (twice_turn raw.links
    ++ (fed raw.links
    ++ (open_merge raw.signals raw.links
    ++ (initial_units raw.links
    ++ (many_cells raw.links
    ++ (demand raw.steps raw.links
    ++ phase raw.signals))))))))))
