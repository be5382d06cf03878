-- Walks over the tables of an array: step by step, and as the lists of faults that definitions give.
use Rattle.std.proofs.Common.{◌≡◌, ℕ, ◌+◌, List, [], ◌∷◌, ◌++◌, drop, codes, Result, Option, Some, None, refl, ap, ◌∙◌, arith}
use Rattle.std.specs.Prelude.{⊤}
use Rattle.std.specs.List.{flat_map}
use Rattle.std.specs.Option.{option_map_or}
use Rattle.std.proofs.lemmas.Grind.{flat_map-append}
use Rattle.std.proofs.lemmas.List.{append-nil}
use Rattle.toml.specs.Data.{Data, array, no_items, Members, get_member}
use Rattle.toml.specs.View.{items_view}
use Rattle.toml.specs.declared.value.Value.{Value}
use Rattle.refusals.specs.Faults.{items_from, per_item, unless}
use Rattle.refusals.proofs.FirstFaults.{unless_fine, unless_left, unless_right}
use Rattle.network_file.specs.Documents.{tables_among, tables_at, tables_of}
use Rattle.network_file.specs.Keys.{top_keys, link_keys, signal_keys}
use Rattle.network_file.specs.Refusals.{Place, number, place, walk, link_places, signal_places, turn_places, piece_places, phase_places}
use Rattle.network_file.specs.inner.Stages.{faults_at, inner_faults, inner_faults_at, link_faults, signal_faults}
use Rattle.network_file.specs.inner.Tables.{each_from, items_at, items_in}
use Rattle.network_file.specs.declared.fault.At.TheVariants.{Top, Link, Signal}
use Rattle.network_file.specs.declared.fault.NetFault.{NetFault}
use Rattle.network_file.specs.declared.judge.table.Stage.{Stage}
use Rattle.network_file.specs.declared.judge.walk.Inner.TheVariants.{Turns, Pieces, Phases}

-- what an answer on the values from index i on is
abbrev pub left : ℕ → (ℕ → Members → List NetFault) → List Value → ℕ → Result ⊤ NetFault
left k f values i = unless (each_from k f (tables_among (items_view (drop i values)))) (tt {0})

-- the tables of a value are those among its items
tables_of-items : (d : Data) → tables_of d ≡ tables_among (items_in d)
tables_of-items (array ds) = refl
tables_of-items _ = refl

tables_found : (found : Option Data) → option_map_or tables_of found [] ≡ tables_among (option_map_or items_in found no_items)
tables_found None = refl
tables_found (Some d) = tables_of-items d

-- and so are those at a key
pub tables_at-items : (key : List ℕ) (ms : Members) → tables_at key ms ≡ tables_among (items_at key ms)
tables_at-items key ms = tables_found (get_member key ms)

pub ruleset walks = (tables_at-items)

-- the number after one that 32 bits hold
pub number-more : (i : ℕ) → number (number i + 1) ≡ number (i + 1)
number-more i = omega arith

-- what is made of the places of each table, where that is a list of faults by its number
walked_from : (h : Place → List NetFault) (places : ℕ → Members → List Place) (f : ℕ → Members → List NetFault) (i : ℕ) (tables : List Members)
    → ((j : ℕ) (ms : Members) → flat_map h (places j ms) ≡ f (number j) ms) → flat_map h (items_from i tables places) ≡ each_from (number i) f tables
walked_from h places f i [] same = refl
walked_from h places f i (ms ∷ rest) same = flat_map-append h (places i ms) (items_from (i + 1) rest places) ∙ rw (same i ms, walked_from h places f (i + 1) rest same, number-more i)

walked : (h : Place → List NetFault) (places : ℕ → Members → List Place) (f : ℕ → Members → List NetFault) (tables : List Members)
    → ((j : ℕ) (ms : Members) → flat_map h (places j ms) ≡ f (number j) ms) → flat_map h (per_item tables places) ≡ each_from 0 f tables
walked h places f tables same = walked_from h places f 0 tables same

-- a link and its parts, and a signal and its phases
walked_link : (stage : Stage) (k : ℕ) (link : Members) → flat_map (faults_at stage) (link_places k link) ≡ link_faults stage (number k) link
walked_link stage k link =
    let turns : flat_map (faults_at stage) (per_item (tables_at (codes "turns") link) (turn_places k)) ≡ inner_faults stage Turns (number k) link =
    walked (faults_at stage) (turn_places k) (inner_faults_at stage Turns (number k)) (tables_at (codes "turns") link) (λ j ms. append-nil (inner_faults_at stage Turns (number k) (number j) ms)) in
    let pieces : flat_map (faults_at stage) (per_item (tables_at (codes "demand") link) (piece_places k)) ≡ inner_faults stage Pieces (number k) link =
    walked (faults_at stage) (piece_places k) (inner_faults_at stage Pieces (number k)) (tables_at (codes "demand") link) (λ j ms. append-nil (inner_faults_at stage Pieces (number k) (number j) ms)) in
    ap (λ xs. faults_at stage (place (Link (number k)) link_keys link) ++ xs)
    (flat_map-append (faults_at stage) (per_item (tables_at (codes "turns") link) (turn_places k)) (per_item (tables_at (codes "demand") link) (piece_places k)) ∙ rw (turns, pieces))

walked_signal : (stage : Stage) (s : ℕ) (signal : Members) → flat_map (faults_at stage) (signal_places s signal) ≡ signal_faults stage (number s) signal
walked_signal stage s signal =
    ap (λ xs. faults_at stage (place (Signal (number s)) signal_keys signal) ++ xs)
    (walked (faults_at stage) (phase_places s) (inner_faults_at stage Phases (number s)) (tables_at (codes "phase") signal) (λ j ms. append-nil (inner_faults_at stage Phases (number s) (number j) ms)))

-- all tables
pub walked_top : (stage : Stage) (top : Members)
    → flat_map (faults_at stage) (walk top) ≡ faults_at stage (place Top top_keys top) ++ (each_from 0 (link_faults stage) (tables_at (codes "link") top) ++ each_from 0 (signal_faults stage) (tables_at (codes "signal") top))
unfolding walk
walked_top stage top =
    ap (λ xs. faults_at stage (place Top top_keys top) ++ xs)
    (flat_map-append (faults_at stage) (per_item (tables_at (codes "link") top) link_places) (per_item (tables_at (codes "signal") top) signal_places)
    ∙ rw (walked (faults_at stage) link_places (link_faults stage) (tables_at (codes "link") top) (walked_link stage), walked (faults_at stage) signal_places (signal_faults stage) (tables_at (codes "signal") top) (walked_signal stage)))

pub ruleset whole = (walked_top, unless_left, unless_right, unless_fine)

pub ruleset joined = (unless_left, unless_right, unless_fine)
