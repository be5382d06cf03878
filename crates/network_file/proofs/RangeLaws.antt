-- Every network without faults is in range.
use Rattle.std.proofs.Common.{◌≡◌, ◌≢◌, ℕ, ◌+◌, ◌<◌, ◌≤◌, List, [], ◌∷◌, ◌++◌, length, get_or, map, codes, Option, Some, None, Ok, refl, ap, subst, sym, ◌∙◌, arith}
use Rattle.std.specs.Prelude.{⊤, IfSome}
use Rattle.std.specs.List.{All}
use Rattle.std.proofs.lemmas.List.{length-append, length-map}
use Rattle.std.proofs.lemmas.List.Elements.{All-nil, All-cons, All-head, All-tail, All-append, All-map, All-weaker, All-from_get_or}
use Rattle.toml.specs.Data.{Members, no_members, get_member}
use Rattle.refusals.specs.Faults.{per_item, unless}
use Rattle.refusals.proofs.FirstFaults.{unless_fine}
use Rattle.refusals.proofs.Items.{items_from-first, items_from-map, per_item_none}
use Rattle.listed.proofs.JoinLaws.{append_none}
use Rattle.ct_base.specs.Validity.{IsBetween}
use Rattle.network_file.specs.Documents.{numbers_at, tables_at, text_at}
use Rattle.network_file.specs.inner.Judged.{HasFewRates}
use Rattle.network_file.specs.Keys.{phase_keys, piece_keys, turn_keys}
use Rattle.network_file.specs.Range.{IsInRange, IsLinkInRange, IsPhaseInRange, IsPieceInRange, IsSignalInRange}
use Rattle.network_file.specs.Refusals.{faults_of, key_faults, link_name_faults, name_at, name_faults, names_of, number, phase_name_faults, range_faults, signal_name_faults}
use Rattle.network_file.specs.Spelled.{link_of, network_of, phase_of, piece_of, pieces_from, signal_of, turn_of}
use Rattle.network_file.specs.declared.fault.At.TheVariants.{Link, Phase, Signal}
use Rattle.network_file.specs.declared.fault.NetFault.{NetFault}
use Rattle.network_file.specs.declared.raw.RawLink.{RawLink}
use Rattle.network_file.specs.declared.raw.RawNet.{RawNet}
use Rattle.network_file.specs.declared.raw.RawPhase.{RawPhase}
use Rattle.network_file.specs.declared.raw.RawSignal.{RawSignal}
use Rattle.network_file.proofs.NamesDiffer.{names_differ}
use Rattle.network_file.proofs.PlaceLaws.{IsFine, IsFineLink, IsFineSignal, IsFineTop, top_fine}
use Rattle.network_file.proofs.ValueLaws.{AreFew, IsWave, name_needed, no_texts_alone, number_needed, number_optional, numbers_optional, some_numbers_optional, tables_at_most, tables_needed, tables_optional, texts_needed, texts_needed_with, wave_optional}

-- there are as many pieces as rates
length-pieces_from : (t : ℕ) (rates : List ℕ) → length (pieces_from t rates) ≡ length rates
length-pieces_from t [] = refl
length-pieces_from t (rate ∷ rates) = omega (arith, length-pieces_from (t + 1) rates)

-- the pieces of rates in range are in range, where they end within 240 steps
pieces_from-in_range : (t : ℕ) (rates : List ℕ) → t + length rates ≤ 240 → All (λ rate. rate ≤ 1000) rates → All IsPieceInRange (pieces_from t rates)
pieces_from-in_range t [] fits rates = All-nil IsPieceInRange
pieces_from-in_range t (rate ∷ rates) fits each =
    All-cons IsPieceInRange (record { first = t; until = t + 1; rate = rate }) (pieces_from (t + 1) rates)
    (record { first = omega arith; until = omega arith; rate = All-head (λ rate. rate ≤ 1000) rate rates each })
    (pieces_from-in_range (t + 1) rates (omega arith) (All-tail (λ rate. rate ≤ 1000) rate rates each))

-- a piece and a branch
piece_in_range : (ms : Members) → IsFine piece_keys ms → IsPieceInRange (piece_of ms)
piece_in_range ms is = record {
  first = (number_needed 0 0 240 (get_member (codes "from") ms) (omega arith) (is.types 0 (omega arith)) (is.ranges 0 (omega arith))).1;
  until = (number_needed 0 0 240 (get_member (codes "until") ms) (omega arith) (is.types 1 (omega arith)) (is.ranges 1 (omega arith))).1;
  rate = (number_needed 0 0 1000 (get_member (codes "rate") ms) (omega arith) (is.types 2 (omega arith)) (is.ranges 2 (omega arith))).1;
}

parcel_in_range : (ms : Members) → IsFine turn_keys ms → IsBetween 1 100 (turn_of ms).1
parcel_in_range ms is = number_needed 0 1 100 (get_member (codes "parcel") ms) (omega arith) (is.types 1 (omega arith)) (is.ranges 1 (omega arith))

-- the rates of a link
rates_few : (ms : Members) → IsFineLink ms → AreFew 240 1000 (numbers_at (codes "rates") ms)
rates_few ms is = numbers_optional 240 0 1000 (get_member (codes "rates") ms) (omega arith) (is.own.ranges 11 (omega arith))

-- no branches where there are no tables
no_map : {X Y : Type 0} (f : X → Y) (xs : List X) → map f xs ≢ [] → xs ≢ []
no_map f xs some none = some (ap (map f) none)

-- numbers of units that may be left out
initial_few : (units : Option (List ℕ)) → IfSome units (AreFew 256 10000) → IfSome units (λ ns. length ns ≤ 256) × IfSome units (λ ns. All (λ n. n ≤ 10000) ns)
initial_few None few = (tt, tt)
initial_few (Some ns) few = few

-- a link
pub link_in_range : (ms : Members) → IsFineLink ms → IsLinkInRange (link_of ms)
unfolding link_of
link_in_range ms is =
    let own = is.own in
    let wave_in : IsWave (numbers_at (codes "wave") ms) = wave_optional (get_member (codes "wave") ms) (own.ranges 4 (omega arith)) in
    let rates : AreFew 240 1000 (numbers_at (codes "rates") ms) = rates_few ms is in
    let listed : length (tables_at (codes "demand") ms) ≤ 240 = tables_at_most 0 240 (get_member (codes "demand") ms) (own.ranges 10 (omega arith)) in
    let initial_in = initial_few _ (some_numbers_optional 256 0 10000 (get_member (codes "initial") ms) (omega arith) (own.ranges 9 (omega arith))) in
    record {
      name = name_needed (get_member (codes "name") ms) (own.types 0 (omega arith)) (own.ranges 0 (omega arith));
      cells = number_optional 1 1 256 (get_member (codes "cells") ms) (omega arith) (omega arith, omega arith) (own.ranges 1 (omega arith));
      cap = number_needed 0 1 1000 (get_member (codes "cap") ms) (omega arith) (own.types 2 (omega arith)) (own.ranges 2 (omega arith));
      store = number_needed 0 1 10000 (get_member (codes "store") ms) (omega arith) (own.types 3 (omega arith)) (own.ranges 3 (omega arith));
      wave_p = wave_in.0;
      wave_q = wave_in.1;
      turns = λ some. rw (length-map (tables_at (codes "turns") ms) turn_of) (tables_optional 2 4 (get_member (codes "turns") ms) (own.types 6 (omega arith)) (own.ranges 6 (omega arith)) (no_map turn_of (tables_at (codes "turns") ms) some));
      parcels = All-map (λ (turn : List ℕ × ℕ). IsBetween 1 100 turn.1) turn_of (tables_at (codes "turns") ms) (All-weaker (IsFine turn_keys) (λ turn. IsBetween 1 100 (turn_of turn).1) parcel_in_range (tables_at (codes "turns") ms) is.turns);
      greens = texts_needed_with 1 16 (get_member (codes "signal") ms) (get_member (codes "greens") ms) (own.types 8 (omega arith)) (own.ranges 8 (omega arith));
      no_greens = no_texts_alone (get_member (codes "signal") ms) (get_member (codes "greens") ms) (own.types 7 (omega arith));
      initial = initial_in.0;
      initial_units = initial_in.1;
      pieces = omega (arith, length-append (map piece_of (tables_at (codes "demand") ms)) (pieces_from 0 (numbers_at (codes "rates") ms)), length-map (tables_at (codes "demand") ms) piece_of, length-pieces_from 0 (numbers_at (codes "rates") ms), rates.0);
      each_piece = All-append IsPieceInRange (map piece_of (tables_at (codes "demand") ms)) (pieces_from 0 (numbers_at (codes "rates") ms))
          (All-map IsPieceInRange piece_of (tables_at (codes "demand") ms) (All-weaker (IsFine piece_keys) (λ piece. IsPieceInRange (piece_of piece)) piece_in_range (tables_at (codes "demand") ms) is.pieces))
          (pieces_from-in_range 0 (numbers_at (codes "rates") ms) (omega (arith, rates.0)) rates.1);
    }

-- a phase
phase_in_range : (ms : Members) → IsFine phase_keys ms → IsPhaseInRange (phase_of ms)
phase_in_range ms is = record {
  name = name_needed (get_member (codes "name") ms) (is.types 0 (omega arith)) (is.ranges 0 (omega arith));
  min = number_needed 0 1 60 (get_member (codes "min") ms) (omega arith) (is.types 1 (omega arith)) (is.ranges 1 (omega arith));
  max = number_needed 0 1 60 (get_member (codes "max") ms) (omega arith) (is.types 2 (omega arith)) (is.ranges 2 (omega arith));
  clear = (number_optional 0 0 20 (get_member (codes "clear") ms) (omega arith) (omega arith, omega arith) (is.ranges 3 (omega arith))).1;
  next = (texts_needed 0 16 (get_member (codes "next") ms) (is.types 4 (omega arith)) (is.ranges 4 (omega arith))).1;
}

-- names of phases, links and signals as their tables spell them
phase_names : (tables : List Members) → map (λ (phase : RawPhase). phase.name) (map phase_of tables) ≡ names_of tables
phase_names [] = refl
phase_names (ms ∷ tables) = ap (λ names. text_at (codes "name") ms ∷ names) (phase_names tables)

link_name : (ms : Members) → (link_of ms).name ≡ text_at (codes "name") ms
unfolding link_of
link_name ms = refl

link_names : (tables : List Members) → map (λ (link : RawLink). link.name) (map link_of tables) ≡ names_of tables
link_names [] = refl
link_names (ms ∷ tables) = rw (link_name ms) (ap (λ names. text_at (codes "name") ms ∷ names) (link_names tables))

signal_name : (ms : Members) → (signal_of ms).name ≡ text_at (codes "name") ms
unfolding signal_of
signal_name ms = refl

signal_names : (tables : List Members) → map (λ (signal : RawSignal). signal.name) (map signal_of tables) ≡ names_of tables
signal_names [] = refl
signal_names (ms ∷ tables) = rw (signal_name ms) (ap (λ names. text_at (codes "name") ms ∷ names) (signal_names tables))

-- a signal, the names of whose phases have no fault
signal_in_range : (s : ℕ) (ms : Members) → IsFineSignal ms → phase_name_faults s (names_of (tables_at (codes "phase") ms)) ≡ [] → IsSignalInRange (signal_of ms)
unfolding signal_of
signal_in_range s ms is none =
    let phases = tables_at (codes "phase") ms in
    record {
      name = name_needed (get_member (codes "name") ms) (is.own.types 0 (omega arith)) (is.own.ranges 0 (omega arith));
      phases = rw (length-map phases phase_of) (tables_needed 2 8 (get_member (codes "phase") ms) (is.own.types 2 (omega arith)) (is.own.ranges 2 (omega arith)));
      each_phase = All-map IsPhaseInRange phase_of phases (All-weaker (IsFine phase_keys) (λ phase. IsPhaseInRange (phase_of phase)) phase_in_range phases is.phases);
      names_differ = rw (phase_names phases) (names_differ (names_of phases) (λ p. Phase (number s) (number p)) none);
    }

-- the faults of signal names
abbrev NoSignalNames : List Members → Type 0
NoSignalNames signals = per_item signals (signal_name_faults signals) ≡ []

signal_names_at : (signals : List Members) (s : ℕ) → NoSignalNames signals → s < length signals → signal_name_faults signals s (get_or signals s no_members) ≡ []
signal_names_at signals s none within = per_item_none signals (signal_name_faults signals) s no_members none within

-- the names of signals among each other
own_names : (signals : List Members) → NoSignalNames signals → per_item (names_of signals) (name_at (names_of signals) (λ k. Signal (number k))) ≡ []
own_names signals none =
    let own : ℕ → List ℕ → List NetFault = name_at (names_of signals) (λ k. Signal (number k)) in
    items_from-map 0 signals (text_at (codes "name")) own
    ∙ items_from-first 0 signals (λ s signal. own s (text_at (codes "name") signal)) (λ s signal. phase_name_faults s (names_of (tables_at (codes "phase") signal))) none

-- what no name faults mean for links, and for signals
name_parts : (top : Members) → name_faults top ≡ [] → (link_name_faults (names_of (tables_at (codes "link") top)) ≡ []) × NoSignalNames (tables_at (codes "signal") top)
unfolding name_faults
name_parts top none = append_none (link_name_faults (names_of (tables_at (codes "link") top))) (per_item (tables_at (codes "signal") top) (signal_name_faults (tables_at (codes "signal") top))) none

-- the three stages
stages : (top : Members) → faults_of top ≡ [] → (key_faults top ≡ []) × ((range_faults top ≡ []) × (name_faults top ≡ []))
stages top none =
    let keys = append_none (key_faults top) (range_faults top ++ name_faults top) none in
    (keys.0, append_none (range_faults top) (name_faults top) keys.1)

-- a network
pub network_in_range : (top : Members) → Ok (tt {0}) ≡ unless (faults_of top) (tt {0}) → IsInRange (network_of top)
unfolding network_of
network_in_range top judged =
    let none = stages top (unless_fine (faults_of top) (tt {0}) (tt {0}) judged) in
    let is : IsFineTop top = top_fine top none.0 none.1.0 in
    let names = name_parts top none.1.1 in
    let links = tables_at (codes "link") top in
    let signals = tables_at (codes "signal") top in
    record {
      steps = number_needed 0 1 240 (get_member (codes "steps") top) (omega arith) (is.own.types 1 (omega arith)) (is.own.ranges 1 (omega arith));
      links = rw (length-map links link_of) (tables_needed 1 64 (get_member (codes "link") top) (is.own.types 2 (omega arith)) (is.own.ranges 2 (omega arith)));
      signals = rw (length-map signals signal_of) (tables_at_most 0 16 (get_member (codes "signal") top) (is.own.ranges 3 (omega arith)));
      each_link = All-map IsLinkInRange link_of links (All-weaker IsFineLink (λ ms. IsLinkInRange (link_of ms)) link_in_range links is.links);
      each_signal = All-map IsSignalInRange signal_of signals (All-from_get_or (λ ms. IsSignalInRange (signal_of ms)) signals no_members (λ s within.
          let signal = get_or signals s no_members in
          signal_in_range s signal (is.signals s no_members within)
          (append_none (name_at (names_of signals) (λ k. Signal (number k)) s (text_at (codes "name") signal)) (phase_name_faults s (names_of (tables_at (codes "phase") signal))) (signal_names_at signals s names.1 within)).1));
      links_differ = rw (link_names links) (names_differ (names_of links) (λ k. Link (number k)) names.0);
      signals_differ = rw (signal_names signals) (names_differ (names_of signals) (λ k. Signal (number k)) (own_names signals names.1));
    }

-- what reading the links needs
pub rates_judged : (top : Members) → Ok (tt {0}) ≡ unless (faults_of top) (tt {0}) → All HasFewRates (tables_at (codes "link") top)
rates_judged top judged =
    let none = stages top (unless_fine (faults_of top) (tt {0}) (tt {0}) judged) in
    All-weaker IsFineLink HasFewRates (λ ms is. (rates_few ms is).0) (tables_at (codes "link") top) (top_fine top none.0 none.1.0).links

-- what was judged and read
pub read_in_range : (top : Members) (net : RawNet) (fine : ⊤) → net ≡ network_of top → Ok fine ≡ unless (faults_of top) fine → IsInRange net
read_in_range top net fine is judged = subst IsInRange (sym is) (network_in_range top judged)

pub ruleset judged = (read_in_range, rates_judged)
