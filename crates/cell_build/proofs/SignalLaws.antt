-- The signals of a network without a fault, and the gates of its links, keep the rules of a valid network.
use Rattle.std.proofs.Common.{◌≡◌, ◌≢◌, ℕ, ◌<◌, ◌≤◌, false, List, [], ◌∷◌, length, get_or, map, Option, Some, None, IfSome, All, refl, sym, ap, ◌∙◌, arith}
use Rattle.std.specs.List.{list_any}
use Rattle.std.specs.Str.{bytes_eq}
use Rattle.std.proofs.lemmas.Bool.{true≢false}
use Rattle.std.proofs.lemmas.List.{get_or-map, length-map}
use Rattle.ct_base.specs.Access as base
use Rattle.ct_base.specs.Validity.{IsBetween, IsGate, IsPhase, IsSignal}
use Rattle.ct_base.specs.declared.signal.Signal.{Signal}
use Rattle.network_file.specs.Range.{IsInRange, IsLinkInRange, IsPhaseInRange, IsSignalInRange}
use Rattle.network_file.specs.declared.raw.RawNet.{RawNet}
use Rattle.network_file.specs.declared.raw.RawSignal.{RawSignal}
use Rattle.network_file.specs.declared.raw.RawPhase.{RawPhase}
use Rattle.cell_build.specs.Built.{phase_built, signal_built, start_among}
use Rattle.cell_build.specs.Link.{gate_by, gate_of, signal_named}
use Rattle.cell_build.specs.Names.{is_unknown, raw_link, no_phase, no_signal, number_of, phase_names, raw_phase, signal_names, raw_signal}
use Rattle.cell_build.specs.Refusals.{is_empty}
use Rattle.cell_build.proofs.FaultLaws.{HasNoFault, IsPhaseRuled, greens_are_known, nexts_are_known, phase_is_ruled, signal_is_known, start_is_known}
use Rattle.cell_build.proofs.NameLaws.{bit_at-set_of, get_or-number_of, not_among, number_within, set_of-lt, set_of-some}

-- a list that is not empty has an element
some_there : {X : Type 0} (xs : List X) → is_empty xs ≡ false → 0 < length xs
some_there [] some = absurd (true≢false some)
some_there (x ∷ xs) some = omega arith

-- no name that may follow a phase stands for the phase
follows_another : (names more : List (List ℕ)) (p : ℕ) → All (λ name. is_unknown names name ≡ false) more → list_any (bytes_eq (get_or names p [])) more ≡ false → All (λ name. number_of names name ≢ p) more
follows_another names more p known none = λ j d there same.
    not_among (get_or names p []) more j d none there
    (sym (get_or-number_of names (get_or more j d) [] (known j d there)) ∙ ap (λ k. get_or names k []) same)

-- phase p of signal s
phase_is_phase : (raw : RawNet) (s p : ℕ) → IsInRange raw → HasNoFault raw → s < length raw.signals → p < length (raw_signal raw.signals s).phases →
    IsPhase (length (raw_signal raw.signals s).phases) p (phase_built (phase_names (raw_signal raw.signals s)) (raw_phase (raw_signal raw.signals s) p))
phase_is_phase raw s p in_range fine within inner =
    let signal = raw_signal raw.signals s in
    let phase = raw_phase signal p in
    let names = phase_names signal in
    let limits : IsPhaseInRange phase = (in_range.each_signal s no_signal within).each_phase p no_phase inner in
    let ruled : IsPhaseRuled phase = phase_is_ruled raw s p fine within inner in
    let known : All (λ name. is_unknown names name ≡ false) phase.next = nexts_are_known raw s p fine within inner in
    let count : length names ≡ length signal.phases = length-map signal.phases _ in
    let own : get_or names p [] ≡ phase.name = get_or-map _ signal.phases p no_phase [] inner in
    let alone : list_any (bytes_eq (get_or names p [])) phase.next ≡ false = ap (λ name. list_any (bytes_eq name) phase.next) own ∙ ruled.not_by_itself in
    record {
      min = limits.min;
      max = (ruled.limits, limits.max.1);
      clear = limits.clear;
      followed = set_of-some names phase.next (some_there phase.next ruled.followed);
      followed_by_phases = rw count at (set_of-lt names phase.next known);
      not_by_itself = bit_at-set_of names phase.next p (follows_another names phase.next p known alone);
    }

-- the start of a signal is one of its phases
start_is_phase : (signal : RawSignal) (start : Option (List ℕ)) → 2 ≤ length signal.phases → ((name : List ℕ) → start ≡ Some name → is_unknown (phase_names signal) name ≡ false) →
    start_among (phase_names signal) start < length signal.phases
start_is_phase signal None some known = omega arith
start_is_phase signal (Some name) some known = omega (arith, number_within (phase_names signal) name (known name refl), length-map signal.phases (λ (phase : RawPhase). phase.name))

-- signal s
pub signal_is_signal : (raw : RawNet) (s : ℕ) → IsInRange raw → HasNoFault raw → s < length raw.signals → IsSignal (signal_built (raw_signal raw.signals s))
signal_is_signal raw s in_range fine within =
    let signal = raw_signal raw.signals s in
    let limits : IsSignalInRange signal = in_range.each_signal s no_signal within in
    let build = phase_built (phase_names signal) in
    record {
      phases = rw length-map limits.phases;
      start = rw length-map (start_is_phase signal signal.start limits.phases.0 (λ name starts. start_is_known raw s name fine within starts));
      each = λ p there.
          let inner : p < length signal.phases = rw length-map at there in
          rw (length-map, get_or-map build signal.phases p no_phase base.no_phase inner) (phase_is_phase raw s p in_range fine within inner);
    }

-- the signals of a network of cells
abbrev pub signals_of : RawNet → List Signal
signals_of raw = map signal_built raw.signals

-- the phases of signal s are as many as the file names
pub count_of_phases : (raw : RawNet) (s : ℕ) → s < length raw.signals → length (base.signal_of (signals_of raw) s).phases ≡ length (raw_signal raw.signals s).phases
count_of_phases raw s within =
    ap (λ (signal : Signal). length signal.phases) (get_or-map signal_built raw.signals s no_signal base.no_signal within) ∙ length-map (raw_signal raw.signals s).phases _

-- a gate by a signal that is known, with some of its phases
gate_is_gate : (raw : RawNet) (name : List ℕ) (greens : List (List ℕ)) → is_unknown (signal_names raw.signals) name ≡ false → 1 ≤ length greens →
    All (λ green. is_unknown (phase_names (signal_named raw.signals name)) green ≡ false) greens →
    IfSome (gate_by raw.signals (Some name) greens) (IsGate (signals_of raw))
gate_is_gate raw name greens known some greens_known =
    let s = number_of (signal_names raw.signals) name in
    let within : s < length raw.signals = omega (arith, number_within (signal_names raw.signals) name known, length-map raw.signals (λ (signal : RawSignal). signal.name)) in
    let names = phase_names (raw_signal raw.signals s) in
    let count : length (base.signal_of (signals_of raw) s).phases ≡ length names = count_of_phases raw s within ∙ sym (length-map (raw_signal raw.signals s).phases _) in
    record {
      signal = omega (arith, within, length-map raw.signals signal_built);
      opens = set_of-some names greens some;
      phases = rw count (set_of-lt names greens greens_known);
    }

-- the gate of link k
pub gate_of_link_is_gate : (raw : RawNet) (k : ℕ) → IsInRange raw → HasNoFault raw → k < length raw.links → IfSome (gate_of raw.signals (raw_link raw.links k)) (IsGate (signals_of raw))
gate_of_link_is_gate raw k in_range fine within = by_signal (raw_link raw.links k).signal refl
  where
    by_signal : (signal : Option (List ℕ)) → (raw_link raw.links k).signal ≡ signal → IfSome (gate_by raw.signals signal (raw_link raw.links k).greens) (IsGate (signals_of raw))
    by_signal None always_open = tt
    by_signal (Some name) gated =
        let limits : IsLinkInRange (raw_link raw.links k) = in_range.each_link k _ within in
        let greens : IsBetween 1 16 (length (raw_link raw.links k).greens) = limits.greens (rw gated refl) in
        gate_is_gate raw name (raw_link raw.links k).greens (signal_is_known raw k name fine within gated) greens.0 (greens_are_known raw k name fine within gated)
