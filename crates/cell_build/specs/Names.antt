-- Names and the numbers that they stand for (docs/network-file.md, "Names").
use Rattle.std.specs.Prelude.{ℕ, ◌^◌, Bool, List, [], ◌∷◌, ◌++◌, map, Option, Some, None, is_none, position, bit_or, unwrap_or, slice_index_or}
use Rattle.std.specs.Str.{bytes_eq}
use Rattle.network_file.specs.declared.raw.RawLink.{RawLink}
use Rattle.network_file.specs.declared.raw.RawSignal.{RawSignal}
use Rattle.network_file.specs.declared.raw.RawPhase.{RawPhase}

-- what stands for a link, a signal or a phase that is not there
abbrev pub no_link : RawLink
no_link = record { name = []; cells = 0; cap = 0; store = 0; wave_p = 0; wave_q = 0; to = None; turns = []; signal = None; greens = []; initial = None; pieces = [] }

-- what stands for a phase that is not there
abbrev pub no_phase : RawPhase
no_phase = record { name = []; min = 0; max = 0; clear = 0; next = [] }

-- what stands for a signal that is not there
abbrev pub no_signal : RawSignal
no_signal = record { name = []; start = None; phases = [] }

-- the link, the signal and the phase with a number
abbrev pub raw_link : List RawLink → ℕ → RawLink
raw_link links k = slice_index_or links k no_link

-- the signal with a number
abbrev pub raw_signal : List RawSignal → ℕ → RawSignal
raw_signal signals s = slice_index_or signals s no_signal

-- the phase of a signal with a number
abbrev pub raw_phase : RawSignal → ℕ → RawPhase
raw_phase signal p = slice_index_or signal.phases p no_phase

-- the names of all links, of all signals, and of the phases of a signal
abbrev pub link_names : List RawLink → List (List ℕ)
link_names links = map (λ (link : RawLink). link.name) links

-- the names of all signals
abbrev pub signal_names : List RawSignal → List (List ℕ)
signal_names signals = map (λ (signal : RawSignal). signal.name) signals

-- the names of the phases of a signal
abbrev pub phase_names : RawSignal → List (List ℕ)
phase_names signal = map (λ (phase : RawPhase). phase.name) signal.phases

-- no link, signal or phase has the name
abbrev pub is_unknown : List (List ℕ) → List ℕ → Bool
is_unknown names name = is_none (position (bytes_eq name) names)

-- the number that a name stands for; 0 where it stands for none
abbrev pub number_of : List (List ℕ) → List ℕ → ℕ
number_of names name = unwrap_or (position (bytes_eq name) names) 0

-- the set of the numbers of some names: bit p for number p
abbrev pub set_of : List (List ℕ) → List (List ℕ) → ℕ
set_of names [] = 0
set_of names (name ∷ more) = bit_or (2 ^ number_of names name) (set_of names more)

-- the names of the links that a link leads to: `to` first, then the branches
abbrev pub name_in : Option (List ℕ) → List (List ℕ)
name_in None = []
name_in (Some name) = name ∷ []

-- the names of the links that a link leads to: `to` first, then the branches
abbrev pub names_led_to : RawLink → List (List ℕ)
names_led_to link = name_in link.to ++ map (λ (turn : List ℕ × ℕ). turn.0) link.turns
