-- The plans `short` and `long`, which the limits of a network's signals name (docs/search.md, "Plans"). This project's own.
use Rattle.std.specs.Prelude.{◌≡◌, ℕ, zero, suc, ◌<◌, ◌^◌, Bool, false, true, List, [], ◌∷◌, length, take}
use Rattle.std.specs.Int.{bit_at, trailing_zeros, w8}
use Rattle.listed.specs.Below.{table_of}
use Rattle.ct_base.specs.Access.{phase_of, signal_of}
use Rattle.ct_base.specs.declared.net.Net.{Net}
use Rattle.ct_base.specs.declared.plan.Letter.{Letter}
use Rattle.ct_base.specs.declared.plan.Plan.{Plan}
use Rattle.ct_base.specs.declared.signal.Phase.{Phase}
use Rattle.ct_base.specs.declared.signal.Signal.{Signal}
use Rattle.traffic_model.specs.Runs.{Run, letters_of_runs}

-- the lowest-numbered phase of a set
abbrev pub lowest_of : ℕ → ℕ
lowest_of phases = trailing_zeros w8 phases

-- the phase is one of a set, and none before it is
pub record IsLowest (phases p : ℕ) : Type 0 where
  pub in_set : bit_at phases p ≡ 1
  pub first : (q : ℕ) → q < p → bit_at phases q ≡ 0

-- the green that a phase has in `short`, or in `long`
abbrev pub green_in : Bool → Phase → ℕ
green_in false phase = phase.min
green_in true phase = phase.max

-- the run of the lowest-numbered phase of a set
abbrev pub named_run : Signal → Bool → ℕ → Run
named_run signal long allowed = record { phase = lowest_of allowed; green = green_in long (phase_of signal (lowest_of allowed)) }

-- so many runs, the first of the lowest-numbered phase of a set, and each next one of the lowest-numbered phase that may follow
abbrev pub named_runs : Signal → Bool → ℕ → ℕ → List Run
named_runs signal long allowed zero = []
named_runs signal long allowed (suc n) = named_run signal long allowed ∷ named_runs signal long (phase_of signal (lowest_of allowed)).next n

-- the letters of the runs from the starting phase on, which the horizon cuts; each run has a letter, so there are as many as steps
unfoldable pub named_word : Signal → Bool → ℕ → List Letter
named_word signal long steps = take steps (letters_of_runs signal (named_runs signal long (2 ^ signal.start) steps))

-- the plan `short`, or where the flag is true the plan `long`: such a word for each signal
abbrev pub named_plan : Net → Bool → Plan
named_plan net long = record { words = table_of (length net.signals) (λ s. named_word (signal_of net.signals s) long net.steps) }
