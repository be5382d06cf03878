-- Which words a signal may show (docs/signals.md). A word is cut from whole runs; this project's own.
use Rattle.std.specs.Prelude.{◌≡◌, ℕ, ◌^◌, ◌<◌, List, [], ◌∷◌, ◌++◌, length, map, take, flat_map, replicate, EachIndex, slice_index_or}
use Rattle.std.specs.Int.{bit_at}
use Rattle.ct_base.specs.Access.{phase_of, signal_of}
use Rattle.ct_base.specs.Validity.{IsBetween}
use Rattle.ct_base.specs.declared.net.Net.{Net}
use Rattle.ct_base.specs.declared.plan.Letter.{Letter}
use Rattle.ct_base.specs.declared.plan.Letter.TheVariants.{Green, Clear}
use Rattle.ct_base.specs.declared.plan.Plan.{Plan}
use Rattle.ct_base.specs.declared.signal.Signal.{Signal}

-- a run: a phase, and for how many steps it is green
pub record Run : Type 0 where
  pub phase : ℕ
  pub green : ℕ

-- the letters of a run: its green, and then the whole clearing of its phase
abbrev pub letters_of_run : Signal → Run → List Letter
letters_of_run signal run = replicate run.green (Green run.phase) ++ replicate (phase_of signal run.phase).clear (Clear run.phase)

-- one run after another
abbrev pub letters_of_runs : Signal → List Run → List Letter
letters_of_runs signal runs = flat_map (letters_of_run signal) runs

-- the run is of a phase of the set, with a green of allowed length
pub record IsRun (signal : Signal) (allowed : ℕ) (run : Run) : Type 0 where
  pub phase : run.phase < length signal.phases
  pub may_stand : bit_at allowed run.phase ≡ 1
  pub green : IsBetween (phase_of signal run.phase).min (phase_of signal run.phase).max run.green

-- the first run is of a phase of the set, and each further one of a phase that may follow the one before
abbrev pub AreRuns : Signal → ℕ → List Run → Type 0
AreRuns signal allowed [] = Unit {0}
AreRuns signal allowed (run ∷ runs) = IsRun signal allowed run × AreRuns signal (phase_of signal run.phase).next runs

-- the word begins the letters of some runs, of which the first is of the starting phase
pub record IsAdmissible (signal : Signal) (word : List Letter) : Type 0 where
  pub runs : List Run
  pub rest : List Letter
  pub are_runs : AreRuns signal (2 ^ signal.start) runs
  pub begins : letters_of_runs signal runs ≡ word ++ rest

-- the word goes on from a front: it is admissible, has the front's letters first, and n letters in all
pub record GoesOnFrom (signal : Signal) (front word : List Letter) (n : ℕ) : Type 0 where
  pub begins : take (length front) word ≡ front
  pub long : length word ≡ n
  pub admissible : IsAdmissible signal word

-- the word of a signal in a plan
abbrev pub word_of : Plan → ℕ → List Letter
word_of plan s = slice_index_or plan.words s []

-- the plan has one word for each signal, with a letter for each of the first t steps and no more
pub record HasWordsOfLength (net : Net) (t : ℕ) (plan : Plan) : Type 0 where
  pub one_per_signal : length plan.words ≡ length net.signals
  pub letters : EachIndex plan.words (λ s. length (word_of plan s) ≡ t)

-- the plan has one admissible word of length t for each signal
pub record IsAdmissiblePlanOfLength (net : Net) (t : ℕ) (plan : Plan) : Type 0 where
  pub words : HasWordsOfLength net t plan
  pub each : EachIndex plan.words (λ s. IsAdmissible (signal_of net.signals s) (word_of plan s))

-- the plan has one word for each signal, with a letter for each step of the horizon
abbrev pub HasWords : Net → Plan → Type 0
HasWords net plan = HasWordsOfLength net net.steps plan

-- the plan has one admissible word for each signal, with a letter for each step of the horizon
abbrev pub IsAdmissiblePlan : Net → Plan → Type 0
IsAdmissiblePlan net plan = IsAdmissiblePlanOfLength net net.steps plan

-- the front of a plan: the first t letters of each of its words
abbrev pub front_of_plan : ℕ → Plan → Plan
front_of_plan t plan = record { words = map (take t) plan.words }
