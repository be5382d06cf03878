-- One pass over a word: how far it has come, and whether the next letter may come (docs/signals.md, "Runs").
use Rattle.std.specs.Prelude.{◌≡◌, ℕ, ◌+◌, ◌-◌, ◌<◌, ◌≤◌, ◌^◌, Bool, true, false, ◌&&◌, ◌==◌, if◌then◌else◌, nat_lt, nat_le, List, [], ◌∷◌, ◌++◌, length, replicate, Option, None, Some}
use Rattle.std.specs.Int.{bit_at}
use Rattle.ct_base.specs.Access.{phase_of}
use Rattle.ct_base.specs.Validity.{IsBetween}
use Rattle.ct_base.specs.declared.plan.Letter.{Letter}
use Rattle.ct_base.specs.declared.plan.Letter.TheVariants as letters
use Rattle.ct_base.specs.declared.signal.Signal.{Signal}
use Rattle.traffic_model.specs.Runs.{AreRuns, Run, letters_of_runs}
use Rattle.phase_rules.specs.declared.scan.Scan.{Scan}
use Rattle.phase_rules.specs.declared.scan.Scan.TheVariants.{Start, Green, Clear}

-- the letter is of the green of a phase
abbrev pub is_green_of : ℕ → Letter → Bool
is_green_of p (letters.Green q) = p == q
is_green_of p (letters.Clear q) = false

-- the letter is of the clearing of a phase
abbrev pub is_clear_of : ℕ → Letter → Bool
is_clear_of p (letters.Green q) = false
is_clear_of p (letters.Clear q) = p == q

-- the first letter of a run of a phase of the set
abbrev pub opened : ℕ → Letter → Option Scan
opened allowed (letters.Green p) = if bit_at allowed p == 1 then Some (Green p 1) else None
opened allowed (letters.Clear p) = None

-- a letter after a green that may end, and so many of its clearing letters
abbrev pub after_clearing : Signal → ℕ → ℕ → Letter → Option Scan
after_clearing signal p shown letter =
    if nat_lt shown (phase_of signal p).clear
    then (if is_clear_of p letter then Some (Clear p (shown + 1)) else None)
    else opened (phase_of signal p).next letter

-- a letter after a word that has come so far, or none where it may not come
abbrev pub after_letter : Signal → Scan → Letter → Option Scan
after_letter signal Start letter = opened (2 ^ signal.start) letter
after_letter signal (Green p shown) letter =
    if is_green_of p letter && nat_lt shown (phase_of signal p).max
    then Some (Green p (shown + 1))
    else (if nat_le (phase_of signal p).min shown then after_clearing signal p 0 letter else None)
after_letter signal (Clear p shown) letter = after_clearing signal p shown letter

-- there is a next state, and a test holds of it
abbrev pub goes_on : Option Scan → (Scan → Bool) → Bool
goes_on None test = false
goes_on (Some next) test = test next

-- each letter that is left may come after those before it
abbrev pub passes : Signal → Scan → List Letter → Bool
passes signal scan [] = true
passes signal scan (letter ∷ word) = goes_on (after_letter signal scan letter) (λ next. passes signal next word)

-- some runs, of which the first is of a phase of the set, begin with the letters
pub record BeginRuns (signal : Signal) (allowed : ℕ) (front word : List Letter) : Type 0 where
  pub runs : List Run
  pub rest : List Letter
  pub are_runs : AreRuns signal allowed runs
  pub begins : front ++ letters_of_runs signal runs ≡ word ++ rest

-- a green of a phase that has shown so many letters may show more, and then runs go on
pub record GoesOnGreen (signal : Signal) (p shown : ℕ) (word : List Letter) : Type 0 where
  pub more : ℕ
  pub green : IsBetween (phase_of signal p).min (phase_of signal p).max (shown + more)
  pub after : BeginRuns signal (phase_of signal p).next (replicate more (letters.Green p) ++ replicate (phase_of signal p).clear (letters.Clear p)) word

-- the letters that are left complete a word that has come so far: what the scan's states mean
abbrev pub Completes : Signal → Scan → List Letter → Type 0
Completes signal Start word = BeginRuns signal (2 ^ signal.start) [] word
Completes signal (Green p shown) word = GoesOnGreen signal p shown word
Completes signal (Clear p shown) word = BeginRuns signal (phase_of signal p).next (replicate ((phase_of signal p).clear - shown) (letters.Clear p)) word

-- the state is one that a scan can come to
abbrev pub IsState : Signal → Scan → Type 0
IsState signal Start = Unit {0}
IsState signal (Green p shown) = (p < length signal.phases) × (1 ≤ shown) × (shown ≤ (phase_of signal p).max)
IsState signal (Clear p shown) = (p < length signal.phases) × (shown ≤ (phase_of signal p).clear)
