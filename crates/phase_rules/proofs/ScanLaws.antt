-- The scan of a word passes where there are runs that begin with it: each state means what completes it.
use Rattle.std.proofs.Common.{◌≡◌, ◌⊎◌, inl, inr, ℕ, zero, suc, ◌+◌, ◌-◌, ◌<◌, ◌≤◌, Bool, true, false, List, [], ◌∷◌, ◌++◌, length, get_or, Option, None, Some, refl, sym, ap, subst, ◌∙◌, arith}
use Rattle.std.specs.Prelude.{◌^◌, ◌↔◌, ◌==◌, ◌&&◌, if◌then◌else◌, nat_le, nat_lt, drop, replicate, IsTrue}
use Rattle.std.specs.Int.{bit_at}
use Rattle.std.proofs.lemmas.Bool.{and_parts, cases_Bool, cases_lt, eq-eqb, eqb-true, le-leb, le-ltb, leb-true, lt-ltb, ltb-true, ne_eqb}
use Rattle.std.proofs.lemmas.List.{append-nil, at_drop_all, at_drop_more}
use Rattle.ct_base.specs.Access.{phase_of}
use Rattle.ct_base.specs.Validity.{IsBetween, IsPhase, IsSignal}
use Rattle.ct_base.specs.declared.plan.Letter.{Letter}
use Rattle.ct_base.specs.declared.plan.Letter.TheVariants as letters
use Rattle.ct_base.specs.declared.signal.Signal.{Signal}
use Rattle.traffic_model.specs.Runs.{AreRuns, IsAdmissible, IsRun, Run, letters_of_runs}
use Rattle.phase_rules.specs.inner.Scan.{BeginRuns, Completes, GoesOnGreen, IsState, after_clearing, after_letter, goes_on, is_clear_of, is_green_of, opened, passes}
use Rattle.phase_rules.specs.declared.scan.Scan.{Scan}
use Rattle.phase_rules.specs.declared.scan.Scan.TheVariants.{Start, Green, Clear}
use Rattle.phase_rules.proofs.WordLaws.{HasPhases, next_has_phases, next_is_other, start_has_phases}

-- a letter takes a state on to one that the letters after it complete
pub record TakesOn (signal : Signal) (reached : Option Scan) (word : List Letter) : Type 0 where
  pub next : Scan
  pub is : reached ≡ Some next
  pub state : IsState signal next
  pub completes : Completes signal next word

-- ---- the first letter of a run

-- runs that begin with a letter begin with a green of theirs
open_to : (signal : Signal) (allowed : ℕ) (letter : Letter) (word : List Letter) → IsSignal signal → BeginRuns signal allowed [] (letter ∷ word) → TakesOn signal (opened allowed letter) word
open_to signal allowed letter word valid begin = by_runs begin.runs begin.are_runs begin.begins
  where
    by_runs : (runs : List Run) → AreRuns signal allowed runs → letters_of_runs signal runs ≡ (letter ∷ word) ++ begin.rest → TakesOn signal (opened allowed letter) word
    by_runs [] are begins = absurd (cc)
    by_runs (run ∷ runs) are begins =
        let is : IsRun signal allowed run = are.0 in
        let phase : IsPhase (length signal.phases) run.phase (phase_of signal run.phase) = valid.each run.phase is.phase in
        let least : 1 ≤ (phase_of signal run.phase).min = phase.min.0 in
        let long : (phase_of signal run.phase).min ≤ run.green = is.green.0 in
        let short : run.green ≤ (phase_of signal run.phase).max = is.green.1 in
        let count : run.green ≡ suc (run.green - 1) = omega arith in
        let clear = replicate (phase_of signal run.phase).clear (letters.Clear run.phase) in
        let spelled : (replicate (suc (run.green - 1)) (letters.Green run.phase) ++ clear) ++ letters_of_runs signal runs ≡ letter ∷ (word ++ begin.rest) =
        ap (λ n. (replicate n (letters.Green run.phase) ++ clear) ++ letters_of_runs signal runs) (sym count) ∙ begins in
        let first : letters.Green run.phase ≡ letter = cc in
        let after : (replicate (run.green - 1) (letters.Green run.phase) ++ clear) ++ letters_of_runs signal runs ≡ word ++ begin.rest = cc in
        record {
          next = Green run.phase 1;
          is = ap (opened allowed) (sym first) ∙ (rw (eq-eqb (bit_at allowed run.phase) 1 is.may_stand));
          state = (is.phase, omega arith, omega arith);
          completes = record {
            more = run.green - 1;
            green = (omega arith, omega arith);
            after = record { runs = runs; rest = begin.rest; are_runs = are.1; begins = after };
          };
        }

-- and the other way round
open_from : (signal : Signal) (allowed : ℕ) (letter : Letter) (word : List Letter) (next : Scan) → HasPhases signal allowed → opened allowed letter ≡ Some next → Completes signal next word → BeginRuns signal allowed [] (letter ∷ word)
open_from signal allowed (letters.Clear p) word next named is completes = absurd (cc)
open_from signal allowed (letters.Green p) word next named is completes = by_bit (cases_Bool (bit_at allowed p == 1))
  where
    by_bit : ((bit_at allowed p == 1) ≡ true) ⊎ ((bit_at allowed p == 1) ≡ false) → BeginRuns signal allowed [] (letters.Green p ∷ word)
    by_bit (inr none) = absurd (let e = rw none at is in cc)
    by_bit (inl stands) =
        let e : Some (Green p 1) ≡ Some next = rw stands at is in
        let same : Green p 1 ≡ next = cc in
        let goes : GoesOnGreen signal p 1 word = subst (λ (next : Scan). Completes signal next word) (sym same) completes in
        let bit : bit_at allowed p ≡ 1 = eqb-true _ _ stands in
        let count : suc goes.more ≡ 1 + goes.more = omega arith in
        let green : IsBetween (phase_of signal p).min (phase_of signal p).max (suc goes.more) = subst (λ (n : ℕ). IsBetween (phase_of signal p).min (phase_of signal p).max n) (sym count) goes.green in
        record {
          runs = record { phase = p; green = suc goes.more } ∷ goes.after.runs;
          rest = goes.after.rest;
          are_runs = (record { phase = named p bit; may_stand = bit; green = green }, goes.after.are_runs);
          begins = ap (λ word. letters.Green p ∷ word) goes.after.begins;
        }

-- and the state is one of the signal's
open_state : (signal : Signal) (allowed : ℕ) (letter : Letter) (next : Scan) → IsSignal signal → HasPhases signal allowed → opened allowed letter ≡ Some next → IsState signal next
open_state signal allowed (letters.Clear p) next valid named is = absurd (cc)
open_state signal allowed (letters.Green p) next valid named is = by_bit (cases_Bool (bit_at allowed p == 1))
  where
    by_bit : ((bit_at allowed p == 1) ≡ true) ⊎ ((bit_at allowed p == 1) ≡ false) → IsState signal next
    by_bit (inr none) = absurd (let e = rw none at is in cc)
    by_bit (inl stands) =
        let e : Some (Green p 1) ≡ Some next = rw stands at is in
        let same : Green p 1 ≡ next = cc in
        let within : p < length signal.phases = named p (eqb-true _ _ stands) in
        let phase : IsPhase (length signal.phases) p (phase_of signal p) = valid.each p within in
        let least : 1 ≤ (phase_of signal p).min = phase.min.0 in
        let most : (phase_of signal p).min ≤ (phase_of signal p).max = phase.max.0 in
        subst (λ (next : Scan). IsState signal next) same (within, omega arith, omega arith)

-- ---- clearing letters

-- what comes after a green that may end, and so many of its clearing letters
abbrev pub Cleared : Signal → ℕ → ℕ → List Letter → Type 0
Cleared signal p shown word = BeginRuns signal (phase_of signal p).next (replicate ((phase_of signal p).clear - shown) (letters.Clear p)) word

-- one clearing letter more
clearing : (signal : Signal) (p shown : ℕ) → shown < (phase_of signal p).clear →
    replicate ((phase_of signal p).clear - shown) (letters.Clear p) ≡ letters.Clear p ∷ replicate ((phase_of signal p).clear - (shown + 1)) (letters.Clear p)
clearing signal p shown within =
    let count : (phase_of signal p).clear - shown ≡ suc ((phase_of signal p).clear - (shown + 1)) = omega arith in
    ap (λ n. replicate n (letters.Clear p)) count

-- no clearing letter more
cleared : (signal : Signal) (p shown : ℕ) → (phase_of signal p).clear ≤ shown → replicate ((phase_of signal p).clear - shown) (letters.Clear p) ≡ []
cleared signal p shown all =
    let count : (phase_of signal p).clear - shown ≡ 0 = omega arith in
    ap (λ n. replicate n (letters.Clear p)) count

clear_to : (signal : Signal) (p shown : ℕ) (letter : Letter) (word : List Letter) → IsSignal signal → p < length signal.phases → Cleared signal p shown (letter ∷ word) → TakesOn signal (after_clearing signal p shown letter) word
clear_to signal p shown letter word valid there begin = by_count (cases_lt shown (phase_of signal p).clear)
  where
    by_count : (shown < (phase_of signal p).clear) ⊎ ((phase_of signal p).clear ≤ shown) → TakesOn signal (after_clearing signal p shown letter) word
    by_count (inl within) =
        let left = replicate ((phase_of signal p).clear - (shown + 1)) (letters.Clear p) in
        let spelled : letters.Clear p ∷ (left ++ letters_of_runs signal begin.runs) ≡ letter ∷ (word ++ begin.rest) =
        ap (λ front. front ++ letters_of_runs signal begin.runs) (sym (clearing signal p shown within)) ∙ begin.begins in
        let first : letters.Clear p ≡ letter = cc in
        let after : left ++ letters_of_runs signal begin.runs ≡ word ++ begin.rest = cc in
        record {
          next = Clear p (shown + 1);
          is = ap (after_clearing signal p shown) (sym first) ∙ (rw (lt-ltb shown (phase_of signal p).clear within, eq-eqb p p refl));
          state = (there, omega arith);
          completes = record { runs = begin.runs; rest = begin.rest; are_runs = begin.are_runs; begins = after };
        }
    by_count (inr all) =
        let spelled : letters_of_runs signal begin.runs ≡ (letter ∷ word) ++ begin.rest =
        ap (λ front. front ++ letters_of_runs signal begin.runs) (sym (cleared signal p shown all)) ∙ begin.begins in
        let takes = open_to signal (phase_of signal p).next letter word valid (record { runs = begin.runs; rest = begin.rest; are_runs = begin.are_runs; begins = spelled }) in
        record { next = takes.next; is = rw (le-ltb shown (phase_of signal p).clear all) takes.is; state = takes.state; completes = takes.completes }

-- and the other way round
clear_from : (signal : Signal) (p shown : ℕ) (letter : Letter) (word : List Letter) (next : Scan) → IsSignal signal → p < length signal.phases →
    after_clearing signal p shown letter ≡ Some next → Completes signal next word → Cleared signal p shown (letter ∷ word)
clear_from signal p shown letter word next valid there is completes = by_count (cases_lt shown (phase_of signal p).clear)
  where
    by_letter : (letter : Letter) → shown < (phase_of signal p).clear → (if is_clear_of p letter then Some (Clear p (shown + 1)) else None) ≡ Some next → Cleared signal p shown (letter ∷ word)
    by_letter (letters.Green q) within is = absurd (cc)
    by_letter (letters.Clear q) within is = elim (cases_Bool (p == q)) [
      | inr other ↦ absurd (let e = rw other at is in cc)
      | inl same ↦
          let e : Some (Clear p (shown + 1)) ≡ Some next = rw same at is in
          let state : Clear p (shown + 1) ≡ next = cc in
          let goes : Cleared signal p (shown + 1) word = subst (λ (next : Scan). Completes signal next word) (sym state) completes in
          let phase : p ≡ q = eqb-true _ _ same in
          record {
            runs = goes.runs;
            rest = goes.rest;
            are_runs = goes.are_runs;
            begins = ap (λ front. front ++ letters_of_runs signal goes.runs) (clearing signal p shown within) ∙ ap (λ word. letters.Clear p ∷ word) goes.begins ∙ ap (λ q. letters.Clear q ∷ (word ++ goes.rest)) phase;
          }
    ]

    by_count : (shown < (phase_of signal p).clear) ⊎ ((phase_of signal p).clear ≤ shown) → Cleared signal p shown (letter ∷ word)
    by_count (inl within) = by_letter letter within (rw (lt-ltb shown (phase_of signal p).clear within) at is)
    by_count (inr all) =
        let begin = open_from signal (phase_of signal p).next letter word next (next_has_phases signal p valid there) (rw (le-ltb shown (phase_of signal p).clear all) at is) completes in
        record {
          runs = begin.runs;
          rest = begin.rest;
          are_runs = begin.are_runs;
          begins = ap (λ front. front ++ letters_of_runs signal begin.runs) (cleared signal p shown all) ∙ begin.begins;
        }

-- and the state is one of the signal's
clear_state : (signal : Signal) (p shown : ℕ) (letter : Letter) (next : Scan) → IsSignal signal → p < length signal.phases → after_clearing signal p shown letter ≡ Some next → IsState signal next
clear_state signal p shown letter next valid there is = by_count (cases_lt shown (phase_of signal p).clear)
  where
    by_letter : shown < (phase_of signal p).clear → (if is_clear_of p letter then Some (Clear p (shown + 1)) else None) ≡ Some next → IsState signal next
    by_letter within is = elim (cases_Bool (is_clear_of p letter)) [
      | inr other ↦ absurd (let e = rw other at is in cc)
      | inl same ↦
          let e : Some (Clear p (shown + 1)) ≡ Some next = rw same at is in
          let state : Clear p (shown + 1) ≡ next = cc in
          subst (λ (next : Scan). IsState signal next) state (there, omega arith)
    ]

    by_count : (shown < (phase_of signal p).clear) ⊎ ((phase_of signal p).clear ≤ shown) → IsState signal next
    by_count (inl within) = by_letter within (rw (lt-ltb shown (phase_of signal p).clear within) at is)
    by_count (inr all) = open_state signal (phase_of signal p).next letter next valid (next_has_phases signal p valid there) (rw (le-ltb shown (phase_of signal p).clear all) at is)

-- ---- green letters

-- a letter that may come after a green that ends is no green of that phase, which never follows itself
not_itself : (signal : Signal) (p : ℕ) (letter : Letter) (next : Scan) → IsSignal signal → p < length signal.phases → after_clearing signal p 0 letter ≡ Some next → is_green_of p letter ≡ false
not_itself signal p (letters.Clear q) next valid there is = refl
not_itself signal p (letters.Green q) next valid there is = by_count (cases_lt 0 (phase_of signal p).clear)
  where
    by_bit : ((bit_at (phase_of signal p).next q == 1) ≡ true) ⊎ ((bit_at (phase_of signal p).next q == 1) ≡ false) → opened (phase_of signal p).next (letters.Green q) ≡ Some next → (p == q) ≡ false
    by_bit (inl stands) is = ne_eqb p q (next_is_other signal p q valid there (eqb-true _ _ stands))
    by_bit (inr none) is = absurd (let e = rw none at is in cc)

    by_count : (0 < (phase_of signal p).clear) ⊎ ((phase_of signal p).clear ≤ 0) → (p == q) ≡ false
    by_count (inl some) = absurd (let e = rw (lt-ltb 0 (phase_of signal p).clear some) at is in cc)
    by_count (inr none) = by_bit (cases_Bool (bit_at (phase_of signal p).next q == 1)) (rw (le-ltb 0 (phase_of signal p).clear none) at is)

-- a green that ends goes on as its clearing does
green_ends : (signal : Signal) (p shown : ℕ) (letter : Letter) → is_green_of p letter ≡ false → (phase_of signal p).min ≤ shown → after_letter signal (Green p shown) letter ≡ after_clearing signal p 0 letter
green_ends signal p shown letter other enough = rw (other, le-leb (phase_of signal p).min shown enough)

green_to : (signal : Signal) (p shown : ℕ) (letter : Letter) (word : List Letter) → IsSignal signal → p < length signal.phases → GoesOnGreen signal p shown (letter ∷ word) →
    TakesOn signal (after_letter signal (Green p shown) letter) word
green_to signal p shown letter word valid there goes = by_more goes.more goes.green goes.after
  where
    clear : List Letter
    clear = replicate (phase_of signal p).clear (letters.Clear p)

    by_more : (more : ℕ) → IsBetween (phase_of signal p).min (phase_of signal p).max (shown + more) →
        BeginRuns signal (phase_of signal p).next (replicate more (letters.Green p) ++ replicate (phase_of signal p).clear (letters.Clear p)) (letter ∷ word) →
        TakesOn signal (after_letter signal (Green p shown) letter) word
    by_more zero green after =
        let enough : (phase_of signal p).min ≤ shown = omega (arith, green.0) in
        let none : (phase_of signal p).clear ≡ (phase_of signal p).clear - 0 = omega arith in
        let ends : Cleared signal p 0 (letter ∷ word) = subst (λ (n : ℕ). BeginRuns signal (phase_of signal p).next (replicate n (letters.Clear p)) (letter ∷ word)) none after in
        let takes = clear_to signal p 0 letter word valid there ends in
        let other : is_green_of p letter ≡ false = not_itself signal p letter takes.next valid there takes.is in
        record { next = takes.next; is = green_ends signal p shown letter other enough ∙ takes.is; state = takes.state; completes = takes.completes }
    by_more (suc more) green after =
        let most : shown + suc more ≤ (phase_of signal p).max = green.1 in
        let within : shown < (phase_of signal p).max = omega arith in
        let count : shown + suc more ≡ shown + 1 + more = omega arith in
        let left = replicate more (letters.Green p) ++ replicate (phase_of signal p).clear (letters.Clear p) in
        let spelled : letters.Green p ∷ (left ++ letters_of_runs signal after.runs) ≡ letter ∷ (word ++ after.rest) = after.begins in
        let first : letters.Green p ≡ letter = cc in
        let remains : left ++ letters_of_runs signal after.runs ≡ word ++ after.rest = cc in
        record {
          next = Green p (shown + 1);
          is = ap (after_letter signal (Green p shown)) (sym first) ∙ (rw (eq-eqb p p refl, lt-ltb shown (phase_of signal p).max within));
          state = (there, omega arith, omega arith);
          completes = record {
            more = more;
            green = subst (λ (n : ℕ). IsBetween (phase_of signal p).min (phase_of signal p).max n) count green;
            after = record { runs = after.runs; rest = after.rest; are_runs = after.are_runs; begins = remains };
          };
        }

-- what a green may be followed by
data NextOfGreen (signal : Signal) (p shown : ℕ) (letter : Letter) (next : Scan) : Type 0 where
  longer : letters.Green p ≡ letter → shown < (phase_of signal p).max → Green p (shown + 1) ≡ next → NextOfGreen signal p shown letter next
  ended : (phase_of signal p).min ≤ shown → after_clearing signal p 0 letter ≡ Some next → NextOfGreen signal p shown letter next

-- a green letter of a phase
green_is : (p : ℕ) (letter : Letter) → is_green_of p letter ≡ true → letters.Green p ≡ letter
green_is p (letters.Green q) same = ap letters.Green (eqb-true p q same)
green_is p (letters.Clear q) same = absurd (cc)

next_of_green : (signal : Signal) (p shown : ℕ) (letter : Letter) (next : Scan) → after_letter signal (Green p shown) letter ≡ Some next → NextOfGreen signal p shown letter next
next_of_green signal p shown letter next is = by_test (cases_Bool (is_green_of p letter && nat_lt shown (phase_of signal p).max))
  where
    by_least : ((nat_le (phase_of signal p).min shown) ≡ true) ⊎ ((nat_le (phase_of signal p).min shown) ≡ false) →
        (if nat_le (phase_of signal p).min shown then after_clearing signal p 0 letter else None) ≡ Some next → NextOfGreen signal p shown letter next
    by_least (inl enough) is = ended (leb-true _ _ enough) (rw enough at is)
    by_least (inr short) is = absurd (let e = rw short at is in cc)

    by_test : ((is_green_of p letter && nat_lt shown (phase_of signal p).max) ≡ true) ⊎ ((is_green_of p letter && nat_lt shown (phase_of signal p).max) ≡ false) → NextOfGreen signal p shown letter next
    by_test (inl more) =
        let parts = and_parts (is_green_of p letter) (nat_lt shown (phase_of signal p).max) more in
        let e : Some (Green p (shown + 1)) ≡ Some next = rw more at is in
        longer (green_is p letter parts.0) (ltb-true _ _ parts.1) (let same : Green p (shown + 1) ≡ next = cc in same)
    by_test (inr no_more) = by_least (cases_Bool (nat_le (phase_of signal p).min shown)) (rw no_more at is)

green_from : (signal : Signal) (p shown : ℕ) (letter : Letter) (word : List Letter) (next : Scan) → IsSignal signal → IsState signal (Green p shown) →
    NextOfGreen signal p shown letter next → Completes signal next word → GoesOnGreen signal p shown (letter ∷ word)
green_from signal p shown letter word next valid state (longer first within is) completes =
    let goes : GoesOnGreen signal p (shown + 1) word = subst (λ (next : Scan). Completes signal next word) (sym is) completes in
    let count : shown + 1 + goes.more ≡ shown + suc goes.more = omega arith in
    record {
      more = suc goes.more;
      green = subst (λ (n : ℕ). IsBetween (phase_of signal p).min (phase_of signal p).max n) count goes.green;
      after = record {
        runs = goes.after.runs;
        rest = goes.after.rest;
        are_runs = goes.after.are_runs;
        begins = ap (λ word. letters.Green p ∷ word) goes.after.begins ∙ ap (λ letter. letter ∷ (word ++ goes.after.rest)) first;
      };
    }
green_from signal p shown letter word next valid state (ended enough is) completes =
    let begin : Cleared signal p 0 (letter ∷ word) = clear_from signal p 0 letter word next valid state.0 is completes in
    let all : (phase_of signal p).clear - 0 ≡ (phase_of signal p).clear = omega arith in
    let most : shown ≤ (phase_of signal p).max = state.2 in
    record {
      more = 0;
      green = (omega arith, omega arith);
      after = subst (λ (n : ℕ). BeginRuns signal (phase_of signal p).next (replicate n (letters.Clear p)) (letter ∷ word)) all begin;
    }

green_state : (signal : Signal) (p shown : ℕ) (letter : Letter) (next : Scan) → IsSignal signal → IsState signal (Green p shown) → NextOfGreen signal p shown letter next → IsState signal next
green_state signal p shown letter next valid state (longer first within is) = subst (λ (next : Scan). IsState signal next) is (state.0, omega arith, omega arith)
green_state signal p shown letter next valid state (ended enough is) = clear_state signal p 0 letter next valid state.0 is

-- ---- each letter, and the whole word

-- what completes a state takes it on by its first letter
step_to : (signal : Signal) (scan : Scan) (letter : Letter) (word : List Letter) → IsSignal signal → IsState signal scan → Completes signal scan (letter ∷ word) → TakesOn signal (after_letter signal scan letter) word
step_to signal Start letter word valid state completes = open_to signal (2 ^ signal.start) letter word valid completes
step_to signal (Green p shown) letter word valid state completes = green_to signal p shown letter word valid state.0 completes
step_to signal (Clear p shown) letter word valid state completes = clear_to signal p shown letter word valid state.0 completes

-- and the other way round
step_from : (signal : Signal) (scan : Scan) (letter : Letter) (word : List Letter) (next : Scan) → IsSignal signal → IsState signal scan →
    after_letter signal scan letter ≡ Some next → Completes signal next word → Completes signal scan (letter ∷ word)
step_from signal Start letter word next valid state is completes = open_from signal (2 ^ signal.start) letter word next (start_has_phases signal valid) is completes
step_from signal (Green p shown) letter word next valid state is completes = green_from signal p shown letter word next valid state (next_of_green signal p shown letter next is) completes
step_from signal (Clear p shown) letter word next valid state is completes = clear_from signal p shown letter word next valid state.0 is completes

-- a letter leads to states of the signal
step_state : (signal : Signal) (scan : Scan) (letter : Letter) (next : Scan) → IsSignal signal → IsState signal scan → after_letter signal scan letter ≡ Some next → IsState signal next
step_state signal Start letter next valid state is = open_state signal (2 ^ signal.start) letter next valid (start_has_phases signal valid) is
step_state signal (Green p shown) letter next valid state is = green_state signal p shown letter next valid state (next_of_green signal p shown letter next is)
step_state signal (Clear p shown) letter next valid state is = clear_state signal p shown letter next valid state.0 is

-- runs may end with any letters that are due
no_more : (signal : Signal) (allowed : ℕ) (front : List Letter) → BeginRuns signal allowed front []
no_more signal allowed front = record { runs = []; rest = front; are_runs = tt; begins = append-nil front }

-- no letter completes each state, since the horizon may cut a word anywhere
end_completes : (signal : Signal) (scan : Scan) → IsSignal signal → IsState signal scan → Completes signal scan []
end_completes signal Start valid state = no_more signal (2 ^ signal.start) []
end_completes signal (Green p shown) valid state =
    let phase : IsPhase (length signal.phases) p (phase_of signal p) = valid.each p state.0 in
    let limits : (phase_of signal p).min ≤ (phase_of signal p).max = phase.max.0 in
    let most : shown ≤ (phase_of signal p).max = state.2 in
    record { more = (phase_of signal p).min - shown; green = (omega arith, omega arith); after = no_more signal (phase_of signal p).next _ }
end_completes signal (Clear p shown) valid state = no_more signal (phase_of signal p).next (replicate ((phase_of signal p).clear - shown) (letters.Clear p))

-- letters that complete a state pass from there
pub passes_from_completes : (signal : Signal) (scan : Scan) (word : List Letter) → IsSignal signal → IsState signal scan → Completes signal scan word → passes signal scan word ≡ true
passes_from_completes signal scan [] valid state completes = refl
passes_from_completes signal scan (letter ∷ word) valid state completes =
    let takes = step_to signal scan letter word valid state completes in
    rw takes.is (passes_from_completes signal takes.next word valid takes.state takes.completes)

-- and the other way round
pub completes_from_passes : (signal : Signal) (scan : Scan) (word : List Letter) → IsSignal signal → IsState signal scan → passes signal scan word ≡ true → Completes signal scan word
completes_from_passes signal scan [] valid state pass = end_completes signal scan valid state
completes_from_passes signal scan (letter ∷ word) valid state pass =
    by_next (λ next state pass. completes_from_passes signal next word valid state pass) (after_letter signal scan letter) refl pass
  where
    by_next : ((next : Scan) → IsState signal next → passes signal next word ≡ true → Completes signal next word) →
        (reached : Option Scan) → after_letter signal scan letter ≡ reached → goes_on reached (λ next. passes signal next word) ≡ true → Completes signal scan (letter ∷ word)
    by_next rest None is pass = absurd (cc)
    by_next rest (Some next) is pass = step_from signal scan letter word next valid state is (rest next (step_state signal scan letter next valid state is) pass)

-- a word passes from the start where it is admissible
pub passes_iff_admissible : (signal : Signal) (word : List Letter) → IsSignal signal → (passes signal Start word ≡ true) ↔ IsAdmissible signal word
passes_iff_admissible signal word valid = (
  λ pass.
      let begin : BeginRuns signal (2 ^ signal.start) [] word = completes_from_passes signal Start word valid tt pass in
      record { runs = begin.runs; rest = begin.rest; are_runs = begin.are_runs; begins = begin.begins },
  λ admissible. passes_from_completes signal Start word valid tt
      (record { runs = admissible.runs; rest = admissible.rest; are_runs = admissible.are_runs; begins = admissible.begins }),
)

-- an answer by the scan of the whole word is right
pub answers_by_scan : (signal : Signal) (word : List Letter) (answer : Bool) → IsSignal signal → passes signal Start word ≡ answer → IsTrue answer ↔ IsAdmissible signal word
answers_by_scan signal word answer valid is =
    (λ yes. (passes_iff_admissible signal word valid).0 (is ∙ yes), λ admissible. sym is ∙ (passes_iff_admissible signal word valid).1 admissible)

-- what is left passes where its first letter may come, and what is left then passes
pub passes_more : (signal : Signal) (scan : Scan) (word : List Letter) (i : ℕ) (d : Letter) → i < length word →
    passes signal scan (drop i word) ≡ goes_on (after_letter signal scan (get_or word i d)) (λ next. passes signal next (drop (i + 1) word))
passes_more signal scan word i d within = at_drop_more (passes signal scan) word i d within

-- nothing is left
pub passes_all : (signal : Signal) (scan : Scan) (word : List Letter) (i : ℕ) → length word ≤ i → passes signal scan (drop i word) ≡ true
passes_all signal scan word i all = at_drop_all (passes signal scan) word i all
