-- The letters of runs that fit into a horizon: how many, how a word is admissible by them, and that its greens are the runs.
use Rattle.std.proofs.Common.{◌≡◌, ◌≢◌, inl, inr, ℕ, zero, suc, ◌+◌, ◌-◌, ◌<◌, ◌≤◌, List, [], ◌∷◌, ◌++◌, length, map, None, Some, refl, sym, ap, subst, ◌∙◌, arith}
use Rattle.std.specs.Prelude.{◌^◌, take, drop, replicate}
use Rattle.std.specs.Int.{bit_at}
use Rattle.std.proofs.Math.Seq.{take-append-add}
use Rattle.std.proofs.lemmas.Bool.{cases_eq, cases_lt, eq-eqb, ne_eqb}
use Rattle.std.proofs.lemmas.List.{append_assoc, length-append, length-replicate, replicate-append-replicate, take-append-drop, take_at}
use Rattle.std.proofs.lemmas.Nat.Bits.{bit_at_above, bit_at-pow_other}
use Rattle.ct_base.specs.Access.{phase_of}
use Rattle.ct_base.specs.Validity.{IsPhase, IsSignal}
use Rattle.ct_base.specs.declared.plan.Letter.{Letter}
use Rattle.ct_base.specs.declared.plan.Letter.TheVariants.{Green, Clear}
use Rattle.ct_base.specs.declared.signal.Signal.{Signal}
use Rattle.traffic_model.specs.Runs.{AreRuns, IsAdmissible, IsRun, Run, letters_of_run, letters_of_runs}
use Rattle.phase_rules.specs.Expansion.{length_of_run, run_by}
use Rattle.phase_rules.specs.inner.Greens.{greens_from, greens_of}
use Rattle.phase_rules.proofs.FitLaws.{AreFit, IsFit, Spell}

-- ---- sets of phases

-- a set names phases of the signal and no others
abbrev pub HasPhases : Signal → ℕ → Type 0
HasPhases signal allowed = (p : ℕ) → bit_at allowed p ≡ 1 → p < length signal.phases

-- the starting phase alone
pub start_has_phases : (signal : Signal) → IsSignal signal → HasPhases signal (2 ^ signal.start)
start_has_phases signal valid p stands =
    elim (cases_eq p signal.start) [
      | inl e ↦ rw e valid.start
      | inr ne ↦ let none : bit_at (2 ^ signal.start) p ≡ 0 = bit_at-pow_other signal.start p ne in absurd (omega arith)
    ]

-- those that may follow a phase
pub next_has_phases : (signal : Signal) (p : ℕ) → IsSignal signal → p < length signal.phases → HasPhases signal (phase_of signal p).next
next_has_phases signal p valid within q stands =
    let phase : IsPhase (length signal.phases) p (phase_of signal p) = valid.each p within in
    elim (cases_lt q (length signal.phases)) [
      | inl inside ↦ inside
      | inr outside ↦ let none : bit_at (phase_of signal p).next q ≡ 0 = bit_at_above (phase_of signal p).next (length signal.phases) q phase.followed_by_phases outside in absurd (omega arith)
    ]

-- a phase of the set that may follow another is not that one
pub next_is_other : (signal : Signal) (p q : ℕ) → IsSignal signal → p < length signal.phases → bit_at (phase_of signal p).next q ≡ 1 → p ≢ q
next_is_other signal p q valid within stands same =
    let phase : IsPhase (length signal.phases) p (phase_of signal p) = valid.each p within in
    let none : bit_at (phase_of signal p).next q ≡ 0 = ap (bit_at (phase_of signal p).next) (sym same) ∙ phase.not_by_itself in
    absurd (omega arith)

-- ---- parts of lists

-- the first letters of two lists are the same where they begin alike and what follows is
take_same : {X : Type 0} (front xs ys : List X) (n : ℕ) → take (n - length front) xs ≡ take (n - length front) ys → take n (front ++ xs) ≡ take n (front ++ ys)
take_same [] xs ys n same = let e : n - 0 ≡ n = omega arith in rw e at same
take_same (x ∷ front) xs ys zero same = refl
take_same (x ∷ front) xs ys (suc n) same =
    let e : suc n - suc (length front) ≡ n - length front = omega arith in
    ap (λ ys. x ∷ ys) (take_same front xs ys n (rw e at same))

-- a list that repeats an element, and more of what follows
take_repeated : {X : Type 0} (n m : ℕ) (x : X) (ys : List X) → take (n + m) (replicate n x ++ ys) ≡ replicate n x ++ take m ys
take_repeated n m x ys = ap (λ k. take (k + m) (replicate n x ++ ys)) (sym (length-replicate n x)) ∙ take-append-add (replicate n x) ys m

-- no more than what is repeated
take_within : {X : Type 0} (n more : ℕ) (x : X) (ys : List X) → take n (replicate (n + more) x ++ ys) ≡ replicate n x
take_within n more x ys =
    ap (λ xs. take n (xs ++ ys)) (sym (replicate-append-replicate n more x))
    ∙ ap (take n) (append_assoc (replicate n x) (replicate more x) ys) ∙ take_at (replicate n x) (replicate more x ++ ys) n (length-replicate n x)

-- ---- how many letters

-- a run has as many letters as its green and its clearing
pub length_is : (signal : Signal) (run : Run) → length (letters_of_run signal run) ≡ length_of_run signal run
length_is signal run =
    length-append (replicate run.green (Green run.phase)) (replicate (phase_of signal run.phase).clear (Clear run.phase))
    ∙ (let green = length-replicate run.green (Green run.phase) in let clear = length-replicate (phase_of signal run.phase).clear (Clear run.phase) in omega (arith, green, clear))

-- runs that fit fill the horizon
pub fit_fills : (signal : Signal) (allowed room : ℕ) (runs : List Run) → AreFit signal allowed room runs → room ≤ length (letters_of_runs signal runs)
fit_fills signal allowed room [] fit = omega (arith, fit)
fit_fills signal allowed room (run ∷ runs) fit =
    let after : room - length_of_run signal run ≤ length (letters_of_runs signal runs) = fit_fills signal (phase_of signal run.phase).next (room - length_of_run signal run) runs fit.1 in
    let one : length (letters_of_run signal run) ≡ length_of_run signal run = length_is signal run in
    let all : length (letters_of_run signal run ++ letters_of_runs signal runs) ≡ length (letters_of_run signal run) + length (letters_of_runs signal runs) = length-append (letters_of_run signal run) (letters_of_runs signal runs) in
    omega (arith, after, one, all)

-- ---- from runs that fit to an admissible word

-- a run whose green reaches its minimum
abbrev lengthened : Signal → Run → Run
lengthened signal run = record { phase = run.phase; green = run.green + ((phase_of signal run.phase).min - run.green) }

-- runs that are whole, and begin with the same letters
record Whole (signal : Signal) (allowed room : ℕ) (runs : List Run) : Type 0 where
  wholes : List Run
  are_runs : AreRuns signal allowed wholes
  letters : take room (letters_of_runs signal wholes) ≡ take room (letters_of_runs signal runs)

-- a run that the horizon cuts shows as many letters when it is lengthened
cut_shows : (signal : Signal) (run : Run) (room more : ℕ) (xs ys : List Letter) → run.green ≡ room →
    take room (letters_of_run signal (record { phase = run.phase; green = run.green + more }) ++ xs) ≡ take room (letters_of_run signal run ++ ys)
cut_shows signal run room more xs ys e =
    let c = replicate (phase_of signal run.phase).clear (Clear run.phase) in
    let longer : take run.green ((replicate (run.green + more) (Green run.phase) ++ c) ++ xs) ≡ replicate run.green (Green run.phase) =
    ap (take run.green) (append_assoc (replicate (run.green + more) (Green run.phase)) c xs) ∙ take_within run.green more (Green run.phase) (c ++ xs) in
    let shorter : take run.green ((replicate run.green (Green run.phase) ++ c) ++ ys) ≡ replicate run.green (Green run.phase) =
    ap (take run.green) (append_assoc (replicate run.green (Green run.phase)) c ys) ∙ take_at (replicate run.green (Green run.phase)) (c ++ ys) run.green (length-replicate run.green (Green run.phase)) in
    ap (λ n. take n (letters_of_run signal (record { phase = run.phase; green = run.green + more }) ++ xs)) (sym e)
    ∙ longer ∙ sym shorter ∙ ap (λ n. take n (letters_of_run signal run ++ ys)) e

-- a run that is long enough is not lengthened
not_lengthened : (signal : Signal) (run : Run) → (phase_of signal run.phase).min ≤ run.green → lengthened signal run ≡ run
not_lengthened signal run enough =
    let e : run.green + ((phase_of signal run.phase).min - run.green) ≡ run.green = omega arith in
    ap (λ (n : ℕ). the_run run.phase n) e
  where
    the_run : ℕ → ℕ → Run
    the_run p n = record { phase = p; green = n }

whole_from_fit : (signal : Signal) (allowed room : ℕ) (runs : List Run) → IsSignal signal → HasPhases signal allowed → AreFit signal allowed room runs → Whole signal allowed room runs
whole_from_fit signal allowed room [] valid named fit = record { wholes = []; are_runs = tt; letters = refl }
whole_from_fit signal allowed room (run ∷ runs) valid named fit =
    let fits : IsFit signal allowed room run = fit.0 in
    let within : run.phase < length signal.phases = named run.phase fits.may_stand in
    let phase : IsPhase (length signal.phases) run.phase (phase_of signal run.phase) = valid.each run.phase within in
    let after = whole_from_fit signal (phase_of signal run.phase).next (room - length_of_run signal run) runs valid (next_has_phases signal run.phase valid within) fit.1 in
    let most : run.green ≤ (phase_of signal run.phase).max = fits.most in
    let limits : (phase_of signal run.phase).min ≤ (phase_of signal run.phase).max = phase.max.0 in
    record {
      wholes = lengthened signal run ∷ after.wholes;
      are_runs = (record { phase = within; may_stand = fits.may_stand; green = (omega arith, omega arith) }, after.are_runs);
      letters = elim fits.least [
        | inl enough ↦
            ap (λ run. take room (letters_of_run signal run ++ letters_of_runs signal after.wholes)) (not_lengthened signal run enough)
            ∙ take_same (letters_of_run signal run) (letters_of_runs signal after.wholes) (letters_of_runs signal runs) room (rw (length_is signal run) after.letters)
        | inr cut ↦ cut_shows signal run room ((phase_of signal run.phase).min - run.green) (letters_of_runs signal after.wholes) (letters_of_runs signal runs) cut
      ];
    }

-- the word of runs that fit is admissible
pub admissible_from_spell : (signal : Signal) (runs : List Run) (word : List Letter) (steps : ℕ) → IsSignal signal → Spell signal runs word steps → IsAdmissible signal word
admissible_from_spell signal runs word steps valid spell =
    let whole = whole_from_fit signal (2 ^ signal.start) steps runs valid (start_has_phases signal valid) spell.fit in
    record {
      runs = whole.wholes;
      rest = drop steps (letters_of_runs signal whole.wholes);
      are_runs = whole.are_runs;
      begins = sym (take-append-drop steps (letters_of_runs signal whole.wholes)) ∙ ap (λ word. word ++ drop steps (letters_of_runs signal whole.wholes)) (whole.letters ∙ spell.letters);
    }

-- ---- the greens of a word

-- the letters do not go on with the green of a phase
abbrev GoOnElse : ℕ → List Letter → Type 0
GoOnElse p [] = Unit {0}
GoOnElse p (Green q ∷ word) = p ≢ q
GoOnElse p (Clear q ∷ word) = Unit {0}

-- a green under way is made longer by more of its letters
green_goes_on : (p k n : ℕ) (word : List Letter) → greens_from (Some (p, k)) (replicate n (Green p) ++ word) ≡ greens_from (Some (p, k + n)) word
green_goes_on p k zero word = let e : k + 0 ≡ k = omega arith in rw e
green_goes_on p k (suc n) word =
    let e : k + suc n ≡ k + 1 + n = omega arith in
    rw (eq-eqb p p refl, e) (green_goes_on p (k + 1) n word)

-- and ends where the letters do not go on with it
green_ends : (p k : ℕ) (word : List Letter) → GoOnElse p word → greens_from (Some (p, k)) word ≡ (p, k) ∷ greens_from None word
green_ends p k [] other = refl
green_ends p k (Green q ∷ word) other = rw (ne_eqb p q other)
green_ends p k (Clear q ∷ word) other = refl

-- clearing letters are no greens
clear_is_passed : (p n r : ℕ) (word : List Letter) → greens_from None (take r (replicate n (Clear p) ++ word)) ≡ greens_from None (take (r - n) word)
clear_is_passed p zero r word = let e : r - 0 ≡ r = omega arith in rw e
clear_is_passed p (suc n) zero word = let e : 0 - suc n ≡ 0 = omega arith in rw e
clear_is_passed p (suc n) (suc r) word = let e : suc r - suc n ≡ r - n = omega arith in rw e (clear_is_passed p n r word)

-- after a green come its clearing, or the green of a phase that may follow
fit_goes_on : (signal : Signal) (p room r c : ℕ) (pairs : List (ℕ × ℕ)) → IsSignal signal → p < length signal.phases → AreFit signal (phase_of signal p).next room (map run_by pairs) →
    GoOnElse p (take r (replicate c (Clear p) ++ letters_of_runs signal (map run_by pairs)))
fit_goes_on signal p room zero c pairs valid within fit = tt
fit_goes_on signal p room (suc r) (suc c) pairs valid within fit = tt
fit_goes_on signal p room (suc r) zero [] valid within fit = tt
fit_goes_on signal p room (suc r) zero ((q, zero) ∷ pairs) valid within fit = absurd (let some = fit.0.some in omega arith)
fit_goes_on signal p room (suc r) zero ((q, suc n) ∷ pairs) valid within fit = next_is_other signal p q valid within fit.0.may_stand

-- the greens of the word of runs that fit are the runs
pub greens_from_fit : (signal : Signal) (allowed room : ℕ) (pairs : List (ℕ × ℕ)) → IsSignal signal → HasPhases signal allowed → AreFit signal allowed room (map run_by pairs) →
    greens_from None (take room (letters_of_runs signal (map run_by pairs))) ≡ pairs
greens_from_fit signal allowed zero [] valid named fit = refl
greens_from_fit signal allowed (suc room) [] valid named fit = refl
greens_from_fit signal allowed room ((p, zero) ∷ pairs) valid named fit = absurd (let some = fit.0.some in omega arith)
greens_from_fit signal allowed room ((p, suc n) ∷ pairs) valid named fit =
    let within : p < length signal.phases = named p fit.0.may_stand in
    let inner : suc n ≤ room = fit.0.within in
    let clear : ℕ = (phase_of signal p).clear in
    let more = letters_of_runs signal (map run_by pairs) in
    let left : room ≡ suc n + (room - suc n) = omega arith in
    let less : room - suc n - clear ≡ room - (suc n + clear) = omega arith in
    let after : greens_from None (take (room - (suc n + clear)) more) ≡ pairs =
    greens_from_fit signal (phase_of signal p).next (room - (suc n + clear)) pairs valid (next_has_phases signal p valid within) fit.1 in
    let word = take (room - suc n) (replicate clear (Clear p) ++ more) in
    let letters : take room ((replicate (suc n) (Green p) ++ replicate clear (Clear p)) ++ more) ≡ replicate (suc n) (Green p) ++ word =
    ap (take room) (append_assoc (replicate (suc n) (Green p)) (replicate clear (Clear p)) more)
    ∙ ap (λ k. take k (replicate (suc n) (Green p) ++ (replicate clear (Clear p) ++ more))) left
    ∙ take_repeated (suc n) (room - suc n) (Green p) (replicate clear (Clear p) ++ more) in
    let count : 1 + n ≡ suc n = omega arith in
    ap (greens_from None) letters
    ∙ green_goes_on p 1 n word
    ∙ ap (λ k. greens_from (Some (p, k)) word) count
    ∙ green_ends p (suc n) word (fit_goes_on signal p (room - (suc n + clear)) (room - suc n) clear pairs valid within fit.1)
    ∙ ap (λ greens. (p, suc n) ∷ greens) (clear_is_passed p clear (room - suc n) more ∙ ap (λ k. greens_from None (take k more)) less ∙ after)

-- ---- from an admissible word to runs that fit

-- runs as the horizon cuts them: they fit, and show the same letters
record Cut (signal : Signal) (allowed room : ℕ) (runs : List Run) : Type 0 where
  pairs : List (ℕ × ℕ)
  fit : AreFit signal allowed room (map run_by pairs)
  letters : take room (letters_of_runs signal (map run_by pairs)) ≡ take room (letters_of_runs signal runs)

cut_from_runs : (signal : Signal) (allowed room : ℕ) (runs : List Run) → IsSignal signal → AreRuns signal allowed runs → room ≤ length (letters_of_runs signal runs) → Cut signal allowed room runs
cut_from_runs signal allowed zero runs valid are_runs within = record { pairs = []; fit = refl; letters = refl }
cut_from_runs signal allowed (suc room) [] valid are_runs within = absurd (omega arith)
cut_from_runs signal allowed (suc room) (run ∷ runs) valid are_runs within =
    let is : IsRun signal allowed run = are_runs.0 in
    let phase : IsPhase (length signal.phases) run.phase (phase_of signal run.phase) = valid.each run.phase is.phase in
    let least : 1 ≤ (phase_of signal run.phase).min = phase.min.0 in
    let long : (phase_of signal run.phase).min ≤ run.green = is.green.0 in
    let short : run.green ≤ (phase_of signal run.phase).max = is.green.1 in
    let one : length (letters_of_run signal run) ≡ length_of_run signal run = length_is signal run in
    let all : length (letters_of_run signal run ++ letters_of_runs signal runs) ≡ length (letters_of_run signal run) + length (letters_of_runs signal runs) = length-append (letters_of_run signal run) (letters_of_runs signal runs) in
    elim (cases_lt (suc room) run.green) [
      | inl beyond ↦ record {
        pairs = (run.phase, suc room) ∷ [];
        fit = (record { begins = omega arith; may_stand = is.may_stand; some = omega arith; most = omega arith; within = omega arith; least = inr refl }, omega arith);
        letters = (let e : suc room + (run.green - suc room) ≡ run.green = omega arith in
            let same = cut_shows signal (record { phase = run.phase; green = suc room }) (suc room) (run.green - suc room) (letters_of_runs signal runs) [] refl in
            sym (ap (λ (n : ℕ). take (suc room) (letters_of_run signal (record { phase = run.phase; green = n }) ++ letters_of_runs signal runs)) (sym e) ∙ same));
      }
      | inr inside ↦
          let after = cut_from_runs signal (phase_of signal run.phase).next (suc room - length_of_run signal run) runs valid are_runs.1 (omega arith) in
          record {
            pairs = (run.phase, run.green) ∷ after.pairs;
            fit = (record { begins = omega arith; may_stand = is.may_stand; some = omega arith; most = omega arith; within = omega arith; least = inl long }, after.fit);
            letters = take_same (letters_of_run signal run) (letters_of_runs signal (map run_by after.pairs)) (letters_of_runs signal runs) (suc room)
                (subst (λ (n : ℕ). take (suc room - n) (letters_of_runs signal (map run_by after.pairs)) ≡ take (suc room - n) (letters_of_runs signal runs)) (sym one) after.letters);
          }
    ]

-- an admissible word is spelled by its greens
pub spell_from_admissible : (signal : Signal) (word : List Letter) → IsSignal signal → IsAdmissible signal word → Spell signal (map run_by (greens_of word)) word (length word)
spell_from_admissible signal word valid admissible =
    let letters = letters_of_runs signal admissible.runs in
    let begins : letters ≡ word ++ admissible.rest = admissible.begins in
    let long : length letters ≡ length word + length admissible.rest = ap length begins ∙ length-append word admissible.rest in
    let pieces = cut_from_runs signal (2 ^ signal.start) (length word) admissible.runs valid admissible.are_runs (omega arith) in
    let front : take (length word) letters ≡ word = ap (take (length word)) begins ∙ take_at word admissible.rest (length word) refl in
    let shows : take (length word) (letters_of_runs signal (map run_by pieces.pairs)) ≡ word = pieces.letters ∙ front in
    let greens : greens_of word ≡ pieces.pairs =
    ap (greens_from None) (sym shows) ∙ greens_from_fit signal (2 ^ signal.start) (length word) pieces.pairs valid (start_has_phases signal valid) pieces.fit in
    rw greens (record { fit = pieces.fit; letters = shows })
