-- Runs within a horizon, walked from the front: what is left of the horizon, and which phases may come. It is the same as to have no fault.
use Rattle.std.proofs.Common.{◌≡◌, ◌⊎◌, inl, inr, ℕ, suc, ◌+◌, ◌-◌, ◌<◌, ◌≤◌, Bool, true, false, List, [], ◌∷◌, ◌++◌, length, Ok, refl, sym, ap, subst, ◌∙◌, arith}
use Rattle.std.specs.Prelude.{◌^◌, not, nat_lt, nat_le, ◌==◌, take}
use Rattle.std.specs.Int.{bit_at}
use Rattle.std.proofs.lemmas.Bool.{and_from, and_parts, cases_eq, eq-eqb, eqb-true, le-leb, leb-false, leb-true, lt-leb, lt-ltb, le-ltb, ltb-false, ltb-true, not-false, or_cases, or_left, or_right}
use Rattle.std.proofs.lemmas.List.{append-nil, append_assoc, get_or_at, length_push, length-append}
use Rattle.listed.specs.Below.{join_below, sum_below}
use Rattle.refusals.specs.Faults.{where_so}
use Rattle.listed.proofs.JoinLaws.{append_none, join_none, join_of_none}
use Rattle.refusals.proofs.FirstFaults.{where_none, unless_fine}
use Rattle.ct_base.specs.Access.{phase_of}
use Rattle.ct_base.specs.declared.plan.Letter.{Letter}
use Rattle.ct_base.specs.declared.signal.Signal.{Signal}
use Rattle.traffic_model.specs.Runs.{Run, letters_of_runs}
use Rattle.phase_rules.specs.Expansion.{begins_at, expanded, faults_at, faults_of, is_green, length_of_run, may_be, out_of_order, run_at, short_faults}
use Rattle.phase_rules.specs.declared.fault.RunFault.TheVariants.{Surplus, Green}

-- a run of a phase of the set, within what is left of the horizon
pub record IsFit (signal : Signal) (allowed room : ℕ) (run : Run) : Type 0 where
  pub begins : 0 < room
  pub may_stand : bit_at allowed run.phase ≡ 1
  pub some : 0 < run.green
  pub most : run.green ≤ (phase_of signal run.phase).max
  pub within : run.green ≤ room
  pub least : ((phase_of signal run.phase).min ≤ run.green) ⊎ (run.green ≡ room)

-- each run fits after the one before, and together they fill the horizon
abbrev pub AreFit : Signal → ℕ → ℕ → List Run → Type 0
AreFit signal allowed room [] = room ≡ 0
AreFit signal allowed room (run ∷ runs) = IsFit signal allowed room run × AreFit signal (phase_of signal run.phase).next (room - length_of_run signal run) runs

-- a test whose failure is a fault holds where there is none
test_holds : {X : Type 0} (test : Bool) (fault : X) → where_so (not test) fault ≡ [] → test ≡ true
test_holds test fault none = not-false test (where_none (not test) fault none)

-- and the other way round
no_fault : {X : Type 0} (test : Bool) (fault : X) → test ≡ true → where_so (not test) fault ≡ []
no_fault true fault holds = refl
no_fault false fault holds = absurd (cc)

-- a fault that is not asked for
not_so : {X : Type 0} (test : Bool) (fault : X) → test ≡ false → where_so test fault ≡ []
not_so false fault fails = refl
not_so true fault fails = absurd (cc)

-- the green of a run that keeps its limits
green_fits : (signal : Signal) (allowed steps begin : ℕ) (run : Run) → begin < steps → bit_at allowed run.phase ≡ 1 → is_green signal steps begin run ≡ true → IsFit signal allowed (steps - begin) run
green_fits signal allowed steps begin run within stands green =
    let some = and_parts (nat_lt 0 run.green) _ green in
    let most = and_parts (nat_le run.green (phase_of signal run.phase).max) _ some.1 in
    let inside = and_parts (nat_le (begin + run.green) steps) _ most.1 in
    let inner : begin + run.green ≤ steps = leb-true _ _ inside.0 in
    record {
      begins = omega arith;
      may_stand = stands;
      some = ltb-true _ _ some.0;
      most = leb-true _ _ most.0;
      within = omega arith;
      least = elim (or_cases (nat_le (phase_of signal run.phase).min run.green) (begin + run.green == steps) inside.1) [
        | inl least ↦ inl (leb-true _ _ least)
        | inr cut ↦ let e : begin + run.green ≡ steps = eqb-true _ _ cut in inr (omega arith)
      ];
    }

-- and the other way round
fits_green : (signal : Signal) (allowed steps begin : ℕ) (run : Run) → IsFit signal allowed (steps - begin) run → is_green signal steps begin run ≡ true
fits_green signal allowed steps begin run fit =
    and_from _ _ (lt-ltb _ _ fit.some)
    (and_from _ _ (le-leb _ _ fit.most)
    (and_from _ _ (le-leb (begin + run.green) steps (let some = fit.some in let within = fit.within in omega arith))
    (elim fit.least [
      | inl least ↦ or_left _ _ (le-leb _ _ least)
      | inr cut ↦ or_right _ _ (eq-eqb (begin + run.green) steps (let some = fit.some in omega arith))
    ])))

-- a run without a fault fits
pub fit_from_none : (signal : Signal) (runs : List Run) (steps j : ℕ) → faults_at signal runs steps j ≡ [] → IsFit signal (may_be signal runs j) (steps - begins_at signal runs j) (run_at runs j)
fit_from_none signal runs steps j none =
    let parts = append_none (where_so (nat_le steps (begins_at signal runs j)) (Surplus j)) _ none in
    let more = append_none (where_so (not (bit_at (may_be signal runs j) (run_at runs j).phase == 1)) (out_of_order j)) _ parts.1 in
    let early : begins_at signal runs j < steps = leb-false _ _ (where_none _ _ parts.0) in
    green_fits signal (may_be signal runs j) steps (begins_at signal runs j) (run_at runs j) early
    (eqb-true _ _ (test_holds _ _ more.0)) (test_holds _ _ more.1)

-- and the other way round
pub none_from_fit : (signal : Signal) (runs : List Run) (steps j : ℕ) → IsFit signal (may_be signal runs j) (steps - begins_at signal runs j) (run_at runs j) → faults_at signal runs steps j ≡ []
none_from_fit signal runs steps j fit =
    let surplus : where_so (nat_le steps (begins_at signal runs j)) (Surplus j) ≡ [] = not_so _ _ (lt-leb _ _ (let begins = fit.begins in omega arith)) in
    let order : where_so (not (bit_at (may_be signal runs j) (run_at runs j).phase == 1)) (out_of_order j) ≡ [] = no_fault _ _ (eq-eqb _ _ fit.may_stand) in
    let green : where_so (not (is_green signal steps (begins_at signal runs j) (run_at runs j))) (Green j) ≡ [] =
    no_fault _ _ (fits_green signal (may_be signal runs j) steps (begins_at signal runs j) (run_at runs j) fit) in
    rw (surplus, order, green)

-- runs without a fault fit, from run k on
fit_from : (signal : Signal) (runs : List Run) (steps : ℕ) (rest before : List Run) (k : ℕ) → before ++ rest ≡ runs → length before ≡ k →
    ((j : ℕ) → j < length runs → faults_at signal runs steps j ≡ []) → short_faults signal runs steps ≡ [] → AreFit signal (may_be signal runs k) (steps - begins_at signal runs k) rest
unfolding sum_below
fit_from signal runs steps [] before k whole long fine short =
    let e : length runs ≡ k = ap length (sym whole ∙ append-nil before) ∙ long in
    let full : steps ≤ begins_at signal runs (length runs) = ltb-false _ _ (where_none _ _ short) in
    let full_at : steps ≤ begins_at signal runs k = rw e at full in
    omega arith
fit_from signal runs steps (run ∷ rest) before k whole long fine short =
    let is : run_at runs k ≡ run = ap (λ runs. run_at runs k) (sym whole) ∙ get_or_at before run rest (record { phase = 0; green = 0 }) k long in
    let counted : length before + suc (length rest) ≡ length runs = sym (length-append before (run ∷ rest)) ∙ ap length whole in
    let here = fit_from_none signal runs steps k (fine k (omega arith)) in
    let after = fit_from signal runs steps rest (before ++ run ∷ []) (suc k) (append_assoc before (run ∷ []) rest ∙ whole) (length_push before run ∙ (omega arith)) fine short in
    let less : steps - (begins_at signal runs k + length_of_run signal (run_at runs k)) ≡ steps - begins_at signal runs k - length_of_run signal (run_at runs k) = omega arith in (
      subst (λ (run : Run). IsFit signal (may_be signal runs k) (steps - begins_at signal runs k) run) is here,
      subst (λ (run : Run). AreFit signal (phase_of signal run.phase).next (steps - begins_at signal runs k - length_of_run signal run) rest) is (rw less at after),
    )

-- runs that fit from run k on have no fault there, and fill the horizon
pub record IsFine (signal : Signal) (runs : List Run) (steps k : ℕ) : Type 0 where
  pub each : (j : ℕ) → k ≤ j → j < length runs → faults_at signal runs steps j ≡ []
  pub whole : short_faults signal runs steps ≡ []

fine_from : (signal : Signal) (runs : List Run) (steps : ℕ) (rest before : List Run) (k : ℕ) → before ++ rest ≡ runs → length before ≡ k →
    AreFit signal (may_be signal runs k) (steps - begins_at signal runs k) rest → IsFine signal runs steps k
unfolding sum_below
fine_from signal runs steps [] before k whole long fit =
    let e : length runs ≡ k = ap length (sym whole ∙ append-nil before) ∙ long in
    record {
      each = λ j from within. absurd (omega arith);
      whole = not_so _ _ (le-ltb _ _ (rw e (omega arith)));
    }
fine_from signal runs steps (run ∷ rest) before k whole long fit =
    let is : run_at runs k ≡ run = ap (λ runs. run_at runs k) (sym whole) ∙ get_or_at before run rest (record { phase = 0; green = 0 }) k long in
    let here = subst (λ (run : Run). IsFit signal (may_be signal runs k) (steps - begins_at signal runs k) run) (sym is) fit.0 in
    let less : steps - begins_at signal runs k - length_of_run signal (run_at runs k) ≡ steps - (begins_at signal runs k + length_of_run signal (run_at runs k)) = omega arith in
    let more = subst (λ (run : Run). AreFit signal (phase_of signal run.phase).next (steps - begins_at signal runs k - length_of_run signal run) rest) (sym is) fit.1 in
    let after = fine_from signal runs steps rest (before ++ run ∷ []) (suc k) (append_assoc before (run ∷ []) rest ∙ whole) (length_push before run ∙ (omega arith)) (rw less at more) in
    record {
      each = λ j from within. elim (cases_eq k j) [
        | inl e ↦ ap (faults_at signal runs steps) (sym e) ∙ none_from_fit signal runs steps k here
        | inr ne ↦ after.each j (omega arith) within
      ];
      whole = after.whole;
    }

-- nothing is taken away
none_less : (n : ℕ) → n - 0 ≡ n
none_less n = omega arith

-- runs fit from the starting phase on where they have no fault
pub are_fit : (signal : Signal) (runs : List Run) (steps : ℕ) → faults_of signal runs steps ≡ [] → AreFit signal (2 ^ signal.start) steps runs
unfolding faults_of sum_below
are_fit signal runs steps none =
    let parts = append_none (join_below (length runs) (faults_at signal runs steps)) (short_faults signal runs steps) none in
    let fit = fit_from signal runs steps runs [] 0 refl refl (λ j within. join_none (length runs) (faults_at signal runs steps) j parts.0 within) parts.1 in
    subst (λ (room : ℕ). AreFit signal (2 ^ signal.start) room runs) (none_less steps) fit

-- and the other way round
pub no_faults : (signal : Signal) (runs : List Run) (steps : ℕ) → AreFit signal (2 ^ signal.start) steps runs → faults_of signal runs steps ≡ []
unfolding faults_of sum_below
no_faults signal runs steps fit =
    let fine = fine_from signal runs steps runs [] 0 refl refl (subst (λ (room : ℕ). AreFit signal (2 ^ signal.start) room runs) (sym (none_less steps)) fit) in
    let each : join_below (length runs) (faults_at signal runs steps) ≡ [] = join_of_none (length runs) (faults_at signal runs steps) (λ j within. fine.each j (omega arith) within) in
    rw (each, fine.whole)

-- the runs of a word fit, and their letters are the word
pub record Spell (signal : Signal) (runs : List Run) (word : List Letter) (steps : ℕ) : Type 0 where
  pub fit : AreFit signal (2 ^ signal.start) steps runs
  pub letters : take steps (letters_of_runs signal runs) ≡ word

pub spell_from_expanded : (signal : Signal) (runs : List Run) (steps : ℕ) (word : List Letter) → expanded signal runs steps ≡ Ok word → Spell signal runs word steps
unfolding expanded
spell_from_expanded signal runs steps word is =
    let none : faults_of signal runs steps ≡ [] = unless_fine (faults_of signal runs steps) _ word (sym is) in
    record { fit = are_fit signal runs steps none; letters = (let e = rw none at is in cc) }

pub expanded_from_spell : (signal : Signal) (runs : List Run) (steps : ℕ) (word : List Letter) → Spell signal runs word steps → expanded signal runs steps ≡ Ok word
unfolding expanded
expanded_from_spell signal runs steps word spell = rw (no_faults signal runs steps spell.fit, spell.letters)
