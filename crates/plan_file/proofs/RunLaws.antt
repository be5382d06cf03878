-- Runs without a fault: their phases are the signal's, and a run at their end changes nothing before it.
use Rattle.std.proofs.Common.{◌≡◌, ℕ, zero, suc, ◌-◌, ◌<◌, ◌≤◌, List, [], ◌∷◌, ◌++◌, length, Ok, refl, sym, ap, ◌∙◌, arith}
use Rattle.std.specs.Prelude.{take}
use Rattle.std.proofs.lemmas.List.{get_or_append_left, length_push}
use Rattle.listed.specs.Below.{join_below}
use Rattle.refusals.specs.Faults.{unless}
use Rattle.refusals.proofs.FirstFaults.{unless_fine}
use Rattle.listed.proofs.JoinLaws.{append_none, join_below-same, join_none}
use Rattle.ct_base.specs.Validity.{IsSignal}
use Rattle.ct_base.specs.declared.plan.Letter.{Letter}
use Rattle.ct_base.specs.declared.signal.Signal.{Signal}
use Rattle.traffic_model.specs.Runs.{Run, letters_of_runs}
use Rattle.phase_rules.specs.Expansion.{begins_at, expanded, faults_at, faults_of, may_be, run_at, short_faults}
use Rattle.phase_rules.proofs.FitLaws.{IsFit, fit_from_none}
use Rattle.phase_rules.proofs.JudgeLaws.{faults_same}
use Rattle.phase_rules.proofs.WordLaws.{HasPhases, next_has_phases, start_has_phases}
use Rattle.named_net.specs.declared.names.SignalNames.{SignalNames}
use Rattle.plan_file.proofs.BlockLaws.{AreKnown}

-- each run so far has no fault
abbrev pub AreFine : Signal → List Run → ℕ → Type 0
AreFine signal runs steps = join_below (length runs) (faults_at signal runs steps) ≡ []

-- behind runs without a fault may come phases that there are
may_be_phases : (signal : Signal) (runs : List Run) (steps j : ℕ) → IsSignal signal → ((i : ℕ) → i < j → faults_at signal runs steps i ≡ []) → HasPhases signal (may_be signal runs j)
may_be_phases signal runs steps zero valid none = start_has_phases signal valid
may_be_phases signal runs steps (suc j) valid none =
    let fit : IsFit signal (may_be signal runs j) (steps - begins_at signal runs j) (run_at runs j) = fit_from_none signal runs steps j (none j (omega arith)) in
    let within : (run_at runs j).phase < length signal.phases = may_be_phases signal runs steps j valid (λ i before. none i (omega arith)) (run_at runs j).phase fit.may_stand in
    next_has_phases signal (run_at runs j).phase valid within

-- runs without a fault are known
pub fine_is_known : (signal : Signal) (names : SignalNames) (runs : List Run) (steps : ℕ) → IsSignal signal → length names.phases ≡ length signal.phases → steps ≤ 240 → AreFine signal runs steps → AreKnown names runs
fine_is_known signal names runs steps valid count few fine j within =
    let none = λ (i : ℕ) (before : i < length runs). join_none (length runs) (faults_at signal runs steps) i fine before in
    let fit : IsFit signal (may_be signal runs j) (steps - begins_at signal runs j) (run_at runs j) = fit_from_none signal runs steps j (none j within) in
    let phase : (run_at runs j).phase < length signal.phases = may_be_phases signal runs steps j valid (λ i before. none i (omega arith)) (run_at runs j).phase fit.may_stand in
    let inside : (run_at runs j).green ≤ steps - begins_at signal runs j = fit.within in
    record { phase = omega arith; green = omega arith }

-- runs that become a word have no fault
pub expanded_is_fine : (signal : Signal) (runs : List Run) (steps : ℕ) (word : List Letter) → expanded signal runs steps ≡ Ok word → AreFine signal runs steps
unfolding expanded faults_of
expanded_is_fine signal runs steps word is =
    (append_none (join_below (length runs) (faults_at signal runs steps)) (short_faults signal runs steps)
    (unless_fine (faults_of signal runs steps) (take steps (letters_of_runs signal runs)) word (sym is))).0

-- runs without a fault become a word where they are not too short
pub expanded_at_end : (signal : Signal) (runs : List Run) (steps : ℕ) → AreFine signal runs steps → expanded signal runs steps ≡ unless (short_faults signal runs steps) (take steps (letters_of_runs signal runs))
unfolding expanded faults_of
expanded_at_end signal runs steps fine = ap (λ faults. unless (faults ++ short_faults signal runs steps) (take steps (letters_of_runs signal runs))) fine

-- what stands behind a run does not bear on its faults
pub faults_at-front : (signal : Signal) (runs more : List Run) (steps j : ℕ) → j < length runs → faults_at signal (runs ++ more) steps j ≡ faults_at signal runs steps j
faults_at-front signal runs more steps j within =
    let at = λ (k : ℕ) (before : k < length runs). get_or_append_left runs more (record { phase = 0; green = 0 }) k before in
    faults_same signal (runs ++ more) runs steps j (run_at runs j) (λ k before. at k (omega arith)) (at j within)
    ∙ sym (faults_same signal runs runs steps j (run_at runs j) (λ k before. refl) refl)

-- one run more without a fault
pub fine_more : (signal : Signal) (runs : List Run) (run : Run) (steps : ℕ) → AreFine signal runs steps → faults_at signal (runs ++ run ∷ []) steps (length runs) ≡ [] → AreFine signal (runs ++ run ∷ []) steps
unfolding join_below
fine_more signal runs run steps fine here =
    let count : length (runs ++ run ∷ []) ≡ suc (length runs) = length_push runs run ∙ (omega arith) in
    let before : join_below (length runs) (faults_at signal (runs ++ run ∷ []) steps) ≡ [] =
    join_below-same (length runs) (faults_at signal (runs ++ run ∷ []) steps) (faults_at signal runs steps) (λ k within. faults_at-front signal runs (run ∷ []) steps k within) ∙ fine in
    ap (λ n. join_below n (faults_at signal (runs ++ run ∷ []) steps)) count
    ∙ ap (λ faults. faults ++ faults_at signal (runs ++ run ∷ []) steps (length runs)) before ∙ here
