-- Words and runs that were worked by hand (docs/signals.md, "What the horizon cuts"), which the definitions compute.
use Rattle.std.proofs.Common.{◌≡◌, ℕ, zero, suc, ◌<◌, ◌≤◌, true, false, [], ◌∷◌, map, Ok, Err, refl, arith}
use Rattle.listed.specs.Below.{join_below, sum_below}
use Rattle.ct_base.specs.Access.{phase_of}
use Rattle.ct_base.specs.Validity.{IsPhase, IsSignal}
use Rattle.ct_base.specs.declared.plan.Letter.TheVariants.{Green, Clear}
use Rattle.ct_base.specs.declared.signal.Signal.{Signal}
use Rattle.traffic_model.specs.Runs.{IsAdmissible}
use Rattle.phase_rules.specs.Expansion.{expanded, faults_of, run_by}
use Rattle.phase_rules.specs.inner.Greens.{greens_of}
use Rattle.phase_rules.specs.declared.fault.RunFault.TheVariants as faults
use Rattle.phase_rules.proofs.ScanLaws.{passes_iff_admissible}

-- a phase 0 of 1 to 4 steps, with so many clearing letters, and a phase 1 of 3 to 4 steps: each follows the other
abbrev pub two_phases : ℕ → Signal
two_phases clear = record { start = 0; phases = record { min = 1; max = 4; clear = clear; next = 2 } ∷ record { min = 3; max = 4; clear = 0; next = 1 } ∷ [] }

-- it is a signal
pub two_phases_are_a_signal : (clear : ℕ) → clear ≤ 20 → IsSignal (two_phases clear)
two_phases_are_a_signal clear small = record { phases = (omega arith, omega arith); start = omega arith; each = each_phase }
  where
    each_phase : (p : ℕ) → p < 2 → IsPhase 2 p (phase_of (two_phases clear) p)
    each_phase zero within = record { min = (omega arith, omega arith); max = (omega arith, omega arith); clear = small; followed = omega arith; followed_by_phases = omega arith; not_by_itself = refl }
    each_phase (suc zero) within = record { min = (omega arith, omega arith); max = (omega arith, omega arith); clear = omega arith; followed = omega arith; followed_by_phases = omega arith; not_by_itself = refl }
    each_phase (suc (suc p)) within = absurd (omega arith)

-- three greens and one: the horizon cuts the second run
pub the_horizon_cuts_a_run : expanded (two_phases 0) (map run_by ((0, 3) ∷ (1, 1) ∷ [])) 4 ≡ Ok (Green 0 ∷ Green 0 ∷ Green 0 ∷ Green 1 ∷ [])
unfolding expanded faults_of join_below sum_below
the_horizon_cuts_a_run = refl

-- a second run that ends by itself before its minimum
pub a_run_ends_too_soon : expanded (two_phases 0) (map run_by ((0, 1) ∷ (1, 2) ∷ (0, 1) ∷ [])) 4 ≡ Err (faults.Green 1)
unfolding expanded faults_of join_below sum_below
a_run_ends_too_soon = refl

-- the horizon cuts the clearing
pub the_horizon_cuts_a_clearing : expanded (two_phases 2) (map run_by ((0, 3) ∷ [])) 4 ≡ Ok (Green 0 ∷ Green 0 ∷ Green 0 ∷ Clear 0 ∷ [])
unfolding expanded faults_of join_below sum_below
the_horizon_cuts_a_clearing = refl

-- a phase that the signal does not have follows no other
pub no_such_phase : expanded (two_phases 0) (map run_by ((0, 1) ∷ (200, 3) ∷ [])) 4 ≡ Err (faults.Order 1)
unfolding expanded faults_of join_below sum_below
no_such_phase = refl

-- the runs of a word
pub the_greens : greens_of (Green 0 ∷ Clear 0 ∷ Clear 0 ∷ Green 1 ∷ Green 1 ∷ []) ≡ (0, 1) ∷ (1, 2) ∷ []
the_greens = refl

-- the scan of words, and whether they are admissible
pub cut_green_is_admissible : IsAdmissible (two_phases 0) (Green 0 ∷ Green 0 ∷ Green 0 ∷ Green 1 ∷ [])
cut_green_is_admissible = (passes_iff_admissible (two_phases 0) (Green 0 ∷ Green 0 ∷ Green 0 ∷ Green 1 ∷ []) (two_phases_are_a_signal 0 (omega arith))).0 refl

pub short_green_is_not : IsAdmissible (two_phases 0) (Green 0 ∷ Green 1 ∷ Green 1 ∷ Green 0 ∷ []) → false ≡ true
short_green_is_not = (passes_iff_admissible (two_phases 0) (Green 0 ∷ Green 1 ∷ Green 1 ∷ Green 0 ∷ []) (two_phases_are_a_signal 0 (omega arith))).1

pub cut_clearing_is_admissible : IsAdmissible (two_phases 2) (Green 0 ∷ Green 0 ∷ Green 0 ∷ Clear 0 ∷ [])
cut_clearing_is_admissible = (passes_iff_admissible (two_phases 2) (Green 0 ∷ Green 0 ∷ Green 0 ∷ Clear 0 ∷ []) (two_phases_are_a_signal 2 (omega arith))).0 refl

pub short_clearing_is_not : IsAdmissible (two_phases 2) (Green 0 ∷ Green 0 ∷ Clear 0 ∷ Green 1 ∷ []) → false ≡ true
short_clearing_is_not = (passes_iff_admissible (two_phases 2) (Green 0 ∷ Green 0 ∷ Clear 0 ∷ Green 1 ∷ []) (two_phases_are_a_signal 2 (omega arith))).1
