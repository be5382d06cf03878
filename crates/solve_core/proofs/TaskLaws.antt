-- What is known of a network and a budget that were not refused.
use Rattle.std.proofs.Common.{◌≡◌, refl, ℕ, ◌*◌, ◌≤◌, List, [], ◌∷◌, ◌++◌, length, Ok, arith, le-mul_of_pos_right, subst, sym}
use Rattle.std.specs.Prelude.{nat_lt}
use Rattle.std.proofs.lemmas.Bool.{ltb-false}
use Rattle.std.proofs.lemmas.List.{length-map}
use Rattle.refusals.specs.Faults.{unless, where_so}
use Rattle.refusals.specs.Memory.{OrMemory}
use Rattle.refusals.proofs.FirstFaults.{unless_fine, where_none}
use Rattle.refusals.proofs.Memory.{made_without_fault}
use Rattle.ct_base.specs.Validity.{IsValid}
use Rattle.ct_base.specs.declared.net.Net.{Net}
use Rattle.sparse_program.specs.Program.{Parts}
use Rattle.sparse_program.specs.declared.limits.TheConstants.{MAX_ROWS}
use Rattle.program_model.specs.Numbers.{number_of}
use Rattle.program_model.specs.Points.{program_of, rows}
use Rattle.program_model.specs.Sparse.{sparse}
use Rattle.lo_program.specs.Compiled.{compiled, size_faults}
use Rattle.lo_program.specs.declared.fault.CompileFault.TheVariants.{Memory}
use Rattle.solve_core.specs.Solved.{solve_faults}
use Rattle.solve_core.specs.inner.Searching.{IsTask}
use Rattle.solve_core.specs.declared.constants.TheConstants.{MAX_WORK}
use Rattle.solve_core.specs.declared.fault.SolveFault.TheVariants.{Budget, TooLarge}

-- two lists are empty where both together are
none_before : {X : Type 0} (xs ys : List X) → xs ++ ys ≡ [] → xs ≡ []
none_before [] ys none = refl
none_before (x ∷ xs) ys none = absurd cc

none_behind : {X : Type 0} (xs ys : List X) → xs ++ ys ≡ [] → ys ≡ []
none_behind [] ys none = none
none_behind (x ∷ xs) ys none = absurd cc

-- the rows of a network's program are as many as those of the network
rows_are : (net : Net) → length (program_of net).rows ≡ length (rows net)
unfolding program_of
rows_are net = length-map (rows net) (sparse (number_of net))

-- the rows are few enough for a program
few_rows : (net : Net) (budget : ℕ) → solve_faults net budget ≡ [] → length (rows net) ≤ MAX_ROWS
unfolding solve_faults
few_rows net budget none =
    ltb-false MAX_ROWS (length (rows net)) (where_none (nat_lt MAX_ROWS (length (rows net))) (TooLarge (length (rows net))) (none_before _ _ none))

-- and for the budget
few_for_budget : (net : Net) (budget : ℕ) → solve_faults net budget ≡ [] → budget * length (rows net) ≤ MAX_WORK
unfolding solve_faults
few_for_budget net budget none =
    ltb-false MAX_WORK (budget * length (rows net)) (where_none (nat_lt MAX_WORK (budget * length (rows net))) (Budget (length (rows net)))
    (none_behind (where_so (nat_lt MAX_ROWS (length (rows net))) (TooLarge (length (rows net)))) _ none))

-- a budget is no more than its product with five rows or more
budget_below : (budget rows most : ℕ) → 5 ≤ rows → budget * rows ≤ most → budget ≤ most
budget_below budget rows most some few = omega (arith, few, le-mul_of_pos_right {m = rows} budget (omega (arith, some)))

-- what a search is asked, where nothing was refused
pub task_of : (net : Net) (budget : ℕ) (program : Parts) (fine : Unit {0}) → IsValid net → 1 ≤ budget → 5 ≤ length (program_of net).rows →
    Ok fine ≡ unless (solve_faults net budget) tt → OrMemory Memory (compiled net) (Ok program) → IsTask net program budget
task_of net budget program fine valid some five passed made =
    let none = unless_fine (solve_faults net budget) tt fine passed in
    let within : budget * length (program_of net).rows ≤ MAX_WORK = subst (λ (n : ℕ). budget * n ≤ MAX_WORK) (sym (rows_are net)) (few_for_budget net budget none) in
    record {
      valid = valid;
      program_is = (made_without_fault Memory (size_faults net) (program_of net) program made).1;
      held = subst (λ (n : ℕ). n ≤ MAX_ROWS) (sym (rows_are net)) (few_rows net budget none);
      some = some;
      within = within;
      few = budget_below budget (length (program_of net).rows) MAX_WORK five within;
    }
