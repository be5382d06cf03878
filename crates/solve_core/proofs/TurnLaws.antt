-- What holds at the turns of a search.
use Rattle.std.proofs.Common.{inr, refl, subst, sym}
use Rattle.std.specs.Prelude.{◌≡◌, ℕ, ℤ}
use Rattle.ct_base.specs.declared.net.Net.{Net}
use Rattle.sparse_program.specs.Program.{Parts}
use Rattle.program_model.specs.Numbers.{plan_count}
use Rattle.program_model.specs.Points.{program_of}
use Rattle.branch_tree.specs.Boxes.{Growing}
use Rattle.branch_tree.specs.OpenTree.{size}
use Rattle.solve_core.specs.Searched.{IsReached, IsSpent}

-- the plan columns of a network's program
pub plan_columns_are : (net : Net) (program : Parts) → program ≡ program_of net → program.plan_cols ≡ plan_count net
unfolding program_of
plan_columns_are net program is = rw is refl

-- whatever the number, a search whose budget is spent has come as far as it can
pub spent_is_reached : (net : Net) (budget : ℕ) (delay number : ℤ) (before after : Growing) → after ≡ before → IsSpent net budget (size before.tree) →
    IsReached net budget delay number (size after.tree)
spent_is_reached net budget delay number before after same spent = inr (subst (λ (g : Growing). IsSpent net budget (size g.tree)) (sym same) spent)
