-- What a step asks of cells and of what they hold.
use Rattle.std.specs.Prelude.{◌≡◌, ℕ, ◌<◌, ◌≤◌, List, length, All, slice_index}
use Rattle.ct_base.specs.Access.{cell_of, targets}
use Rattle.ct_base.specs.Validity.{IsBetween, IsRoad, IsSplit}
use Rattle.ct_base.specs.declared.cell.Cell.{Cell}
use Rattle.ct_base.specs.declared.cell.Kind.TheVariants.{Road}

-- the units stand in the cells: a number per cell, no more on a road than its storage, and no number is large
pub record Fit (cells : List Cell) (units : List ℕ) : Type 0 where
  pub one_per_cell : length units ≡ length cells
  pub roads : (i : ℕ) → i < length cells → (cell_of cells i).kind ≡ Road → IsRoad (cell_of cells i)
  pub within : (i : ℕ) → i < length cells → (cell_of cells i).kind ≡ Road → slice_index units i ≤ (cell_of cells i).store
  pub small : (i : ℕ) → slice_index units i ≤ 240000

-- a cell leads into road cells, and where it is a diverge it has proper branches
pub record LeadsOn (cells : List Cell) (cell : Cell) : Type 0 where
  pub targets : All (λ k. (k < length cells) × ((cell_of cells k).kind ≡ Road)) (targets cell.out)
  pub split : IsSplit cell.out

-- the branches of a diverge: each takes 1 to 100 units of a parcel
pub record AreBranches (branches : List (ℕ × ℕ)) : Type 0 where
  pub few : IsBetween 2 4 (length branches)
  pub shares : All (λ (branch : ℕ × ℕ). IsBetween 1 100 branch.1) branches

-- each branch leads into a road cell
abbrev pub LeadToRoads : List Cell → List (ℕ × ℕ) → Type 0
LeadToRoads cells branches = All (λ (branch : ℕ × ℕ). (branch.0 < length cells) × ((cell_of cells branch.0).kind ≡ Road)) branches
