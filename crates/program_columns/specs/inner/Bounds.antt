-- The bounds of bits, and the cap of a diverge as the code finds it.
use Rattle.std.specs.Prelude.{ℕ, zero, suc, ◌/◌, min, fold, Bool, List, pos}
use Rattle.ct_base.specs.Access.{cell_of}
use Rattle.ct_base.specs.declared.cell.Cell.{Cell}
use Rattle.sparse_program.specs.declared.column.Col.{Col}
use Rattle.program_model.specs.Values.{one_where}

-- the column of a green at step t: known at step 0, by whether its signal begins with it
abbrev pub green_col : ℕ → Bool → Col
green_col zero begins = record { low = pos (one_where begins); high = pos (one_where begins); cost = pos 0 }
green_col (suc t) begins = record { low = pos 0; high = pos 1; cost = pos 0 }

-- the column of a clearing letter at step t: no signal begins with one
abbrev pub clear_col : ℕ → Col
clear_col zero = record { low = pos 0; high = pos 0; cost = pos 0 }
clear_col (suc t) = record { low = pos 0; high = pos 1; cost = pos 0 }

-- the least of a number and of what the branches' cells let enter, in parcels
abbrev pub cap_up_to : List Cell → ℕ → List (ℕ × ℕ) → ℕ
cap_up_to cells most branches = fold (λ cap branch. min cap ((cell_of cells branch.0).cap / branch.1)) most branches
