-- Which rows wait to be tried again.
use Rattle.std.specs.Prelude.{◌≡◌, ◌⊎◌, ℕ, pos, List, Bool, true, false, length, slice_index_or}
use Rattle.sparse_program.specs.Program.{Parts, entry}
use Rattle.sparse_program.specs.declared.row.Row.{Row}
use Rattle.kept_value.specs.Kept.{Kept}
use Rattle.dual_prices.specs.Settled.{IsSettledRow}

-- whether a row waits, by the marks of the rows; so does what is no row
abbrev pub waits : List Bool → ℕ → Bool
waits waiting i = slice_index_or waiting i true

-- each row has a mark, and is settled unless it waits
pub record AreWaiting (program : Parts) (kept : Kept) (waiting : List Bool) : Type 0 where
  pub one_per_row : length waiting ≡ length program.rows
  pub others : (i : ℕ) → waits waiting i ≡ false → IsSettledRow program kept.box kept.prices i

-- two rows have no column in common
abbrev pub AreApart : List Row → ℕ → ℕ → Type 0
AreApart rows i k = (j : ℕ) → (entry rows i j ≡ pos 0) ⊎ (entry rows k j ≡ pos 0)
