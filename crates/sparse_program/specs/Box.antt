-- A box: a low and a high for each column.
use Rattle.std.specs.Prelude.{◌≡◌, ℕ, ◌<◌, ◌≤◌, ℤ, pos, ◌≤ℤ◌, List, map, length, slice_index_or}
use Rattle.sparse_program.specs.Terms.{IsSmall}
use Rattle.sparse_program.specs.declared.limits.TheConstants.{MAX_COLUMNS}
use Rattle.sparse_program.specs.declared.column.Col.{Col}

-- the lows and the highs, one of each a column
pub record Ranges : Type 0 where
  pub lows : List ℤ
  pub highs : List ℤ

-- the low of a column
abbrev pub low_of : Ranges → ℕ → ℤ
low_of box j = slice_index_or box.lows j (pos 0)

-- the high of a column
abbrev pub high_of : Ranges → ℕ → ℤ
high_of box j = slice_index_or box.highs j (pos 0)

-- the column's low is at most its high, and both are small
pub record IsRange (box : Ranges) (j : ℕ) : Type 0 where
  pub bounds : low_of box j ≤ℤ high_of box j
  pub low : IsSmall (low_of box j)
  pub high : IsSmall (high_of box j)

-- what every box keeps
pub record IsBox (box : Ranges) : Type 0 where
  pub same : length box.highs ≡ length box.lows
  pub few : length box.lows ≤ MAX_COLUMNS
  pub each : (j : ℕ) → j < length box.lows → IsRange box j

-- the bounds of the columns themselves
abbrev pub ranges_of : List Col → Ranges
ranges_of columns = record { lows = map (λ (col : Col). col.low) columns; highs = map (λ (col : Col). col.high) columns }
