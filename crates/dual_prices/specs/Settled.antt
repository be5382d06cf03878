-- When no change of one price by a power of two raises the value of prices by much (docs/search.md, "The ascent").
use Rattle.std.specs.Prelude.{ℕ, ◌<◌, ◌≤◌, ◌^◌, ℤ, pos, neg_ℤ, ◌<ℤ◌, List, Bool, true, false, length}
use Rattle.sparse_program.specs.Box.{Ranges}
use Rattle.sparse_program.specs.Program.{Parts}
use Rattle.safe_bound.specs.Prices.{ArePrices}
use Rattle.kept_value.specs.Kept.{gain_of, repriced}
use Rattle.dual_prices.specs.declared.constants.TheConstants.{LEAST_GAIN, MOST_POWER}

-- a change of a price by a power of two: downward where it falls, else upward
abbrev pub change_of : Bool → ℕ → ℤ
change_of true k = neg_ℤ (pos (2 ^ k))
change_of false k = pos (2 ^ k)

-- to change the price of a row by a number is of no use: the prices are not lawful then, or their value rises by less than 64
abbrev pub IsNoGain : Parts → Ranges → List ℤ → ℕ → ℤ → Type 0
IsNoGain program box prices row by = ArePrices program.rows (repriced prices row by) → gain_of program box prices row by <ℤ pos LEAST_GAIN

-- a row is settled: to change its price by 2^k is of no use, for each k up to 16, upward and downward
pub record IsSettledRow (program : Parts) (box : Ranges) (prices : List ℤ) (row : ℕ) : Type 0 where
  pub none : (falls : Bool) (k : ℕ) → k ≤ MOST_POWER → IsNoGain program box prices row (change_of falls k)

-- prices are settled over a box: each row is
abbrev pub AreSettled : Parts → Ranges → List ℤ → Type 0
AreSettled program box prices = (row : ℕ) → row < length program.rows → IsSettledRow program box prices row
