-- Changes of one price that raise the value, and which of them raise it most.
use Rattle.std.specs.Prelude.{ℕ, ◌≤◌, ℤ, pos, ◌≤ℤ◌, Bool, true, false}
use Rattle.sparse_program.specs.Program.{Parts}
use Rattle.safe_bound.specs.Prices.{ArePrices}
use Rattle.kept_value.specs.Kept.{Kept, gain_of, repriced}
use Rattle.dual_prices.specs.Settled.{change_of}
use Rattle.dual_prices.specs.declared.constants.TheConstants.{LEAST_GAIN}

-- a change of the price of a row is a gain: the prices stay lawful, and the value rises by 64 or more
pub record IsGain (program : Parts) (kept : Kept) (row : ℕ) (by : ℤ) : Type 0 where
  pub lawful : ArePrices program.rows (repriced kept.prices row by)
  pub rises : pos LEAST_GAIN ≤ℤ gain_of program kept.box kept.prices row by

-- a change of a price is no greater than another of the same sign
abbrev pub IsNearer : Bool → ℤ → ℤ → Type 0
IsNearer true near far = far ≤ℤ near
IsNearer false near far = near ≤ℤ far

-- a change gains the most of all that are no greater
abbrev pub IsGreatestTo : Parts → Kept → ℕ → Bool → ℤ → Type 0
IsGreatestTo program kept row falls by = (other : ℤ) → IsNearer falls other by → gain_of program kept.box kept.prices row other ≤ℤ gain_of program kept.box kept.prices row by

-- a change gains the most of all that are no less
abbrev pub IsGreatestFrom : Parts → Kept → ℕ → Bool → ℤ → Type 0
IsGreatestFrom program kept row falls by = (other : ℤ) → IsNearer falls by other → gain_of program kept.box kept.prices row other ≤ℤ gain_of program kept.box kept.prices row by

-- the change by a power is lawful, and gains the most of those by powers up to it
pub record IsBestTo (program : Parts) (kept : Kept) (row : ℕ) (falls : Bool) (k : ℕ) : Type 0 where
  pub lawful : ArePrices program.rows (repriced kept.prices row (change_of falls k))
  pub best : (j : ℕ) → j ≤ k → gain_of program kept.box kept.prices row (change_of falls j) ≤ℤ gain_of program kept.box kept.prices row (change_of falls k)

-- of the lawful changes by powers from one on, the one by this power gains the most. It is lawful if there is any
pub record IsBestFrom (program : Parts) (kept : Kept) (row : ℕ) (falls : Bool) (k : ℕ) : Type 0 where
  pub lawful : (j : ℕ) → k ≤ j → ArePrices program.rows (repriced kept.prices row (change_of falls j)) → ArePrices program.rows (repriced kept.prices row (change_of falls k))
  pub best : (j : ℕ) → k ≤ j → ArePrices program.rows (repriced kept.prices row (change_of falls j)) → gain_of program kept.box kept.prices row (change_of falls j) ≤ℤ gain_of program kept.box kept.prices row (change_of falls k)
