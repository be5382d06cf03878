-- How far the delay of a plan is above a lower bound on all delays (README.md, "Commands").
use Rattle.std.specs.Prelude.{ℕ, ◌*◌, ◌-◌, nat_eq, if◌then◌else◌, ℤ, pos, unsigned_abs}
use Rattle.std.specs.Int.{div_ceil, int_max}

-- in units times steps; a bound below 0 counts as 0
abbrev pub gap_units : ℕ → ℤ → ℕ
gap_units delay bound = delay - unsigned_abs (int_max bound (pos 0))

-- a part in thousandths of a whole, rounded up; 0 of nothing
abbrev pub permille : ℕ → ℕ → ℕ
permille part whole = if nat_eq whole 0 then 0 else div_ceil (1000 * part) whole

-- in thousandths of the delay
abbrev pub gap_permille : ℕ → ℤ → ℕ
gap_permille delay bound = permille (gap_units delay bound) delay
