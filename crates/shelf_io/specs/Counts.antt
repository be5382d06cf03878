-- Counts that rise and never fall.
use Rattle.std.specs.Prelude.{ℕ, ◌+◌, ◌-◌, ◌^◌, max, min}

-- a count that has risen by one, or stands where a count of 64 bits can't rise
abbrev pub risen : ℕ → ℕ
risen count = max count (min (count + 1) (2 ^ 64 - 1))
