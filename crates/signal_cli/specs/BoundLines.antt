-- The lines of `check` and `gap` for a bound that is accepted (README.md, "Commands").
use Rattle.std.specs.Prelude.{ℕ, ℤ, List, ◌++◌, codes}
use Rattle.std.specs.Fmt.{decimal, signed_decimal}
use Rattle.plan_report.specs.Gaps.{gap_permille, gap_units}

-- a certificate is accepted, and its bound
unfoldable pub accepted_lines : ℤ → List ℕ
accepted_lines bound = codes "accepted\nbound " ++ signed_decimal bound ++ codes "\n"

-- the delay of a plan and a bound
unfoldable pub delay_lines : ℕ → ℤ → List ℕ
delay_lines delay bound = codes "delay " ++ decimal delay ++ codes "\nbound " ++ signed_decimal bound ++ codes "\n"

-- how far the delay is above the bound, in units times steps and in thousandths of the delay
unfoldable pub above_lines : ℕ → ℕ → List ℕ
above_lines units permille = codes "gap " ++ decimal units ++ codes "\npermille " ++ decimal permille ++ codes "\n"

-- the delay of a plan, a bound, and how far the delay is above it
abbrev pub gap_lines : ℕ → ℤ → List ℕ
gap_lines delay bound = delay_lines delay bound ++ above_lines (gap_units delay bound) (gap_permille delay bound)
