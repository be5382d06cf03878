-- Why an ascent ends.
use Rattle.std.specs.Prelude.{ℤ, ◌≤ℤ◌, ◌<ℤ◌}
use Rattle.sparse_program.specs.Program.{Parts}
use Rattle.kept_value.specs.Kept.{Kept}
use Rattle.dual_prices.specs.Settled.{AreSettled}
use Rattle.dual_prices.specs.declared.ascent.End.{End}
use Rattle.dual_prices.specs.declared.ascent.End.TheVariants.{Enough, Settled, Spent}

-- what holds where an ascent ends, which was to end at a value that is enough, or at a limit
abbrev pub IsEnd : Parts → Kept → ℤ → ℤ → End → Type 0
IsEnd program kept enough limit Enough = enough ≤ℤ kept.value
IsEnd program kept enough limit Settled = (kept.value <ℤ enough) × AreSettled program kept.box kept.prices
IsEnd program kept enough limit Spent = (kept.value <ℤ enough) × (limit ≤ℤ kept.value)
