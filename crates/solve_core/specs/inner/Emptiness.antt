-- How a box of a program is shown to be empty.
use Rattle.std.specs.Prelude.{ℕ, ℤ, pos, ◌≤ℤ◌, false, List}
use Rattle.sparse_program.specs.Box.{Ranges}
use Rattle.sparse_program.specs.Program.{Parts}
use Rattle.certificate_model.specs.Value.{AreLawful, value_of_pairs}

-- pairs show the box to be empty: they are lawful, and their value without costs is above 0
pub record ShowsEmpty (program : Parts) (box : Ranges) (pairs : List (ℕ × ℤ)) : Type 0 where
  pub lawful : AreLawful program.rows pairs
  pub above : pos 1 ≤ℤ value_of_pairs program false box pairs
