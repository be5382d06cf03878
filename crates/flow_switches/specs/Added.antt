-- What a call adds to a program that is being built.
use Rattle.std.specs.Prelude.{◌≡◌, ℕ, List, ◌++◌, take}
use Rattle.sparse_program.specs.Program.{Begun}
use Rattle.sparse_program.specs.declared.row.Row.{Row}

-- these rows were added, and nothing else changed
abbrev pub Adds : Begun → List Row → Begun → Type 0
Adds old rows new = new ≡ record old { rows = old.rows ++ rows }

-- a front of these rows was added, all of them or fewer, and nothing else changed
abbrev pub AddsFront : Begun → List Row → Begun → Type 0
AddsFront old rows new = (count : ℕ) × Adds old (take count rows) new
