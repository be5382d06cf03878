-- What an ascent comes to (docs/search.md, "The ascent").
use Rattle.std.specs.Prelude.{◌*◌, ℤ, pos, ◌+ℤ◌, ◌≤ℤ◌, length}
use Rattle.sparse_program.specs.Program.{Parts}
use Rattle.certificate_model.specs.Value.{scale}

-- a value has risen by one unit of delay a row, or more
abbrev pub HasRisen : Parts → ℤ → ℤ → Type 0
HasRisen program before after = (before +ℤ pos (scale * length program.rows)) ≤ℤ after
