-- A builder that holds all columns and rows of a network makes its program.
use Rattle.std.proofs.Common.{◌≡◌, ℕ, ◌≤◌, length, map, Result, Ok, Err, ap, ◌∙◌, arith}
use Rattle.std.specs.Prelude.{IfOk}
use Rattle.std.proofs.lemmas.List.{length-map}
use Rattle.ct_base.specs.declared.net.Net.{Net}
use Rattle.sparse_program.specs.Program.{Begun, Parts}
use Rattle.program_model.specs.Columns.{columns}
use Rattle.program_model.specs.Numbers.{number_of, plan_count}
use Rattle.program_model.specs.Points.{col, program_of, rows}
use Rattle.program_model.specs.Sparse.{sparse}
use Rattle.program_model.proofs.NumberLaws.{length-columns}

-- a builder that holds all columns and rows of a network
abbrev pub all_parts : Net → Begun
all_parts net = record { columns = map (col net) (columns net); rows = map (sparse (number_of net)) (rows net) }

pub plan_fits : (net : Net) (built : Begun) (plan : ℕ) → built ≡ all_parts net → plan ≡ plan_count net → plan ≤ length built.columns
plan_fits net built plan all is =
    omega (arith, is, ap (λ (b : Begun). length b.columns) all, length-map (columns net) (col net), length-columns net)

pub program_made : {E : Type 0} (net : Net) (built : Begun) (plan : ℕ) (result : Result Parts E) → built ≡ all_parts net → plan ≡ plan_count net →
    IfOk result (λ program. program ≡ record { columns = built.columns; rows = built.rows; plan_cols = plan }) → IfOk result (λ program. program ≡ program_of net)
unfolding program_of
program_made net built plan (Ok program) all is made = made ∙ rw (all, is)
program_made net built plan (Err e) all is made = made
