use Rattle.std.proofs.Common.{ℕ, List, length, All}
use Rattle.sparse_program.specs.Program.{IsRow, no_row}
use Rattle.sparse_program.specs.declared.row.Row.{Row}
use Rattle.certificate_model.proofs.ValueLaws.{TermsThere, value_of_pairs-below, value_of_pairs-empty}
use Rattle.certificate_model.proofs.laws.values_are_below_objectives.Goals as goal

-- the terms of lawful rows name columns that exist
there : (columns : ℕ) (rows : List Row) → All (IsRow columns) rows → TermsThere columns rows
there columns rows each = λ i within. (each i no_row within).terms.there

pub returns-clause-cost : goal.returns-clause-cost
returns-clause-cost c = λ program box pairs x is. value_of_pairs-below program box pairs x (there (length program.columns) program.rows is.rows) is.lawful is.inside is.meets

pub returns-clause-no_cost : goal.returns-clause-no_cost
returns-clause-no_cost c = λ program box pairs x is. value_of_pairs-empty program box pairs x (there (length program.columns) program.rows is.rows) is.lawful is.inside is.meets
