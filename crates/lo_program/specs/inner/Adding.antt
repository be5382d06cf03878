-- Rows that are added to a program that is being built, as columns and not yet as numbers.
use Rattle.std.specs.Prelude.{◌≡◌, ℕ, ℤ, ◌+◌, ◌<◌, ◌≤◌, List, ◌++◌, length, map, Result, Ok, Err}
use Rattle.ct_base.specs.declared.net.Net.{Net}
use Rattle.sparse_program.specs.Program.{Begun}
use Rattle.sparse_program.specs.declared.limits.TheConstants.{MAX_ROWS}
use Rattle.program_model.specs.Columns.{Column}
use Rattle.program_model.specs.Numbers.{number_of}
use Rattle.program_model.specs.Rows.{SumRow}
use Rattle.program_model.specs.Sparse.{sparse}
use Rattle.program_model.proofs.ColumnLaws.{Each}

-- these rows were added, and nothing else changed
pub record Adds (net : Net) (old new : Begun) (rows : List (SumRow Column)) : Type 0 where
  pub all : new ≡ record old { rows = old.rows ++ map (sparse (number_of net)) rows }

-- a front of these rows was added, all of them or fewer, and nothing else changed
pub record AddsFront (net : Net) (old new : Begun) (rows : List (SumRow Column)) : Type 0 where
  pub front : List (SumRow Column)
  pub rest : List (SumRow Column)
  pub parts : front ++ rest ≡ rows
  pub added : Adds net old new front

-- these rows were added, or a front of them where memory was wanting
abbrev pub AddsAllOrFront : {T E : Type 0} → Result T E → Net → Begun → Begun → List (SumRow Column) → Type 0
AddsAllOrFront (Ok x) net old new rows = Adds net old new rows
AddsAllOrFront (Err e) net old new rows = AddsFront net old new rows

-- each of these terms names one of the first so many columns
abbrev pub Below : Net → ℕ → List (Column × ℤ) → Type 0
Below net count terms = Each (λ (term : Column × ℤ). number_of net term.0 < count) terms

-- and so does the row
abbrev pub RowBelow : Net → ℕ → SumRow Column → Type 0
RowBelow net count row = Below net count row.sum.terms

-- there is room for these rows, and the columns that they name are there
pub record Fits (net : Net) (program : Begun) (rows : List (SumRow Column)) : Type 0 where
  pub few : length program.rows + length rows ≤ MAX_ROWS
  pub there : Each (RowBelow net (length program.columns)) rows
