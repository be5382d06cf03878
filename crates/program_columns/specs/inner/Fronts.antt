-- Columns that are added, or a front of them where memory is wanting.
use Rattle.std.specs.Prelude.{◌≡◌, List, ◌++◌, Result, Ok, Err}
use Rattle.ct_base.specs.declared.net.Net.{Net}
use Rattle.sparse_program.specs.Program.{Begun}
use Rattle.program_model.specs.Columns.{Column}
use Rattle.program_columns.specs.Columns.{with_columns}

-- a front of these columns was added
pub record AddsFront (net : Net) (old new : Begun) (columns : List Column) : Type 0 where
  pub front : List Column
  pub rest : List Column
  pub parts : front ++ rest ≡ columns
  pub added : new ≡ with_columns net old front

-- these columns were added, or a front of them where memory was wanting
abbrev pub AddsAllOrFront : {T E : Type 0} → Result T E → Net → Begun → Begun → List Column → Type 0
AddsAllOrFront (Ok x) net old new columns = new ≡ with_columns net old columns
AddsAllOrFront (Err e) net old new columns = AddsFront net old new columns
