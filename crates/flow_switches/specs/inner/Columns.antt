-- The columns of a move in a program that is being built.
use Rattle.std.specs.Prelude.{◌+◌, ◌<◌, ◌≤◌, length}
use Rattle.sparse_program.specs.Program.{Begun}
use Rattle.flow_switches.specs.declared.move_rows.Move.{Move}

-- the flow and all switches exist
pub record HasColumns (program : Begun) (of : Move) : Type 0 where
  pub flow_there : of.flow < length program.columns
  pub switches_there : of.first + of.switches ≤ length program.columns
