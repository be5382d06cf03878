use Rattle.std.proofs.Common.{arith, length}
use Rattle.sparse_program.specs.declared.limits.TheConstants.{MAX_COLUMNS}
use Rattle.program_model.specs.Columns.{columns_of_cell, columns_of_cells}
use Rattle.program_columns.specs.Columns.{arrived_before}
use Rattle.program_columns.proofs.BuildingLaws.{parts_begin, parts_end, parts_fit, parts_more}
use Rattle.program_layout.proofs.LayoutLaws.{from_table}
use Rattle.program_columns.proofs.columns.add_columns_of_cells.Goals as goal

pub loop-i-init : goal.loop-i-init
loop-i-init c = parts_begin c.args.net.now c.args.builder.now (columns_of_cell c.args.net.now.cells c.args.t)

pub bounds-arrived-i : goal.bounds-arrived-i
bounds-arrived-i c = (from_table c.args.arrived.now (length c.args.net.now.cells) (arrived_before c.args.net.now.cells c.args.t) c.loop-i.i 0 c.requires.arrived (omega arith)).0

pub add_columns_of_cell-requires-clause-arrived : goal.add_columns_of_cell-requires-clause-arrived
add_columns_of_cell-requires-clause-arrived c = (from_table c.args.arrived.now (length c.args.net.now.cells) (arrived_before c.args.net.now.cells c.args.t) c.loop-i.i 0 c.requires.arrived (omega arith)).1

pub add_columns_of_cell-requires-clause-room : goal.add_columns_of_cell-requires-clause-room
unfolding columns_of_cells
add_columns_of_cell-requires-clause-room c =
    parts_fit c.args.net.now c.args.builder.now c.loop-i.builder (length c.args.net.now.cells) c.loop-i.i MAX_COLUMNS (columns_of_cell c.args.net.now.cells c.args.t) c.loop-i.invariant (omega arith) c.requires.room

pub loop-i-preserved : goal.loop-i-preserved
loop-i-preserved c =
    parts_more c.args.net.now c.args.builder.now c.loop-i.builder c.add_columns_of_cell.new.builder c.loop-i.i (columns_of_cell c.args.net.now.cells c.args.t) c.loop-i.invariant c.in_ok-add_columns_of_cell.ensures

pub returns : goal.returns
unfolding columns_of_cells
returns c = parts_end c.args.net.now c.args.builder.now c.loop-i.builder (length c.args.net.now.cells) c.loop-i.i (columns_of_cell c.args.net.now.cells c.args.t) c.loop-i.invariant (omega arith)
