use Rattle.std.proofs.Common.{arith}
use Rattle.sparse_program.specs.declared.limits.TheConstants.{MAX_COLUMNS}
use Rattle.program_model.specs.Columns.{columns_of_cells}
use Rattle.program_columns.proofs.BuildingLaws.{parts_begin, parts_end, parts_fit, parts_more}
use Rattle.program_columns.proofs.columns.add_columns_of_steps.Goals as goal

pub loop-t-init : goal.loop-t-init
loop-t-init c = record {
  added = parts_begin c.args.net.now c.args.builder.now (columns_of_cells c.args.net.now.cells);
  arrived = c.in_ok-arrived.ensures;
}

pub add_columns_of_cells-requires-clause-room : goal.add_columns_of_cells-requires-clause-room
add_columns_of_cells-requires-clause-room c =
    parts_fit c.args.net.now c.args.builder.now c.loop-t.builder c.args.net.now.steps c.loop-t.t MAX_COLUMNS (columns_of_cells c.args.net.now.cells) c.loop-t.invariant.added (omega arith) c.requires.room

pub loop-t-preserved : goal.loop-t-preserved
loop-t-preserved c = record {
  added =
      parts_more c.args.net.now c.args.builder.now c.loop-t.builder c.add_columns_of_cells.new.builder c.loop-t.t (columns_of_cells c.args.net.now.cells) c.loop-t.invariant.added
      c.in_ok-add_columns_of_cells.ensures;
  arrived = c.in_ok-arrived-2.ensures;
}

pub returns : goal.returns
returns c = parts_end c.args.net.now c.args.builder.now c.loop-t.builder c.args.net.now.steps c.loop-t.t (columns_of_cells c.args.net.now.cells) c.loop-t.invariant.added (omega arith)
