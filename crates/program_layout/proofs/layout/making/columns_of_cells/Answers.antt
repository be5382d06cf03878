use Rattle.std.proofs.Common.{length, ◌∙◌, sym, arith, false}
use Rattle.listed.proofs.SumLaws.{sum_below-suc, sum_below-zero}
use Rattle.listed.proofs.TableLaws.{table_of-zero}
use Rattle.program_model.specs.Columns.{columns_of_cell, has_room}
use Rattle.program_model.specs.Numbers.{cells_before}
use Rattle.program_layout.proofs.CountLaws.{few_cells_before}
use Rattle.program_layout.proofs.LayoutLaws.{from_table, table_more}
use Rattle.program_layout.proofs.layout.making.columns_of_cells.Goals as goal

pub loop-i-init : goal.loop-i-init
loop-i-init c = record {
  before = c.new-before.ensures ∙ sym (table_of-zero (cells_before c.args.net.now.cells));
  all = sym (sum_below-zero (λ j. length (columns_of_cell c.args.net.now.cells 0 j)));
}

pub bounds-rooms-i : goal.bounds-rooms-i
bounds-rooms-i c = (from_table c.args.rooms.now (length c.args.net.now.cells) (has_room c.args.net.now.cells) c.loop-i.i false c.requires.rooms (omega arith)).0

pub columns_of_cell-all-requires-clause-room : goal.columns_of_cell-all-requires-clause-room
columns_of_cell-all-requires-clause-room c = (from_table c.args.rooms.now (length c.args.net.now.cells) (has_room c.args.net.now.cells) c.loop-i.i false c.requires.rooms (omega arith)).1

pub overflow_add-all : goal.overflow_add-all
overflow_add-all c =
    omega (arith, c.columns_of_cell-all.ensures.few, c.loop-i.invariant.all, few_cells_before c.args.net.now c.loop-i.i c.requires.valid (omega arith), c.requires.valid.cells.1)

pub loop-i-preserved : goal.loop-i-preserved
loop-i-preserved c = record {
  before = c.in_ok-push.ensures.ok ∙ table_more c.loop-i.i (cells_before c.args.net.now.cells) c.loop-i.before c.loop-i.all c.loop-i.invariant.before c.loop-i.invariant.all;
  all = omega (arith, sum_below-suc c.loop-i.i (λ j. length (columns_of_cell c.args.net.now.cells 0 j)), c.loop-i.invariant.all, c.columns_of_cell-all.ensures.value);
}
