use Rattle.std.proofs.Common.{◌∙◌, sym}
use Rattle.listed.proofs.TableLaws.{table_of-zero}
use Rattle.program_model.specs.Columns.{has_room}
use Rattle.program_layout.proofs.LayoutLaws.{table_more}
use Rattle.program_layout.proofs.layout.making.rooms_of.Goals as goal

pub loop-i-init : goal.loop-i-init
loop-i-init c = c.new-rooms.ensures ∙ sym (table_of-zero (has_room c.args.cells.now))

pub loop-i-preserved : goal.loop-i-preserved
loop-i-preserved c = c.in_ok-push.ensures.ok ∙ table_more c.loop-i.i (has_room c.args.cells.now) c.loop-i.rooms c.is_room_column.result c.loop-i.invariant c.is_room_column.ensures
