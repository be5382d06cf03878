use Rattle.std.proofs.Common.{length, ap, ◌∙◌}
use Rattle.sparse_program.specs.Program.{Begun}
use Rattle.program_model.specs.FlowRows.{room_rows}
use Rattle.lo_program.proofs.FlowRowLaws.{move_fits, next_fits, parts_added, room_fits, split_fits, splits}
use Rattle.lo_program.proofs.RowLaws.{same_columns}
use Rattle.lo_program.proofs.flows.add_rows_of_cell.Goals as goal

pub add_room_rows-requires-clause-fits : goal.add_room_rows-requires-clause-fits
add_room_rows-requires-clause-fits c = room_fits c.args.net.now c.args.builder.now c.args.t c.args.i c.requires.fits

pub add_split_rows-requires-clause-fits : goal.add_split_rows-requires-clause-fits
add_split_rows-requires-clause-fits c = split_fits c.args.net.now c.args.builder.now c.add_room_rows.new.builder c.args.t c.args.i c.requires.fits c.in_ok-add_room_rows.ensures

pub add_move_rows-requires-clause-all_columns : goal.add_move_rows-requires-clause-all_columns
add_move_rows-requires-clause-all_columns c =
    same_columns c.args.net.now c.add_room_rows.new.builder c.add_split_rows.new.builder (splits c.args.net.now c.args.t c.args.i) c.in_ok-add_split_rows.ensures
    ∙ same_columns c.args.net.now c.args.builder.now c.add_room_rows.new.builder (room_rows c.args.net.now.cells c.args.t c.args.i) c.in_ok-add_room_rows.ensures ∙ c.requires.all_columns

pub add_move_rows-requires-clause-room : goal.add_move_rows-requires-clause-room
add_move_rows-requires-clause-room c =
    (move_fits c.args.net.now c.args.builder.now c.add_room_rows.new.builder c.add_split_rows.new.builder c.args.t c.args.i c.requires.fits c.in_ok-add_room_rows.ensures c.in_ok-add_split_rows.ensures).few

pub add_conservation_rows-requires-clause-columns : goal.add_conservation_rows-requires-clause-columns
add_conservation_rows-requires-clause-columns c =
    ap (λ (program : Begun). length program.columns) c.in_ok-add_move_rows.ensures
    ∙ same_columns c.args.net.now c.add_room_rows.new.builder c.add_split_rows.new.builder (splits c.args.net.now c.args.t c.args.i) c.in_ok-add_split_rows.ensures
    ∙ same_columns c.args.net.now c.args.builder.now c.add_room_rows.new.builder (room_rows c.args.net.now.cells c.args.t c.args.i) c.in_ok-add_room_rows.ensures ∙ c.requires.all_columns

pub add_conservation_rows-requires-clause-room : goal.add_conservation_rows-requires-clause-room
add_conservation_rows-requires-clause-room c =
    (next_fits c.args.net.now c.args.builder.now c.add_room_rows.new.builder c.add_split_rows.new.builder c.add_move_rows.new.builder c.args.t c.args.i c.requires.fits c.in_ok-add_room_rows.ensures c.in_ok-add_split_rows.ensures (record { all = c.in_ok-add_move_rows.ensures })).few

pub returns : goal.returns
returns c =
    parts_added c.args.net.now c.args.builder.now c.add_room_rows.new.builder c.add_split_rows.new.builder c.add_move_rows.new.builder c.add_conservation_rows.new.builder c.args.t c.args.i
    c.in_ok-add_room_rows.ensures c.in_ok-add_split_rows.ensures (record { all = c.in_ok-add_move_rows.ensures }) (record { all = c.in_ok-add_conservation_rows.ensures })
