use Rattle.std.proofs.Common.{◌≡◌, List, [], ◌∷◌, ◌++◌, ap, ◌∙◌, arith}
use Rattle.listed.specs.Below.{table_of}
use Rattle.ct_base.specs.Access.{cell_of}
use Rattle.ct_base.specs.declared.cell.Cell.{Cell}
use Rattle.ct_base.specs.declared.net.Net.{Net}
use Rattle.sparse_program.specs.Program.{Begun}
use Rattle.program_model.specs.Columns.{Column, Flow, Switch, Units, term_count}
use Rattle.program_columns.specs.Columns.{with_columns}
use Rattle.program_columns.proofs.BuildingLaws.{both_added, length-with}
use Rattle.program_columns.proofs.CellColumns.{length-parts, parts_of_cell, room_columns, split_columns}
use Rattle.program_columns.proofs.columns.cell.add_columns_of_cell.Goals as goal

pub add_units-requires-clause-room : goal.add_units-requires-clause-room
add_units-requires-clause-room c = omega (arith, c.requires.room, length-parts c.args.net.now c.args.t c.args.i)

pub add_room-requires-clause-room : goal.add_room-requires-clause-room
add_room-requires-clause-room c =
    omega (arith, c.requires.room, length-parts c.args.net.now c.args.t c.args.i, length-with c.args.net.now c.args.builder.now c.add_units.new.builder (Units c.args.t c.args.i ∷ []) c.in_ok-add_units.ensures)

pub add_diverge-requires-clause-room : goal.add_diverge-requires-clause-room
add_diverge-requires-clause-room c =
    omega (
      arith,
      c.requires.room,
      length-parts c.args.net.now c.args.t c.args.i,
      length-with c.args.net.now c.args.builder.now c.add_units.new.builder (Units c.args.t c.args.i ∷ []) c.in_ok-add_units.ensures,
      length-with c.args.net.now c.add_units.new.builder c.add_room.new.builder (room_columns c.args.net.now c.args.t c.args.i) c.in_ok-add_room.ensures,
    )

pub add_flow-requires-clause-room : goal.add_flow-requires-clause-room
add_flow-requires-clause-room c =
    omega (
      arith,
      c.requires.room,
      length-parts c.args.net.now c.args.t c.args.i,
      length-with c.args.net.now c.args.builder.now c.add_units.new.builder (Units c.args.t c.args.i ∷ []) c.in_ok-add_units.ensures,
      length-with c.args.net.now c.add_units.new.builder c.add_room.new.builder (room_columns c.args.net.now c.args.t c.args.i) c.in_ok-add_room.ensures,
      length-with c.args.net.now c.add_room.new.builder c.add_diverge.new.builder (split_columns c.args.net.now c.args.t c.args.i) c.in_ok-add_diverge.ensures,
    )

pub add_switches-requires : goal.add_switches-requires
add_switches-requires c =
    record {
      room =
          omega (
            arith,
            c.requires.room,
            length-parts c.args.net.now c.args.t c.args.i,
            length-with c.args.net.now c.args.builder.now c.add_units.new.builder (Units c.args.t c.args.i ∷ []) c.in_ok-add_units.ensures,
            length-with c.args.net.now c.add_units.new.builder c.add_room.new.builder (room_columns c.args.net.now c.args.t c.args.i) c.in_ok-add_room.ensures,
            length-with c.args.net.now c.add_room.new.builder c.add_diverge.new.builder (split_columns c.args.net.now c.args.t c.args.i) c.in_ok-add_diverge.ensures,
            length-with c.args.net.now c.add_diverge.new.builder c.add_flow.new.builder (Flow c.args.t c.args.i ∷ []) c.in_ok-add_flow.ensures,
            c.term_count.ensures.value ∙ ap (λ (cell : Cell). term_count cell.out) c.cell.ensures.value,
          );
    }

pub returns : goal.returns
returns c =
    let net : Net = c.args.net.now in
    let begun : Begun = c.args.builder.now in
    let units : List Column = Units c.args.t c.args.i ∷ [] in
    let room : List Column = room_columns net c.args.t c.args.i in
    let split : List Column = split_columns net c.args.t c.args.i in
    let flow : List Column = Flow c.args.t c.args.i ∷ [] in
    let with_room : c.add_room.new.builder ≡ with_columns net begun (units ++ room) =
    both_added net begun c.add_units.new.builder c.add_room.new.builder units room c.in_ok-add_units.ensures c.in_ok-add_room.ensures in
    let with_split : c.add_diverge.new.builder ≡ with_columns net begun (units ++ room ++ split) =
    both_added net begun c.add_room.new.builder c.add_diverge.new.builder (units ++ room) split with_room c.in_ok-add_diverge.ensures in
    let with_flow : c.add_flow.new.builder ≡ with_columns net begun (units ++ room ++ split ++ flow) =
    both_added net begun c.add_diverge.new.builder c.add_flow.new.builder (units ++ room ++ split) flow with_split c.in_ok-add_flow.ensures in
    let terms : c.term_count.result ≡ term_count (cell_of net.cells c.args.i).out = c.term_count.ensures.value ∙ ap (λ (cell : Cell). term_count cell.out) c.cell.ensures.value in
    both_added net begun c.add_flow.new.builder c.add_switches.new.builder (units ++ room ++ split ++ flow) (table_of c.term_count.result (Switch c.args.t c.args.i)) with_flow c.in_ok-add_switches.ensures
    ∙ ap (λ n. with_columns net begun (units ++ room ++ split ++ flow ++ table_of n (Switch c.args.t c.args.i))) terms
    ∙ ap (with_columns net begun) (parts_of_cell net c.args.t c.args.i)
