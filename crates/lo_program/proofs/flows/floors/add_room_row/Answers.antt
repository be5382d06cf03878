use Rattle.std.proofs.Common.{◌+◌, ◌∙◌, ap, arith, w64}
use Rattle.std.specs.Prelude.{pos}
use Rattle.ct_base.specs.Access.{cell_of}
use Rattle.ct_base.specs.declared.cell.Cell.{Cell}
use Rattle.program_model.specs.Columns.{Room, RoomRest}
use Rattle.program_model.specs.Numbers.{first_column}
use Rattle.lo_program.specs.inner.Floors.{free_storage}
use Rattle.program_layout.proofs.CountLaws.{small_first}
use Rattle.lo_program.proofs.FloorLaws.{as_held, floor_added, floor_fits, free_light, small_cell}
use Rattle.lo_program.proofs.flows.floors.add_room_row.Goals as goal
use mir.Val.{of_z, to_z}

pub overflow_add-units : goal.overflow_add-units
unfolding first_column
overflow_add-units c =
    rw c.first_column-units.ensures (omega (arith, (small_first c.args.net.now c.args.t c.args.i c.requires.valid (omega (arith, c.requires.before)) (omega (arith, c.requires.inside))).1))

pub overflow_add-units-2 : goal.overflow_add-units-2
unfolding first_column
overflow_add-units-2 c =
    rw c.first_column-units.ensures (omega (arith, (small_first c.args.net.now c.args.t c.args.i c.requires.valid (omega (arith, c.requires.before)) (omega (arith, c.requires.inside))).1))

pub floor_row-requires : goal.floor_row-requires
floor_row-requires c =
    let net = c.args.net.now in
    let cell : Cell = cell_of net.cells c.args.i in
    floor_fits net c.args.builder.now (Room c.args.t c.args.i) (RoomRest c.args.t c.args.i) cell.wave_q (free_storage net.cells c.args.t c.args.i)
    (c.first_column-units.result + 1) (c.first_column-units.result + 2) (to_z w64 (of_z w64 c.from.result)) c.in_ok-free.free c.requires.fits
    (ap (λ n. n + 1) c.first_column-units.ensures) (ap (λ n. n + 2) c.first_column-units.ensures)
    (as_held c.from.result cell.wave_q (c.from.ensures ∙ ap (λ (cell : Cell). pos cell.wave_q) c.cell.ensures.value) (omega (arith, (small_cell net c.args.i c.requires.valid c.requires.inside).wave_q)))
    c.in_ok-free.ensures.constant c.in_ok-free.ensures.terms (omega (arith, (small_cell net c.args.i c.requires.valid c.requires.inside).wave_q))
    (free_light net c.args.t c.args.i c.requires.valid c.requires.inside)

pub returns : goal.returns
returns c =
    let net = c.args.net.now in
    let cell : Cell = cell_of net.cells c.args.i in
    floor_added net c.args.builder.now c.floor_row.new.builder (Room c.args.t c.args.i) (RoomRest c.args.t c.args.i) cell.wave_q (free_storage net.cells c.args.t c.args.i)
    (c.first_column-units.result + 1) (c.first_column-units.result + 2) (to_z w64 (of_z w64 c.from.result)) c.in_ok-free.free
    (ap (λ n. n + 1) c.first_column-units.ensures) (ap (λ n. n + 2) c.first_column-units.ensures)
    (as_held c.from.result cell.wave_q (c.from.ensures ∙ ap (λ (cell : Cell). pos cell.wave_q) c.cell.ensures.value) (omega (arith, (small_cell net c.args.i c.requires.valid c.requires.inside).wave_q)))
    c.in_ok-free.ensures.constant c.in_ok-free.ensures.terms c.in_ok-floor_row.ensures.ok
