use Rattle.std.proofs.Common.{◌≡◌, ◌+◌, arith, w64, ℕ}
use Rattle.std.specs.Prelude.{slice_index_or}
use Rattle.program_model.specs.Columns.{BranchRest, BranchRoom}
use Rattle.program_model.specs.FlowRows.{room}
use Rattle.program_model.specs.Numbers.{number_of}
use Rattle.lo_program.proofs.FloorLaws.{as_held, floor_added, floor_fits, is_branch, rest_below, room_light}
use Rattle.lo_program.proofs.flows.floors.add_branch_row.Goals as goal
use mir.Val.{of_z, to_z}

pub overflow_add-parcels : goal.overflow_add-parcels
overflow_add-parcels c =
    let branch : ℕ × ℕ = slice_index_or c.args.branches.now c.args.k (0, 0) in
    omega (arith, c.branch_column-parcels.ensures, c.alloc.ensures.few, rest_below c.args.net.now c.args.builder.now (BranchRoom c.args.t c.args.i c.args.k) (BranchRest c.args.t c.args.i c.args.k) branch.1 (room c.args.net.now.cells c.args.t branch.0) c.requires.fits)

pub room-requires-clause-inside : goal.room-requires-clause-inside
room-requires-clause-inside c = (is_branch c.args.net.now c.args.i c.args.branches.now c.args.k c.requires.valid c.requires.inside c.requires.branches c.requires.there).there

pub floor_row-requires : goal.floor_row-requires
floor_row-requires c =
    let net = c.args.net.now in
    let branch : ℕ × ℕ = slice_index_or c.args.branches.now c.args.k (0, 0) in
    let is = is_branch net c.args.i c.args.branches.now c.args.k c.requires.valid c.requires.inside c.requires.branches c.requires.there in
    let rest : c.branch_column-parcels.result + 1 ≡ number_of net (BranchRest c.args.t c.args.i c.args.k) = omega (arith, c.branch_column-parcels.ensures) in
    floor_fits net c.args.builder.now (BranchRoom c.args.t c.args.i c.args.k) (BranchRest c.args.t c.args.i c.args.k) branch.1 (room net.cells c.args.t branch.0)
    c.branch_column-parcels.result (c.branch_column-parcels.result + 1) (to_z w64 (of_z w64 c.from.result)) c.in_ok-room.room c.requires.fits
    c.branch_column-parcels.ensures rest
    (as_held c.from.result branch.1 c.from.ensures is.few)
    c.in_ok-room.ensures.constant c.in_ok-room.ensures.terms is.few
    (room_light net c.args.t branch.0 c.requires.valid is.there)

pub returns : goal.returns
returns c =
    let net = c.args.net.now in
    let branch : ℕ × ℕ = slice_index_or c.args.branches.now c.args.k (0, 0) in
    let is = is_branch net c.args.i c.args.branches.now c.args.k c.requires.valid c.requires.inside c.requires.branches c.requires.there in
    let rest : c.branch_column-parcels.result + 1 ≡ number_of net (BranchRest c.args.t c.args.i c.args.k) = omega (arith, c.branch_column-parcels.ensures) in
    floor_added net c.args.builder.now c.floor_row.new.builder (BranchRoom c.args.t c.args.i c.args.k) (BranchRest c.args.t c.args.i c.args.k) branch.1 (room net.cells c.args.t branch.0)
    c.branch_column-parcels.result (c.branch_column-parcels.result + 1) (to_z w64 (of_z w64 c.from.result)) c.in_ok-room.room
    c.branch_column-parcels.ensures rest
    (as_held c.from.result branch.1 c.from.ensures is.few)
    c.in_ok-room.ensures.constant c.in_ok-room.ensures.terms c.in_ok-floor_row.ensures.ok
