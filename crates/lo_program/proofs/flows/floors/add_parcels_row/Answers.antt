use Rattle.std.proofs.Common.{◌+◌, ◌∙◌, ap, arith, w64}
use Rattle.std.specs.Prelude.{pos}
use Rattle.ct_base.specs.Access.{parcel}
use Rattle.program_model.specs.Columns.{Parcels, ParcelsRest, Units}
use Rattle.program_model.specs.Rows.{column}
use Rattle.lo_program.proofs.FloorLaws.{as_held, floor_added, floor_fits, rest_below, small_parcel, units_light}
use Rattle.lo_program.proofs.flows.floors.add_parcels_row.Goals as goal
use mir.Val.{of_z, to_z}

pub overflow_add-parcels : goal.overflow_add-parcels
overflow_add-parcels c =
    omega (arith, c.parcels_column-parcels.ensures, c.alloc.ensures.few, rest_below c.args.net.now c.args.builder.now (Parcels c.args.t c.args.i) (ParcelsRest c.args.t c.args.i) (parcel c.args.branches.now) (column (Units c.args.t c.args.i)) c.requires.fits)

pub floor_row-requires : goal.floor_row-requires
floor_row-requires c =
    let net = c.args.net.now in
    floor_fits net c.args.builder.now (Parcels c.args.t c.args.i) (ParcelsRest c.args.t c.args.i) (parcel c.args.branches.now) (column (Units c.args.t c.args.i))
    c.parcels_column-parcels.result (c.parcels_column-parcels.result + 1) (to_z w64 (of_z w64 c.from.result)) c.in_ok-units.units c.requires.fits
    c.parcels_column-parcels.ensures (ap (λ n. n + 1) c.parcels_column-parcels.ensures)
    (as_held c.from.result (parcel c.args.branches.now) (c.from.ensures ∙ ap pos c.parcel.ensures.value) (small_parcel net c.args.i c.args.branches.now c.requires.valid c.requires.inside c.requires.branches))
    c.in_ok-units.ensures.constant c.in_ok-units.ensures.terms (small_parcel net c.args.i c.args.branches.now c.requires.valid c.requires.inside c.requires.branches)
    (units_light net c.args.t c.args.i)

pub returns : goal.returns
returns c =
    let net = c.args.net.now in
    floor_added net c.args.builder.now c.floor_row.new.builder (Parcels c.args.t c.args.i) (ParcelsRest c.args.t c.args.i) (parcel c.args.branches.now) (column (Units c.args.t c.args.i))
    c.parcels_column-parcels.result (c.parcels_column-parcels.result + 1) (to_z w64 (of_z w64 c.from.result)) c.in_ok-units.units
    c.parcels_column-parcels.ensures (ap (λ n. n + 1) c.parcels_column-parcels.ensures)
    (as_held c.from.result (parcel c.args.branches.now) (c.from.ensures ∙ ap pos c.parcel.ensures.value) (small_parcel net c.args.i c.args.branches.now c.requires.valid c.requires.inside c.requires.branches))
    c.in_ok-units.ensures.constant c.in_ok-units.ensures.terms c.in_ok-floor_row.ensures.ok
