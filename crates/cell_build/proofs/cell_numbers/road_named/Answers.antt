-- The place of the name is that of a link.
use Rattle.std.proofs.Common.{rules, ◌<◌, length}
use Rattle.cell_build.proofs.PlaceLaws.{found_first}
use Rattle.cell_build.proofs.cell_numbers.road_named.Goals as goal

pub bounds-firsts-place : goal.bounds-firsts-place
bounds-firsts-place c = rw c.unwrap_or-place.ensures (found_first c.args.links.now c.args.firsts.now c.place_of.result c.requires c.place_of.ensures.below).0

pub offset_bounds-firsts-place : goal.offset_bounds-firsts-place
offset_bounds-firsts-place c =
    let there : c.unwrap_or-place.result < length c.args.firsts.now = rw c.unwrap_or-place.ensures (found_first c.args.links.now c.args.firsts.now c.place_of.result c.requires c.place_of.ensures.below).0 in
    search rules
