-- The places that were reached stand behind those before the link.
use Rattle.std.proofs.Common.{◌≡◌, ◌++◌, Some}
use Rattle.listed.specs.Below.{table_of}
use Rattle.cell_build.proofs.naming.add_road_places.Given as goal

abbrev pub invariant-loop-road : goal.invariant-loop-road
invariant-loop-road l = l.places ≡ l.initial.places ++ table_of l.road (λ i. record { link = l.k; road = Some i })
