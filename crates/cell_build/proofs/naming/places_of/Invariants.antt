-- The places of the links that were reached.
use Rattle.std.proofs.Common.{◌≡◌}
use Rattle.listed.specs.Below.{join_below}
use Rattle.cell_build.specs.Names.{raw_link}
use Rattle.cell_build.specs.Naming.{places_of_link}
use Rattle.cell_build.proofs.naming.places_of.Given as goal

abbrev pub invariant-loop-k : goal.invariant-loop-k
invariant-loop-k l = l.places ≡ join_below l.k (λ k. places_of_link k (raw_link l.links k))
