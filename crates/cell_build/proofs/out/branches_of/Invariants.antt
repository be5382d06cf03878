-- The branches that were reached.
use Rattle.std.proofs.Common.{◌≡◌, ℕ, List, map, take}
use Rattle.cell_build.specs.Link.{road_named}
use Rattle.cell_build.proofs.out.branches_of.Given as goal

abbrev pub invariant-loop-name : goal.invariant-loop-name
invariant-loop-name l = l.branches ≡ map (λ (turn : List ℕ × ℕ). (road_named l.links turn.0, turn.1)) (take l.name-index l.turns)
