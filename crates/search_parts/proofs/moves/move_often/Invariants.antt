-- The box stands at the end of the path.
use Rattle.std.proofs.Common.{◌≡◌}
use Rattle.kept_value.specs.Kept.{IsKeptOf}
use Rattle.branch_tree.specs.Boxes.{box_of}
use Rattle.search_parts.proofs.moves.move_often.Given as goal

abbrev pub invariant-loop : goal.invariant-loop
invariant-loop l = record { of : IsKeptOf l.program l.kept; stands : l.kept.box ≡ box_of l.tree l.end }
