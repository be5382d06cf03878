-- The branches that are left.
use Rattle.std.proofs.Common.{length}
use Rattle.program_layout.proofs.layout.making.+columns_of_branches.Given as goal

abbrev pub decreases-columns_of_branches : goal.decreases-columns_of_branches
decreases-columns_of_branches l = length l.turns.now
