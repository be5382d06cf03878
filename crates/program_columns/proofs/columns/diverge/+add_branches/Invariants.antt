-- The branches that are left.
use Rattle.std.proofs.Common.{length}
use Rattle.program_columns.proofs.columns.diverge.+add_branches.Given as goal

abbrev pub decreases-add_branches : goal.decreases-add_branches
decreases-add_branches l = length l.left.now
