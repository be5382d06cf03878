-- The links that are left get fewer.
use Rattle.std.proofs.Common.{length}
use Rattle.cell_build.proofs.judge.merges.+are_apart.Given as goal

abbrev pub decreases-are_apart : goal.decreases-are_apart
decreases-are_apart l = length l.links.now
