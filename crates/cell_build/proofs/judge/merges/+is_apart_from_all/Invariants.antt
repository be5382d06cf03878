-- The links that are left get fewer.
use Rattle.std.proofs.Common.{length}
use Rattle.cell_build.proofs.judge.merges.+is_apart_from_all.Given as goal

abbrev pub decreases-is_apart_from_all : goal.decreases-is_apart_from_all
decreases-is_apart_from_all l = length l.links.now
