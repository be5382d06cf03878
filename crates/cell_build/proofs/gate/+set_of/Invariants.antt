-- The names that are left.
use Rattle.std.proofs.Common.{length}
use Rattle.cell_build.proofs.gate.+set_of.Given as goal

abbrev pub decreases-set_of : goal.decreases-set_of
decreases-set_of l = length l.names.now
