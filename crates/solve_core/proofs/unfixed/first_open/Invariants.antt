use Rattle.std.proofs.Common.{ℕ, ◌<◌, ◌≤ℤ◌}
use Rattle.sparse_program.specs.Box.{high_of, low_of}
use Rattle.solve_core.proofs.unfixed.first_open.Given as goal

abbrev pub invariant-loop-j : goal.invariant-loop-j
invariant-loop-j l = (k : ℕ) → k < l.j → high_of l.costed.box k ≤ℤ low_of l.costed.box k
