use Rattle.std.proofs.Common.{rules}
use Rattle.cell_build.proofs.judge.unknown_phase.unknown_start_at.Goals as goal

pub returns-in-Some : goal.returns-in-Some
returns-in-Some c = rw (c.in-Some.is, ← c.as_slice.ensures) (search rules)
