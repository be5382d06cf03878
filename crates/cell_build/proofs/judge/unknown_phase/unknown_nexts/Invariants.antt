use Rattle.std.proofs.Common.{map}
use Rattle.cell_build.specs.Refusals.{unknown_next_at}
use Rattle.network_file.specs.declared.raw.RawPhase.{RawPhase}
use Rattle.cell_build.proofs.Walks.{RestHasAll}
use Rattle.cell_build.proofs.judge.unknown_phase.unknown_nexts.Given as goal

abbrev pub invariant-loop-j : goal.invariant-loop-j
invariant-loop-j l = RestHasAll l.next (unknown_next_at (map (λ (phase : RawPhase). phase.name) l.phases) l.s l.p) l.j
