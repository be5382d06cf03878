use Rattle.std.proofs.Common.{map}
use Rattle.cell_build.specs.Refusals.{unknown_nexts_at}
use Rattle.network_file.specs.declared.raw.RawPhase.{RawPhase}
use Rattle.cell_build.proofs.Walks.{RestHasAll}
use Rattle.cell_build.proofs.judge.unknown_phase.nexts_of_phases.Given as goal

abbrev pub invariant-loop-p : goal.invariant-loop-p
invariant-loop-p l = RestHasAll l.phases (unknown_nexts_at (map (λ (phase : RawPhase). phase.name) l.phases) l.s) l.p
