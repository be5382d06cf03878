use Rattle.std.proofs.Common.{◌+◌, [], ◌∷◌}
use Rattle.std.specs.Prelude.{nat_lt, if◌then◌else◌}
use Rattle.listed.specs.Below.{join_below}
use Rattle.program_model.specs.RuleRows.{stay_row}
use Rattle.lo_program.specs.inner.Adding.{Adds}
use Rattle.lo_program.proofs.rules.lasting.add_stay_rows.Given as goal

-- the rows of the steps that were passed were added
abbrev pub invariant-loop-j : goal.invariant-loop-j
invariant-loop-j l = Adds l.net l.fn.builder l.builder (join_below l.j (λ j. if nat_lt (l.t + (j + 1)) l.net.steps then stay_row l.bits.signal l.t l.letter (j + 1) ∷ [] else []))
