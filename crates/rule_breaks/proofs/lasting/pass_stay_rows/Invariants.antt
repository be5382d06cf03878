use Rattle.std.proofs.Common.{◌≡◌}
use Rattle.std.specs.Prelude.{Ok}
use Rattle.listed.specs.Below.{join_below}
use Rattle.rule_breaks.specs.Breaks.{value_in}
use Rattle.rule_breaks.specs.inner.Walk.{walk}
use Rattle.rule_breaks.proofs.StayRows.{rows_of_stay}
use Rattle.rule_breaks.proofs.lasting.pass_stay_rows.Given as goal

-- the rows of the steps before were passed
abbrev pub invariant-loop-j : goal.invariant-loop-j
invariant-loop-j l = walk (value_in l.net l.bits) l.part.steps l.number (join_below l.j (rows_of_stay l.part.signal l.t l.letter)) ≡ Ok l.next
