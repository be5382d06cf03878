use Rattle.std.proofs.Common.{inl, inr, arith}
use Rattle.std.proofs.lemmas.Bool.{cases_lt}
use Rattle.dual_prices.proofs.GainLaws.{IfNone_then}
use Rattle.dual_prices.proofs.ascent.next_step.Goals as goal

pub returns-in-None-clause-none : goal.returns-in-None-clause-none
returns-in-None-clause-none c =
    let first = c.in-None.ensures in
    let second = c.step_within-in-None.ensures in
    IfNone_then c.step_within-in-None.result second.none
    (λ before row within.
    second.waiting.others row (elim (cases_lt row c.args.from) [
      | inl below ↦ before row (omega arith) below
      | inr above ↦ second.calm row (first.none row above (omega (arith, within, c.rows.ensures.value)))
    ]))
