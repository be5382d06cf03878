use Rattle.std.specs.Int.{w64}
use Rattle.std.specs.Prelude.{FitsSigned}
use Rattle.std.proofs.lemmas.Int.{to_z-of_z}
use Rattle.cert_check.proofs.ReasonFirsts.{empty_judged, priced_judged}
use Rattle.cert_check.proofs.judging.judge.Goals as goal

pub returns-in-Priced-clause-reason : goal.returns-in-Priced-clause-reason
returns-in-Priced-clause-reason c =
    let spelled = rw c.in-Priced.is at c.requires.spelled in
    let fits : FitsSigned w64 c.args.bound = c.ranges.bound in
    let first = simp to_z-of_z at c.priced_reason.ensures.reason in
    rw c.in-Priced.is (priced_judged c.args.net.now c.args.bound c.args.costed.now.box c.args.pairs.now c.priced_reason.result spelled first)

pub returns-in-Empty-clause-reason : goal.returns-in-Empty-clause-reason
returns-in-Empty-clause-reason c =
    let spelled = rw c.in-Empty.is at c.requires.spelled in
    rw c.in-Empty.is (empty_judged c.args.net.now c.args.bound c.args.costed.now.box c.args.pairs.now c.empty_reason.result spelled c.empty_reason.ensures.reason)
