use Rattle.std.proofs.Common.{Ok, Result, arith, rules, subst}
use Rattle.std.proofs.lemmas.Grind.{common_steps}
use Rattle.lo_program.specs.declared.fault.CompileFault.{CompileFault}
use Rattle.certificate_model.specs.declared.verdict.Verdict.{Verdict}
use Rattle.cert_check.specs.Deserved.{Deserves}
use Rattle.cert_check.proofs.whole_text.verdict.Goals as goal

pub returns-clause-safe : goal.returns-clause-safe
returns-clause-safe c = λ bound plan is admissible.
    let deserved : Deserves c.args.net.now c.args.bytes.now (Ok c.finish.result) = first_of (search rules, grind (arith, common_steps)) in
    let accepted = subst (λ (result : Result Verdict CompileFault). Deserves c.args.net.now c.args.bytes.now result) is deserved in
    c.accepted_bounds_are_safe.ensures c.args.net.now c.args.bytes.now bound plan c.requires.valid accepted.1 admissible
