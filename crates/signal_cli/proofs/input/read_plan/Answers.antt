-- What was read, and what is made of it.
use Rattle.std.proofs.lemmas.Result.{err_from_is_err_and}
use Rattle.std.specs.Prelude.{Ok, Err}
use Rattle.limits.specs.declared.TheConstants.{MAX_FILE_BYTES}
use Rattle.signal_cli.specs.Answers.{content_in, plan_from}
use Rattle.signal_cli.proofs.Reading.{found_fault, found_then}
use Rattle.signal_cli.proofs.input.read_plan.Goals as goal

pub returns-in_err-content-clause-found : goal.returns-in_err-content-clause-found
returns-in_err-content-clause-found g c =
    let p = err_from_is_err_and c.from_residual.result c.from_residual.ensures.1 in
    rw p.1 (rw p.2 (found_fault (λ files. content_in files c.args.name.now MAX_FILE_BYTES) (λ _. plan_from c.args.named.now) c.in_err-content.field-0.0 _ _ c.in_err-content.ensures))

pub returns-in_err-plan-clause-found : goal.returns-in_err-plan-clause-found
returns-in_err-plan-clause-found g c =
    let p = err_from_is_err_and c.from_residual-in_err-plan.result c.from_residual-in_err-plan.ensures.1 in
    rw p.1 (rw p.2 (found_then (λ files. content_in files c.args.name.now MAX_FILE_BYTES) (plan_from c.args.named.now) c.in_ok-content.content (Err c.in_err-plan.field-0.0) _ _ c.in_ok-content.ensures c.in_err-plan.ensures.value))

pub returns-clause-found : goal.returns-clause-found
returns-clause-found g c =
    found_then (λ files. content_in files c.args.name.now MAX_FILE_BYTES) (plan_from c.args.named.now) c.in_ok-content.content (Ok c.in_ok-plan.plan) _ _ c.in_ok-content.ensures c.in_ok-plan.ensures.value
