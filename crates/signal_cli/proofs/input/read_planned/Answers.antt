-- The network that was read first, and the plan that was read then.
use Rattle.std.proofs.lemmas.Result.{err_from_is_err_and}
use Rattle.std.specs.Prelude.{Ok, Err}
use Rattle.named_net.specs.Naming.{Named}
use Rattle.signal_cli.specs.Answers.{network_in, with_plan}
use Rattle.signal_cli.proofs.Reading.{found_fault, planned_found, network_beside}
use Rattle.signal_cli.proofs.input.read_planned.Goals as goal

pub returns-in_err-named-clause-found : goal.returns-in_err-named-clause-found
returns-in_err-named-clause-found g c =
    let p = err_from_is_err_and c.from_residual.result c.from_residual.ensures.1 in
    rw p.1 (rw p.2 (found_fault (λ files. network_in files c.args.network.now) (λ files (named : Named). with_plan (Ok named) files c.args.plan.now) c.in_err-named.field-0.0 _ _ c.in_err-named.ensures))

pub returns-in_err-plan-clause-found : goal.returns-in_err-plan-clause-found
returns-in_err-plan-clause-found g c =
    let p = err_from_is_err_and c.from_residual-in_err-plan.result c.from_residual-in_err-plan.ensures.1 in
    rw p.1 (rw p.2 (planned_found (λ files. network_in files c.args.network.now) c.args.network.now (network_beside c.args.network.now) c.args.plan.now c.requires c.in_ok-named.named (Err c.in_err-plan.field-0.0) _ _ _ c.in_ok-named.ensures c.in_err-plan.ensures.found))

pub returns-clause-found : goal.returns-clause-found
returns-clause-found g c =
    planned_found (λ files. network_in files c.args.network.now) c.args.network.now (network_beside c.args.network.now) c.args.plan.now c.requires c.in_ok-named.named (Ok c.in_ok-plan.plan) _ _ _ c.in_ok-named.ensures c.in_ok-plan.ensures.found
