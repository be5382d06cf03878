-- The network that was read, and its size for a budget.
use Rattle.std.proofs.lemmas.Result.{err_from_is_err_and}
use Rattle.std.proofs.Common.{Ok, Err, ap}
use Rattle.refusals.specs.Faults.{unless}
use Rattle.signal_cli.specs.Answers.{network_in, searchable, searchable_as}
use Rattle.signal_cli.proofs.Reading.{found_fault, found_then}
use Rattle.signal_cli.proofs.input.read_searchable.Goals as goal

pub returns-in_err-named-clause-found : goal.returns-in_err-named-clause-found
returns-in_err-named-clause-found g c =
    let p = err_from_is_err_and c.from_residual.result c.from_residual.ensures.1 in
    rw p.1 (rw p.2 (found_fault (λ files. network_in files c.args.name.now) (λ _. searchable c.args.budget) c.in_err-named.field-0.0 _ _ c.in_err-named.ensures))

pub returns-in_err-refuse_unsearchable-clause-found : goal.returns-in_err-refuse_unsearchable-clause-found
returns-in_err-refuse_unsearchable-clause-found g c =
    let p = err_from_is_err_and c.from_residual-in_err-refuse_unsearchable.result c.from_residual-in_err-refuse_unsearchable.ensures.1 in
    rw p.1 (rw p.2 (found_then (λ files. network_in files c.args.name.now) (searchable c.args.budget) c.in_ok-named.named (Err c.in_err-refuse_unsearchable.field-0.0) _ _ c.in_ok-named.ensures c.in_err-refuse_unsearchable.ensures.large))

pub returns-clause-found : goal.returns-clause-found
returns-clause-found g c =
    found_then (λ files. network_in files c.args.name.now) (searchable c.args.budget) c.in_ok-named.named (Ok c.in_ok-named.named) _ _ c.in_ok-named.ensures (ap (λ faults. searchable_as (unless faults c.in_ok-named.named)) c.in_ok-refuse_unsearchable.ensures.small)
