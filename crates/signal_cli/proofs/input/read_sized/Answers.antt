-- The network that was read, and its size.
use Rattle.std.proofs.lemmas.Result.{err_from_is_err_and}
use Rattle.std.proofs.Common.{Ok, Err, ap}
use Rattle.refusals.specs.Faults.{unless}
use Rattle.signal_cli.specs.Answers.{network_in, sized, sized_as}
use Rattle.signal_cli.proofs.Reading.{found_fault, found_then}
use Rattle.signal_cli.proofs.input.read_sized.Goals as goal

pub returns-in_err-named-clause-found : goal.returns-in_err-named-clause-found
returns-in_err-named-clause-found g c =
    let p = err_from_is_err_and c.from_residual.result c.from_residual.ensures.1 in
    rw p.1 (rw p.2 (found_fault (λ files. network_in files c.args.name.now) (λ _. sized) c.in_err-named.field-0.0 _ _ c.in_err-named.ensures))

pub returns-in_err-refuse_large-clause-found : goal.returns-in_err-refuse_large-clause-found
returns-in_err-refuse_large-clause-found g c =
    let p = err_from_is_err_and c.from_residual-in_err-refuse_large.result c.from_residual-in_err-refuse_large.ensures.1 in
    rw p.1 (rw p.2 (found_then (λ files. network_in files c.args.name.now) sized c.in_ok-named.named (Err c.in_err-refuse_large.field-0.0) _ _ c.in_ok-named.ensures c.in_err-refuse_large.ensures.large))

pub returns-clause-found : goal.returns-clause-found
returns-clause-found g c =
    found_then (λ files. network_in files c.args.name.now) sized c.in_ok-named.named (Ok c.in_ok-named.named) _ _ c.in_ok-named.ensures (ap (λ faults. sized_as (unless faults c.in_ok-named.named)) c.in_ok-refuse_large.ensures.small)
