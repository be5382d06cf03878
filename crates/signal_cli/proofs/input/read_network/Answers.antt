-- What was read, and what is made of it.
use Rattle.std.proofs.lemmas.Result.{err_from_is_err_and}
use Rattle.std.specs.Prelude.{Ok, Err}
use Rattle.limits.specs.declared.TheConstants.{MAX_FILE_BYTES}
use Rattle.signal_cli.specs.Answers.{content_in, network_from}
use Rattle.signal_cli.proofs.Reading.{found_fault, found_then}
use Rattle.signal_cli.proofs.input.read_network.Goals as goal

pub returns-in_err-content : goal.returns-in_err-content
returns-in_err-content g c =
    let p = err_from_is_err_and c.from_residual.result c.from_residual.ensures.1 in
    rw p.1 (rw p.2 (found_fault (λ files. content_in files c.args.name.now MAX_FILE_BYTES) (λ _. network_from) c.in_err-content.field-0.0 _ _ c.in_err-content.ensures))

pub returns-in_err-named : goal.returns-in_err-named
returns-in_err-named g c =
    let p = err_from_is_err_and c.from_residual-in_err-named.result c.from_residual-in_err-named.ensures.1 in
    rw p.1 (rw p.2 (found_then (λ files. content_in files c.args.name.now MAX_FILE_BYTES) network_from c.in_ok-content.content (Err c.in_err-named.field-0.0) _ _ c.in_ok-content.ensures c.in_err-named.ensures.value))

pub returns : goal.returns
returns g c =
    found_then (λ files. content_in files c.args.name.now MAX_FILE_BYTES) network_from c.in_ok-content.content (Ok c.in_ok-named.named) _ _ c.in_ok-content.ensures c.in_ok-named.ensures.value
