-- The network that was read, and its reply.
use Rattle.std.proofs.lemmas.Result.{err_from_is_err_and}
use Rattle.std.specs.Prelude.{Ok, Err}
use Rattle.named_net.specs.Naming.{Named}
use Rattle.signal_cli.specs.Answers.{network_in, replay_alone}
use Rattle.signal_cli.proofs.Reading.{found_fault, found_then}
use Rattle.signal_cli.proofs.commands.replay.replay_alone.Goals as goal

pub returns-in_err-named : goal.returns-in_err-named
returns-in_err-named g c =
    let p = err_from_is_err_and c.from_residual.result c.from_residual.ensures.1 in
    rw p.1 (rw p.2 (found_fault (λ files. network_in files c.args.network.now) (λ _ (named : Named). replay_alone named.net named.net.signals) c.in_err-named.field-0.0 _ _ c.in_err-named.ensures))

pub returns-in_err-reply : goal.returns-in_err-reply
returns-in_err-reply g c =
    let p = err_from_is_err_and c.from_residual-in_err-reply.result c.from_residual-in_err-reply.ensures.1 in
    rw p.1 (rw p.2 (found_then (λ files. network_in files c.args.network.now) (λ (named : Named). replay_alone named.net named.net.signals) c.in_ok-named.named (Err c.in_err-reply.field-0.0) _ _ c.in_ok-named.ensures c.in_err-reply.ensures.value))

pub returns : goal.returns
returns g c =
    found_then (λ files. network_in files c.args.network.now) (λ (named : Named). replay_alone named.net named.net.signals) c.in_ok-named.named (Ok c.in_ok-reply.reply) _ _ c.in_ok-named.ensures c.in_ok-reply.ensures.value
