-- The network that was read, and the reply to what a search came to.
use Rattle.std.proofs.lemmas.Result.{err_from_is_err_and}
use Rattle.signal_cli.specs.Answers.{IsSearchReply, searchable_in}
use Rattle.signal_cli.proofs.Reading.{fault_follows, reply_follows}
use Rattle.signal_cli.proofs.commands.solve.solve.Goals as goal

pub returns-in_err-named : goal.returns-in_err-named
returns-in_err-named g c =
    let p = err_from_is_err_and c.from_residual.result c.from_residual.ensures.1 in
    rw p.1 (rw p.2 (fault_follows (λ files. searchable_in files c.args.network.now c.args.budget) (IsSearchReply c.args.budget c.args.plan.now c.args.certificate.now) c.in_err-named.field-0.0 _ _ c.in_err-named.ensures.found))

pub returns : goal.returns
returns g c =
    reply_follows (λ files. searchable_in files c.args.network.now c.args.budget) (IsSearchReply c.args.budget c.args.plan.now c.args.certificate.now) c.in_ok-named.named c.in_ok-reply.reply _ _ c.in_ok-named.ensures.found c.in_ok-reply.ensures
