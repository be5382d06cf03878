-- The network that was read, and its reply.
use Rattle.std.proofs.lemmas.Result.{err_from_is_err_and}
use Rattle.std.specs.Prelude.{ℕ, List, Result, Ok, Err}
use Rattle.named_net.specs.Naming.{Named}
use Rattle.program_model.specs.Points.{program_of}
use Rattle.signal_cli.specs.Answers.{program_reply, sized_in}
use Rattle.signal_cli.specs.declared.fault.Fault.{Fault}
use Rattle.signal_cli.specs.declared.reply.Reply.{Reply}
use Rattle.signal_cli.proofs.Reading.{found_fault, found_then}
use Rattle.signal_cli.proofs.commands.program.program.Goals as goal

-- what is made of a network
abbrev reply_to : List ℕ → Named → Result Reply Fault
reply_to text named = Ok (program_reply text (program_of named.net))

pub returns-in_err-named : goal.returns-in_err-named
returns-in_err-named g c =
    let p = err_from_is_err_and c.from_residual.result c.from_residual.ensures.1 in
    rw p.1 (rw p.2 (found_fault (λ files. sized_in files c.args.network.now) (λ _. reply_to c.args.text.now) c.in_err-named.field-0.0 _ _ c.in_err-named.ensures.found))

pub returns-in_err-reply : goal.returns-in_err-reply
returns-in_err-reply g c =
    let p = err_from_is_err_and c.from_residual-in_err-reply.result c.from_residual-in_err-reply.ensures.1 in
    rw p.1 (rw p.2 (found_then (λ files. sized_in files c.args.network.now) (reply_to c.args.text.now) c.in_ok-named.named (Err c.in_err-reply.field-0.0) _ _ c.in_ok-named.ensures.found (rw c.net.ensures.value at c.in_err-reply.ensures)))

pub returns : goal.returns
returns g c =
    found_then (λ files. sized_in files c.args.network.now) (reply_to c.args.text.now) c.in_ok-named.named (Ok c.in_ok-reply.reply) _ _ c.in_ok-named.ensures.found (rw c.net.ensures.value at c.in_ok-reply.ensures)
