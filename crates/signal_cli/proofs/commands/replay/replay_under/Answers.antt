-- The network and the plan that were read, and their reply.
use Rattle.std.proofs.lemmas.Result.{err_from_is_err_and}
use Rattle.std.specs.Prelude.{Result, Ok, Err}
use Rattle.signal_cli.specs.Answers.{planned_in, printed, replay_lines}
use Rattle.signal_cli.specs.declared.fault.Fault.{Fault}
use Rattle.signal_cli.specs.declared.input.Planned.{Planned}
use Rattle.signal_cli.specs.declared.reply.Reply.{Reply}
use Rattle.signal_cli.proofs.Reading.{found_fault, found_then}
use Rattle.signal_cli.proofs.commands.replay.replay_under.Goals as goal

-- what is made of a network and a plan
abbrev reply_of : Planned → Result Reply Fault
reply_of planned = Ok (printed (replay_lines planned.named.net planned.plan.words))

pub returns-in_err-planned : goal.returns-in_err-planned
returns-in_err-planned g c =
    let p = err_from_is_err_and c.from_residual.result c.from_residual.ensures.1 in
    rw p.1 (rw p.2 (found_fault (λ files. planned_in files c.args.network.now c.args.plan.now) (λ _. reply_of) c.in_err-planned.field-0.0 _ _ c.in_err-planned.ensures.found))

pub returns-in_err-reply : goal.returns-in_err-reply
returns-in_err-reply g c =
    let p = err_from_is_err_and c.from_residual-in_err-reply.result c.from_residual-in_err-reply.ensures.1 in
    rw p.1 (rw p.2 (found_then (λ files. planned_in files c.args.network.now c.args.plan.now) reply_of c.in_ok-planned.planned (Err c.in_err-reply.field-0.0) _ _ c.in_ok-planned.ensures.found (rw c.net.ensures.value at c.in_err-reply.ensures)))

pub returns : goal.returns
returns g c =
    found_then (λ files. planned_in files c.args.network.now c.args.plan.now) reply_of c.in_ok-planned.planned (Ok c.in_ok-reply.reply) _ _ c.in_ok-planned.ensures.found (rw c.net.ensures.value at c.in_ok-reply.ensures)
