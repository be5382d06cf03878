-- The network, the plan and the certificate that were read, and their reply.
use Rattle.std.proofs.lemmas.Result.{err_from_is_err_and}
use Rattle.std.specs.Prelude.{ℕ, List, Result, Ok, Err}
use Rattle.shelf_io.specs.Told.{Files}
use Rattle.certificate_model.specs.declared.constants.TheConstants.{MAX_CERTIFICATE_BYTES}
use Rattle.signal_cli.specs.Answers.{IsJudged, gap_reply, sized_planned_in, with_certificate}
use Rattle.signal_cli.specs.declared.fault.Fault.{Fault}
use Rattle.signal_cli.specs.declared.input.Content.{Content}
use Rattle.signal_cli.specs.declared.input.Planned.{Planned}
use Rattle.signal_cli.specs.declared.reply.Reply.{Reply}
use Rattle.signal_cli.proofs.Pieces.{is_judged}
use Rattle.signal_cli.proofs.Reading.{apart_from, content_found, differ_too, fault_follows, found_fault, reply_follows, sized_planned_beside}
use Rattle.signal_cli.proofs.commands.gap.gap.Goals as goal

-- what is read
abbrev read : List ℕ → List ℕ → List ℕ → Files → Result (Planned × Content) Fault
read network plan certificate files = with_certificate (sized_planned_in files network plan) files certificate

-- what is due to it
abbrev IsDue : Planned × Content → Reply → Type 0
IsDue read reply = IsJudged read.0.named.net (gap_reply read.0) read.1 reply

-- another name than those of the network and of the plan
abbrev Apart : List ℕ → List ℕ → List ℕ → Type 0
Apart network plan apart = apart_from network apart × apart_from plan apart

pub returns-in_err-planned : goal.returns-in_err-planned
returns-in_err-planned g c =
    let p = err_from_is_err_and c.from_residual.result c.from_residual.ensures.1 in
    rw p.1 (rw p.2 (fault_follows (read c.args.network.now c.args.plan.now c.args.certificate.now) IsDue c.in_err-planned.field-0.0 _ _
    (found_fault (λ files. sized_planned_in files c.args.network.now c.args.plan.now) (λ files (planned : Planned). with_certificate (Ok planned) files c.args.certificate.now) c.in_err-planned.field-0.0 _ _ c.in_err-planned.ensures.found)))

pub returns-in_err-judgement : goal.returns-in_err-judgement
returns-in_err-judgement g c =
    let p = err_from_is_err_and c.from_residual-in_err-judgement.result c.from_residual-in_err-judgement.ensures.1 in
    rw p.1 (rw p.2 (fault_follows (read c.args.network.now c.args.plan.now c.args.certificate.now) IsDue c.in_err-judgement.field-0.0 _ _
    (content_found MAX_CERTIFICATE_BYTES (λ files. sized_planned_in files c.args.network.now c.args.plan.now) (Apart c.args.network.now c.args.plan.now) (sized_planned_beside c.args.network.now c.args.plan.now c.requires.plan) c.args.certificate.now (differ_too c.args.network.now c.args.certificate.now c.requires.first, differ_too c.args.plan.now c.args.certificate.now c.requires.second) c.in_ok-planned.planned (Err c.in_err-judgement.field-0.0) _ _ _ c.in_ok-planned.ensures.found c.in_err-judgement.ensures.found)))

pub returns-in_err-reply : goal.returns-in_err-reply
returns-in_err-reply g c =
    let p = err_from_is_err_and c.from_residual-in_err-reply.result c.from_residual-in_err-reply.ensures.1 in
    rw p.1 (rw p.2 (content_found MAX_CERTIFICATE_BYTES (λ files. sized_planned_in files c.args.network.now c.args.plan.now) (Apart c.args.network.now c.args.plan.now) (sized_planned_beside c.args.network.now c.args.plan.now c.requires.plan) c.args.certificate.now (differ_too c.args.network.now c.args.certificate.now c.requires.first, differ_too c.args.plan.now c.args.certificate.now c.requires.second) c.in_ok-planned.planned (Ok c.in_ok-judgement.ensures.found.0) _ _ _ c.in_ok-planned.ensures.found c.in_ok-judgement.ensures.found.1).0)

pub returns : goal.returns
returns g c =
    reply_follows (read c.args.network.now c.args.plan.now c.args.certificate.now) IsDue (c.in_ok-planned.planned, c.in_ok-judgement.ensures.found.0) c.in_ok-reply.reply _ _
    (content_found MAX_CERTIFICATE_BYTES (λ files. sized_planned_in files c.args.network.now c.args.plan.now) (Apart c.args.network.now c.args.plan.now) (sized_planned_beside c.args.network.now c.args.plan.now c.requires.plan) c.args.certificate.now (differ_too c.args.network.now c.args.certificate.now c.requires.first, differ_too c.args.plan.now c.args.certificate.now c.requires.second) c.in_ok-planned.planned (Ok c.in_ok-judgement.ensures.found.0) _ _ _ c.in_ok-planned.ensures.found c.in_ok-judgement.ensures.found.1)
    (rw c.in_ok-reply.ensures (is_judged c.in_ok-planned.planned.named.net (gap_reply c.in_ok-planned.planned) c.in_ok-judgement.ensures.found.0 c.in_ok-judgement.judgement (rw c.net.ensures.value at c.in_ok-judgement.ensures.found.2)))
