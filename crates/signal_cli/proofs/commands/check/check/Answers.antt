-- The network and the certificate that were read, and their reply.
use Rattle.std.proofs.lemmas.Result.{err_from_is_err_and}
use Rattle.std.specs.Prelude.{ℕ, List, Result, Ok, Err}
use Rattle.certificate_model.specs.declared.constants.TheConstants.{MAX_CERTIFICATE_BYTES}
use Rattle.named_net.specs.Naming.{Named}
use Rattle.shelf_io.specs.Told.{Files}
use Rattle.signal_cli.specs.Answers.{IsJudged, check_reply, sized_in, with_certificate}
use Rattle.signal_cli.specs.declared.fault.Fault.{Fault}
use Rattle.signal_cli.specs.declared.input.Content.{Content}
use Rattle.signal_cli.specs.declared.reply.Reply.{Reply}
use Rattle.signal_cli.proofs.Pieces.{is_judged}
use Rattle.signal_cli.proofs.Reading.{apart_from, content_found, differ_too, fault_follows, found_fault, reply_follows, sized_beside}
use Rattle.signal_cli.proofs.commands.check.check.Goals as goal

-- what is read
abbrev read : List ℕ → List ℕ → Files → Result (Named × Content) Fault
read network certificate files = with_certificate (sized_in files network) files certificate

-- what is due to it
abbrev IsDue : Named × Content → Reply → Type 0
IsDue read reply = IsJudged read.0.net check_reply read.1 reply

pub returns-in_err-named : goal.returns-in_err-named
returns-in_err-named g c =
    let p = err_from_is_err_and c.from_residual.result c.from_residual.ensures.1 in
    rw p.1 (rw p.2 (fault_follows (read c.args.network.now c.args.certificate.now) IsDue c.in_err-named.field-0.0 _ _
    (found_fault (λ files. sized_in files c.args.network.now) (λ files (named : Named). with_certificate (Ok named) files c.args.certificate.now) c.in_err-named.field-0.0 _ _ c.in_err-named.ensures.found)))

pub returns-in_err-judgement : goal.returns-in_err-judgement
returns-in_err-judgement g c =
    let p = err_from_is_err_and c.from_residual-in_err-judgement.result c.from_residual-in_err-judgement.ensures.1 in
    rw p.1 (rw p.2 (fault_follows (read c.args.network.now c.args.certificate.now) IsDue c.in_err-judgement.field-0.0 _ _
    (content_found MAX_CERTIFICATE_BYTES (λ files. sized_in files c.args.network.now) (apart_from c.args.network.now) (sized_beside c.args.network.now) c.args.certificate.now (differ_too c.args.network.now c.args.certificate.now c.requires) c.in_ok-named.named (Err c.in_err-judgement.field-0.0) _ _ _ c.in_ok-named.ensures.found c.in_err-judgement.ensures.found)))

pub returns-in_err-reply : goal.returns-in_err-reply
returns-in_err-reply g c =
    let p = err_from_is_err_and c.from_residual-in_err-reply.result c.from_residual-in_err-reply.ensures.1 in
    rw p.1 (rw p.2 (content_found MAX_CERTIFICATE_BYTES (λ files. sized_in files c.args.network.now) (apart_from c.args.network.now) (sized_beside c.args.network.now) c.args.certificate.now (differ_too c.args.network.now c.args.certificate.now c.requires) c.in_ok-named.named (Ok c.in_ok-judgement.ensures.found.0) _ _ _ c.in_ok-named.ensures.found c.in_ok-judgement.ensures.found.1).0)

pub returns : goal.returns
returns g c =
    reply_follows (read c.args.network.now c.args.certificate.now) IsDue (c.in_ok-named.named, c.in_ok-judgement.ensures.found.0) c.in_ok-reply.reply _ _
    (content_found MAX_CERTIFICATE_BYTES (λ files. sized_in files c.args.network.now) (apart_from c.args.network.now) (sized_beside c.args.network.now) c.args.certificate.now (differ_too c.args.network.now c.args.certificate.now c.requires) c.in_ok-named.named (Ok c.in_ok-judgement.ensures.found.0) _ _ _ c.in_ok-named.ensures.found c.in_ok-judgement.ensures.found.1)
    (rw c.in_ok-reply.ensures (is_judged c.in_ok-named.named.net check_reply c.in_ok-judgement.ensures.found.0 c.in_ok-judgement.judgement (rw c.net.ensures.value at c.in_ok-judgement.ensures.found.2)))
