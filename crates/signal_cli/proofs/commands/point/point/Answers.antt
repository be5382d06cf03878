-- The network and the file of the point that were read, and their reply.
use Rattle.std.proofs.lemmas.Result.{err_from_is_err_and}
use Rattle.std.specs.Prelude.{ℕ, List, Result, Ok, Err}
use Rattle.shelf_io.specs.Told.{Files}
use Rattle.named_net.specs.Naming.{Named}
use Rattle.program_text.specs.declared.constants.TheConstants.{MAX_POINT_BYTES}
use Rattle.signal_cli.specs.Answers.{IsPointReply, sized_in, with_content}
use Rattle.signal_cli.specs.declared.fault.Fault.{Fault}
use Rattle.signal_cli.specs.declared.input.Content.{Content}
use Rattle.signal_cli.specs.declared.reply.Reply.{Reply}
use Rattle.signal_cli.proofs.Reading.{apart_from, content_found, differ_too, fault_follows, found_fault, reply_follows, sized_beside}
use Rattle.signal_cli.proofs.commands.point.point.Goals as goal

-- what is read
abbrev read : List ℕ → List ℕ → Files → Result (Named × Content) Fault
read network point files = with_content MAX_POINT_BYTES (sized_in files network) files point

-- what is due to it
abbrev IsDue : Named × Content → Reply → Type 0
IsDue read reply = IsPointReply read.0 read.1 reply

pub returns-in_err-named : goal.returns-in_err-named
returns-in_err-named g c =
    let p = err_from_is_err_and c.from_residual.result c.from_residual.ensures.1 in
    rw p.1 (rw p.2 (fault_follows (read c.args.network.now c.args.point.now) IsDue c.in_err-named.field-0.0 _ _
    (found_fault (λ files. sized_in files c.args.network.now) (λ files (named : Named). with_content MAX_POINT_BYTES (Ok named) files c.args.point.now) c.in_err-named.field-0.0 _ _ c.in_err-named.ensures.found)))

pub returns-in_err-content : goal.returns-in_err-content
returns-in_err-content g c =
    let p = err_from_is_err_and c.from_residual-in_err-content.result c.from_residual-in_err-content.ensures.1 in
    rw p.1 (rw p.2 (fault_follows (read c.args.network.now c.args.point.now) IsDue c.in_err-content.field-0.0 _ _
    (content_found MAX_POINT_BYTES (λ files. sized_in files c.args.network.now) (apart_from c.args.network.now) (sized_beside c.args.network.now) c.args.point.now (differ_too c.args.network.now c.args.point.now c.requires) c.in_ok-named.named (Err c.in_err-content.field-0.0) _ _ _ c.in_ok-named.ensures.found c.in_err-content.ensures)))

pub returns-in_err-reply : goal.returns-in_err-reply
returns-in_err-reply g c =
    let p = err_from_is_err_and c.from_residual-in_err-reply.result c.from_residual-in_err-reply.ensures.1 in
    rw p.1 (rw p.2 (content_found MAX_POINT_BYTES (λ files. sized_in files c.args.network.now) (apart_from c.args.network.now) (sized_beside c.args.network.now) c.args.point.now (differ_too c.args.network.now c.args.point.now c.requires) c.in_ok-named.named (Ok c.in_ok-content.content) _ _ _ c.in_ok-named.ensures.found c.in_ok-content.ensures).0)

pub returns : goal.returns
returns g c =
    reply_follows (read c.args.network.now c.args.point.now) IsDue (c.in_ok-named.named, c.in_ok-content.content) c.in_ok-reply.reply _ _
    (content_found MAX_POINT_BYTES (λ files. sized_in files c.args.network.now) (apart_from c.args.network.now) (sized_beside c.args.network.now) c.args.point.now (differ_too c.args.network.now c.args.point.now c.requires) c.in_ok-named.named (Ok c.in_ok-content.content) _ _ _ c.in_ok-named.ensures.found c.in_ok-content.ensures)
    c.in_ok-reply.ensures
