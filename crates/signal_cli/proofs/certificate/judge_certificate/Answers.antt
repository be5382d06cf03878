-- What the file that was read comes to.
use Rattle.shelf_io.specs.declared.whole_file.ReadAll.TheVariants as ended
use Rattle.signal_cli.specs.declared.input.Content.TheVariants as content
use Rattle.certificate_model.specs.declared.constants.TheConstants.{MAX_CERTIFICATE_BYTES}
use Rattle.signal_cli.proofs.Pieces.{whole_judged}
use Rattle.signal_cli.proofs.Reading.{ended_found}
use Rattle.signal_cli.proofs.certificate.judge_certificate.Goals as goal

pub returns-in-Ok-clause-found : goal.returns-in-Ok-clause-found
returns-in-Ok-clause-found g c =
    whole_judged c.args.net.now c.args.name.now c.feed_all.new.checker c.finish.result (g.F.Shelf.state c.args.shelf.now) (g.F.Shelf.state c.feed_all.new.shelf) c.in-Ok.ensures.ok (c.finish.ensures.value c.args.net.now) c.in-Ok.ensures.same

pub returns-in-Err-TooLong-clause-found : goal.returns-in-Err-TooLong-clause-found
returns-in-Err-TooLong-clause-found g c =
    (content.TooLong, ended_found ended.TooLong (g.F.Shelf.state c.args.shelf.now) (g.F.Shelf.state c.feed_all.new.shelf) c.args.name.now MAX_CERTIFICATE_BYTES (rw c.in-Err-TooLong.field-0-is at c.in-Err-TooLong.ensures.err), tt)
