use Rattle.signal_cli.proofs.Reading.{ended_found, whole_seen}
use Rattle.signal_cli.proofs.input.read_content.Goals as goal

pub returns-in-Ok : goal.returns-in-Ok
returns-in-Ok g c =
    (c.in-Ok.ensures.same, rw c.of.ensures (whole_seen (g.F.Shelf.state c.args.shelf.now).files c.args.name.now c.in-Ok.bytes.items c.args.limit c.in-Ok.ensures.within c.in-Ok.ensures.ok))

pub returns-in-Err : goal.returns-in-Err
returns-in-Err g c =
    rw c.ended.ensures (ended_found c.in-Err.end (g.F.Shelf.state c.args.shelf.now) (g.F.Shelf.state c.read_all.new.shelf) c.args.name.now c.args.limit c.in-Err.ensures.err)
