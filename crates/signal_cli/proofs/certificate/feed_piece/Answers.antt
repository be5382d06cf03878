-- The checker is fed the piece that was read where its text ends.
use Rattle.std.proofs.Common.{arith, inl}
use Rattle.signal_cli.proofs.Pieces.{has_fed}
use Rattle.signal_cli.proofs.certificate.feed_piece.Goals as goal

pub feed-requires-clause-fed : goal.feed-requires-clause-fed
feed-requires-clause-fed g c = inl (c.requires.reading.text, c.requires.reading.stands)

pub returns-in-Ok-clause-ok : goal.returns-in-Ok-clause-ok
returns-in-Ok-clause-ok g c =
    has_fed c.args.net.now (g.F.Shelf.state c.args.shelf.now).files c.args.name.now c.read.new.into c.in_ok-count.count c.args.checker.now c.feed.new.self c.requires.reading (omega arith) c.in_ok-count.ensures.count (omega arith) (rw c.taken-taken.ensures at c.in_ok-count.ensures.bytes) (c.in-Ok.ensures.stands c.requires.reading.text c.requires.reading.stands)
