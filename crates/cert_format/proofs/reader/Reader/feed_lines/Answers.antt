-- What comes behind the first line tells the event.
use Rattle.std.proofs.Common.{◌++◌, subst, take}
use Rattle.std.proofs.lemmas.List.{take_rest}
use Rattle.cert_format.specs.Readers.{IsFed}
use Rattle.cert_format.proofs.ReaderLaws.{fed_twice}
use Rattle.cert_format.proofs.reader.Reader.feed_lines.Goals as goal

pub returns-in_ok-more-in-More-clause-fed : goal.returns-in_ok-more-in-More-clause-fed
returns-in_ok-more-in-More-clause-fed c = λ text stands.
    let first = c.in_ok-count.ensures.fed text stands in
    fed_twice text c.args.piece.now c.in_ok-count.count c.in_ok-more-in-More.more c.in_ok-more-in-More.event c.feed_line.new.self c.feed_line-in-More.new.self
    (subst (λ told. IsFed text (take c.in_ok-count.count c.args.piece.now) told c.feed_line.new.self) c.in-More.is first)
    (subst (λ rest. IsFed (text ++ take c.in_ok-count.count c.args.piece.now) (take c.in_ok-more-in-More.more rest) c.in_ok-more-in-More.event c.feed_line-in-More.new.self)
    (take_rest c.args.piece.now c.in_ok-count.count) (c.in_ok-more-in-More.ensures.fed (text ++ take c.in_ok-count.count c.args.piece.now) first.stands))
