use Rattle.cert_check.proofs.WalkedLaws.{number_has_room}
use Rattle.std.proofs.Common.{length}
use Rattle.cert_check.proofs.pieces.Checker.feed.Goals as goal

pub walk_piece-requires-clause-few : goal.walk_piece-requires-clause-few
walk_piece-requires-clause-few c =
    number_has_room c.args.net.now c.args.self.now (length c.args.piece.now) c.requires.fed c.if-self.false c.requires.short
