use Rattle.std.proofs.Common.{◌∙◌, sym}
use Rattle.cert_check.proofs.WalkedLaws.{broken_walked, kept_walked}
use Rattle.cert_check.proofs.pieces.Checker.walk_piece.Goals as goal

pub returns-then-is_broken-clause-walked : goal.returns-then-is_broken-clause-walked
returns-then-is_broken-clause-walked c = λ text walked.
    broken_walked c.args.net.now c.args.self.now.lines c.args.self.now.unfinished text c.args.piece.now walked
    (sym c.is_broken.ensures ∙ c.if-is_broken.true)

pub returns-in_ok-add-in-None-clause-walked : goal.returns-in_ok-add-in-None-clause-walked
returns-in_ok-add-in-None-clause-walked c = λ text walked.
    kept_walked c.args.net.now c.args.self.now.lines c.args.self.now.unfinished c.add.new.self text c.args.piece.now walked c.in-None.ensures.feeds
    (c.add.ensures.most, c.in_ok-add-in-None.ensures.reads)
