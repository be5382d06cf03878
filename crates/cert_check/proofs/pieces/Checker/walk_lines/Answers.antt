use Rattle.cert_check.proofs.WalkedLaws.{lines_walked}
use Rattle.cert_check.proofs.pieces.Checker.walk_lines.Goals as goal

pub returns-clause-walked : goal.returns-clause-walked
returns-clause-walked c = λ text walked.
    lines_walked c.args.net.now c.args.self.now.lines c.lines.new.self c.args.self.now.unfinished c.add.new.self text c.args.bytes.now c.in_ok-behind.behind.now
    c.requires.none (c.add.ensures.most, c.in_ok-add.ensures.reads) walked
    c.in_ok-behind.ensures.of c.in_ok-behind.ensures.reached c.in_ok-behind.ensures.line c.in_ok-behind.ensures.behind
