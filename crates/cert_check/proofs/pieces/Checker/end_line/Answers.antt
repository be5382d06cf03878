use Rattle.std.proofs.Common.{List, ℕ, subst}
use Rattle.certificate_model.specs.Verdicts.{After}
use Rattle.cert_check.specs.inner.Standings.{standing_of}
use Rattle.cert_check.proofs.WalkedLaws.{line_walked}
use Rattle.cert_check.proofs.pieces.Checker.end_line.Goals as goal

pub returns-clause-walked : goal.returns-clause-walked
returns-clause-walked c = λ text walked lacks.
    line_walked c.args.net.now c.args.self.now.lines c.line.new.self c.args.self.now.unfinished c.add.new.self c.clear.new.self text c.args.bytes.now
    walked c.requires.whole lacks (c.add.ensures.most, c.in_ok-add.ensures.reads) c.in_ok-line.ensures.of
    (subst (λ (line : List ℕ). After c.args.net.now c.args.self.now.lines.line (standing_of c.args.self.now.lines) line (standing_of c.line.new.self))
    c.as_slice.ensures.bytes c.in_ok-line.ensures.after)
    c.in_ok-line.ensures.next c.clear.ensures.bytes c.clear.ensures.most
