use Rattle.std.proofs.Common.{◌∙◌, sym}
use Rattle.texts.specs.Lines.{lines_of}
use Rattle.cert_check.specs.inner.Standings.{standing_of}
use Rattle.cert_check.proofs.WalkedLaws.{broken_checker}
use Rattle.cert_check.proofs.line_checker.LineChecker.lines.Goals as goal

pub returns-clause-reached : goal.returns-clause-reached
returns-clause-reached c =
    c.lines.invariant.reached (standing_of c.lines.self)
    (broken_checker c.args.net.now c.lines.self.line c.lines.self (lines_of c.lines.rest.now) (sym c.is_broken.ensures ∙ c.lines-test.false))
