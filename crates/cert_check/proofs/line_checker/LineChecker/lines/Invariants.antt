use Rattle.std.proofs.Common.{◌≡◌, ◌+◌, ◌<◌, ◌^◌, length}
use Rattle.texts.specs.Lines.{behind_lines, lines_of}
use Rattle.certificate_model.specs.Verdicts.{Reaches, Standing}
use Rattle.cert_check.specs.inner.Standings.{IsCheckerOf, standing_of}
use Rattle.cert_check.proofs.line_checker.LineChecker.lines.Given as goal

abbrev pub invariant-lines : goal.invariant-lines
invariant-lines l = record {
  of : IsCheckerOf l.net l.self;
  few : l.self.line + length l.rest < 2 ^ 64;
  reached : (last : Standing) → Reaches l.net l.self.line (standing_of l.self) (lines_of l.rest) last →
      Reaches l.net l.initial.self.line (standing_of l.initial.self) (lines_of l.text) last;
  line : l.self.line + length (lines_of l.rest) ≡ l.initial.self.line + length (lines_of l.text);
  behind : behind_lines l.rest ≡ behind_lines l.text;
}

abbrev pub decreases-lines : goal.decreases-lines
decreases-lines l = length l.rest
