-- How far the lines of a text were walked.
use Rattle.std.specs.Prelude.{◌≡◌, ℕ, ◌+◌, false, List, length}
use Rattle.texts.specs.Lines.{behind_lines, lines_of}
use Rattle.ct_base.specs.declared.net.Net.{Net}
use Rattle.program_model.specs.Points.{program_of}
use Rattle.certificate_model.specs.Verdicts.{AtHead, Reaches}
use Rattle.cert_format.specs.Unfinished.{Kept, ReadsAs}
use Rattle.cert_check.specs.declared.line_checker.LineChecker.{LineChecker}
use Rattle.cert_check.specs.inner.Standings.{IsCheckerOf, is_broken, standing_of}

-- all lines of a text were walked, and bytes are kept of the line whose line feed has not come yet, which are read as that line is.
-- Where a line broke, neither the number of the next one nor what is kept of it counts
pub record HasWalked (net : Net) (checker : LineChecker) (kept : Kept) (text : List ℕ) : Type 0 where
  pub of : IsCheckerOf net checker
  pub reached : Reaches net 1 AtHead (lines_of text) (standing_of checker)
  pub number : is_broken checker.state ≡ false → checker.line ≡ length (lines_of text) + 1
  pub pairs : kept.most ≡ length (program_of net).rows + 1
  pub behind : is_broken checker.state ≡ false → ReadsAs kept.most kept.bytes (behind_lines text)
