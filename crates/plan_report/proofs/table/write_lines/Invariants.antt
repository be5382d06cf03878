-- The rows of the lines so far are written, and the next may begin.
use Rattle.std.proofs.Common.{take}
use Rattle.std.specs.Prelude.{flat_map}
use Rattle.std.specs.Io.KnownBytes.{Appends}
use Rattle.csv.specs.Writing.{text_written}
use Rattle.plan_report.specs.Table.{line_text}
use Rattle.plan_report.specs.inner.Writing.{IsBetween}
use Rattle.plan_report.proofs.table.write_lines.Given as goal

abbrev pub invariant-loop-line : goal.invariant-loop-line
invariant-loop-line g l = record {
  text : Appends (text_written g.W.Write.contents l.fn.writer) (text_written g.W.Write.contents l.writer) (flat_map (line_text l.net.names) (take l.line-index l.lines));
  between : IsBetween l.writer;
}
