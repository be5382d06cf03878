-- What the lines that are left come to, behind those that were read, is what all come to.
use Rattle.std.proofs.Common.{◌≡◌, ◌+◌, ◌≤◌, length}
use Rattle.plan_file.specs.Lines.{lines_in}
use Rattle.plan_file.specs.inner.Scan.{at_first, scan}
use Rattle.plan_file.specs.inner.State.{IsReading, progress_of}
use Rattle.plan_file.proofs.reader.read_lines.Given as goal

abbrev pub invariant-loop-bytes : goal.invariant-loop-bytes
invariant-loop-bytes l = record {
  same : scan l.named l.number (progress_of l.reading) (lines_in l.rest) ≡ scan l.named 2 at_first (lines_in l.fn.text);
  reading : IsReading l.named l.reading;
  count : l.number + length l.rest ≤ length l.fn.text + 2;
}

abbrev pub decreases-loop-bytes : goal.decreases-loop-bytes
decreases-loop-bytes l = length l.rest
