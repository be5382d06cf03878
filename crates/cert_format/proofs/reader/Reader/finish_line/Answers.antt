-- The whole line is read as the bytes that are kept of it.
use Rattle.std.proofs.Common.{◌++◌, ◌+◌, ◌≤◌, arith, length, length-append, subst, sym}
use Rattle.cert_format.specs.Readers.{Reading}
use Rattle.cert_format.specs.Unfinished.{ReadsAs}
use Rattle.cert_format.specs.declared.reader.TheConstants.{ALL_PAIRS}
use Rattle.cert_format.specs.inner.LineReads.{IsLineRead}
use Rattle.cert_format.proofs.ReaderLaws.{line_is_read}
use Rattle.cert_format.proofs.reader.Reader.finish_line.Goals as goal

pub returns-clause-read : goal.returns-clause-read
returns-clause-read c = λ line.
    let added = subst (λ most. ReadsAs most c.self.inside.unfinished.bytes line → ReadsAs most c.add.new.self.bytes (line ++ c.args.part.now)) c.self.invariant.0 (c.in_ok-add.ensures.reads line) in
    subst
    (λ (reading : Reading). ReadsAs ALL_PAIRS reading.bytes line → length line + length c.args.part.now ≤ ALL_PAIRS → IsLineRead c.args.next reading.line (line ++ c.args.part.now) c.in_ok-read.read.0 c.in_ok-read.read.1)
    c.self.view_is
    (λ reads few.
    line_is_read ALL_PAIRS c.self.inside.line c.args.next c.in_ok-read.read.0 c.in_ok-read.read.1 c.as_slice-line.result.now (line ++ c.args.part.now)
    (subst (λ bytes. ReadsAs ALL_PAIRS bytes (line ++ c.args.part.now)) (sym c.as_slice-line.ensures.bytes) (added reads))
    (omega arith) (omega (arith, length-append line c.args.part.now)) c.in_ok-read.ensures.read)
