-- How the text ends that the reader stands for.
use Rattle.std.proofs.Common.{◌≡◌, Some, ap, sym, ◌∙◌}
use Rattle.cert_format.specs.inner.LineReads.{ending_at}
use Rattle.cert_format.specs.Readers.{Reading}
use Rattle.cert_format.proofs.ReaderLaws.{ends_so}
use Rattle.cert_format.proofs.reader.Reader.finish.Goals as goal

pub returns : goal.returns
returns c = λ text stands.
    let line : c.self.inside.line ≡ c.args.self.line = ap (λ (reading : Reading). reading.line) c.self.view_is in
    let held : c.args.self.next ≡ Some c.in-Some.next = sym (ap (λ (reading : Reading). reading.next) c.self.view_is) ∙ c.in-Some.is in
    c.ending_at.ensures ∙ ap (ending_at c.in-Some.next) line ∙ ends_so text c.args.self c.in-Some.next stands held
