-- Where no line has to come, all bytes tell the same.
use Rattle.std.proofs.Common.{◌≡◌, Some, ap, sym, ◌∙◌}
use Rattle.cert_format.specs.Progress.{next_with}
use Rattle.cert_format.specs.Readers.{Reading}
use Rattle.cert_format.proofs.ReaderLaws.{told_is_fed}
use Rattle.cert_format.proofs.reader.Reader.feed_line.Goals as goal

pub returns-in-Some-told_at-clause-fed : goal.returns-in-Some-told_at-clause-fed
returns-in-Some-told_at-clause-fed c = λ text stands.
    let line : c.self.inside.line ≡ c.args.self.now.line = ap (λ (reading : Reading). reading.line) c.self.view_is in
    let taken : c.self.inside.taken ≡ c.args.self.now.taken = ap (λ (reading : Reading). reading.taken) c.self.view_is in
    let bytes : c.self.inside.unfinished.bytes ≡ c.args.self.now.bytes = ap (λ (reading : Reading). reading.bytes) c.self.view_is in
    let held : c.args.self.now.next ≡ Some c.in-Some.next = sym (ap (λ (reading : Reading). reading.next) c.self.view_is) ∙ sym c.in-Some.ensures.value in
    let fed =
    told_is_fed text c.args.piece.now c.args.self.now c.in-Some.next c.next_with-next.result c.in-Some-told_at.event stands held
    (c.next_with-next.ensures ∙ ap (λ number. next_with c.in-Some.next number c.args.piece.now) line) c.in-Some-told_at.ensures.told in
    rw (line, taken, bytes) fed
