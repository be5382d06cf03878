-- A line that ends is read, and bytes of one that does not are added.
use Rattle.std.proofs.Common.{◌≡◌, ◌++◌, [], ap, subst, ◌∙◌}
use Rattle.cert_format.specs.Readers.{Reading}
use Rattle.cert_format.specs.Unfinished.{ReadsAs}
use Rattle.cert_format.specs.declared.reader.TheConstants.{ALL_PAIRS}
use Rattle.cert_format.proofs.ReaderLaws.{bytes_are_fed, line_is_fed}
use Rattle.cert_format.proofs.reader.Reader.feed_awaited.Goals as goal

pub returns-in_ok-next-in-Some-clause-fed : goal.returns-in_ok-next-in-Some-clause-fed
returns-in_ok-next-in-Some-clause-fed c = λ text stands.
    let line : c.self.inside.line ≡ c.args.self.now.line = ap (λ (reading : Reading). reading.line) c.self.view_is ∙ c.in_ok-next-in-Some.ensures.same.1 in
    let taken : c.self.inside.taken ≡ c.args.self.now.taken = ap (λ (reading : Reading). reading.taken) c.self.view_is ∙ c.in_ok-next-in-Some.ensures.same.2 in
    let bytes : c.self.inside.unfinished.bytes ≡ [] = ap (λ (reading : Reading). reading.bytes) c.self.view_is ∙ c.in_ok-next-in-Some.ensures.bytes in
    let fed =
    line_is_fed text c.args.piece.now c.in-Some.part.now c.in-Some.behind.now c.args.self.now c.args.next c.in_ok-next-in-Some.next c.in_ok-next-in-Some.event stands c.requires.awaited c.in-Some.ensures c.requires.few
    c.in_ok-next-in-Some.ensures.read in
    rw (line, taken, bytes) fed

pub returns-in_ok-add-in-None-clause-fed : goal.returns-in_ok-add-in-None-clause-fed
returns-in_ok-add-in-None-clause-fed c = λ text stands.
    let line : c.self-in-None.inside.line ≡ c.args.self.now.line = ap (λ (reading : Reading). reading.line) c.self-in-None.view_is in
    let taken : c.self-in-None.inside.taken ≡ c.args.self.now.taken = ap (λ (reading : Reading). reading.taken) c.self-in-None.view_is in
    let bytes : c.self-in-None.inside.unfinished.bytes ≡ c.args.self.now.bytes = ap (λ (reading : Reading). reading.bytes) c.self-in-None.view_is in
    let fed =
    bytes_are_fed text c.args.piece.now c.add.new.self.bytes c.args.self.now c.args.next stands c.requires.awaited c.in-None.ensures
    (λ line.
    subst (λ bytes. ReadsAs ALL_PAIRS bytes line → ReadsAs ALL_PAIRS c.add.new.self.bytes (line ++ c.args.piece.now)) bytes
    (subst (λ most. ReadsAs most c.self-in-None.inside.unfinished.bytes line → ReadsAs most c.add.new.self.bytes (line ++ c.args.piece.now)) c.self-in-None.invariant.0 (c.in_ok-add-in-None.ensures.reads line))) in
    rw (line, taken) fed
