-- Nothing was said yet.
use Rattle.std.proofs.Common.{Some, ap}
use Rattle.cert_format.specs.Readers.{Reading}
use Rattle.cert_format.specs.declared.next.Next.TheVariants.{Head}
use Rattle.cert_format.proofs.ReaderLaws.{stands_for_nothing}
use Rattle.cert_format.proofs.reader.Reader.start.Goals as goal

pub returns-clause-stands : goal.returns-clause-stands
returns-clause-stands c =
    let start : _ → Reading = λ bytes. record { next = Some Head; line = 1; bytes = bytes; taken = 0 } in
    stands_for_nothing (start c.new.result.bytes) (ap start c.new.ensures.bytes)
