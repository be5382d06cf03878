-- A space is what is left of a line that names nothing.
use Rattle.std.proofs.Common.{arith, subst}
use Rattle.cert_format.specs.inner.SparePairs.{IsBroken}
use Rattle.cert_format.proofs.UnfinishedLaws.{space_reads}
use Rattle.cert_format.proofs.unfinished.shorten.Goals as goal

pub returns-in-None-clause-reads : goal.returns-in-None-clause-reads
returns-in-None-clause-reads c =
    space_reads c.args.most c.truncate-in-None.new.self.items c.args.kept.now.items c.truncate-in-None.ensures.items (omega (arith, c.requires.long)) (subst IsBroken c.as_slice.ensures.value c.in-None.ensures)
