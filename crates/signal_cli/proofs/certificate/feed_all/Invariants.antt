use Rattle.std.proofs.Common.{◌≡◌, ◌+◌, ◌-◌, ◌<◌, length}
use Rattle.certificate_model.specs.declared.constants.TheConstants.{MAX_CERTIFICATE_BYTES}
use Rattle.cert_check.specs.Fed.{taken_of}
use Rattle.signal_cli.specs.inner.Judgements.{IsReading}
use Rattle.signal_cli.proofs.certificate.feed_all.Given as goal

-- the checker stands for the front of the told file, and the shelf is as it was
abbrev pub invariant-pieces : goal.invariant-pieces
invariant-pieces g l = record {
  room : 0 < length l.buffer;
  reading : IsReading l.net (g.F.Shelf.state l.initial.shelf).files l.name l.checker;
  same : g.F.Shelf.state l.shelf ≡ g.F.Shelf.state l.initial.shelf;
}

-- each turn feeds a byte at least
abbrev pub decreases-pieces : goal.decreases-pieces
decreases-pieces g l = MAX_CERTIFICATE_BYTES + 1 - taken_of l.checker
