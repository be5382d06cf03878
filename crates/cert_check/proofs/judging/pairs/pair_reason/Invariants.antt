use Rattle.std.proofs.Common.{◌≡◌, drop}
use Rattle.certificate_model.specs.Reasons.{pair_reasons}
use Rattle.cert_check.proofs.judging.pairs.pair_reason.Given as goal

abbrev pub invariant-loop-pair : goal.invariant-loop-pair
invariant-loop-pair l = pair_reasons l.program.rows 0 l.pairs ≡ pair_reasons l.program.rows l.next (drop l.pair-index l.pairs)
