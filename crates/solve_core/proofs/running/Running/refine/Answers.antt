use Rattle.std.proofs.Common.{◌≡◌, arith, inl}
use Rattle.std.proofs.lemmas.Int.{ints}
use Rattle.certificate_model.proofs.SafeLaws.{one_ceiling}
use Rattle.solve_core.proofs.running.Running.refine.Goals as goal

-- src/running.rt
pub close_priced-requires-clause-reaches : goal.close_priced-requires-clause-reaches
close_priced-requires-clause-reaches c n is =
    let same : c.number.result ≡ n = one_ceiling c.work.new.search.kept.value c.number.result n c.number.ensures is in
    inl (omega (arith, ints, same, c.from.ensures, c.if-number-from.true))
