use Rattle.std.proofs.Common.{length, ap, ◌∙◌}
use Rattle.cert_check.proofs.judging.fixed.fixed_delay.Goals as goal

pub plan_of_bits-requires-clause-columns : goal.plan_of_bits-requires-clause-columns
plan_of_bits-requires-clause-columns c =
    let left = rw c.in-Some.is at c.in_ok-bits.ensures in
    ap length c.as_slice.ensures.value ∙ left.one_per_column
