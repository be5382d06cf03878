use Rattle.std.proofs.Common.{◌≡◌, arith}
use Rattle.std.specs.Prelude.{pos, slice_index_or}
use Rattle.listed.proofs.TableLaws.{length-table_of}
use Rattle.program_model.specs.Numbers.{plan_count}
use Rattle.plan_rounding.specs.Replayed.{delay_in, plan_values}
use Rattle.plan_rounding.proofs.PlanLaws.{same_bits_same_delay}
use Rattle.plan_rounding.proofs.rounding.round.Goals as goal

pub returns-in_ok-found-in-Some-clause-point : goal.returns-in_ok-found-in-Some-clause-point
returns-in_ok-found-in-Some-clause-point c = λ plan admissible bits.
    let same : delay_in c.args.net.now c.in-Some.plan ≡ delay_in c.args.net.now plan =
    same_bits_same_delay c.args.net.now c.in-Some.plan plan (plan_values c.args.net.now c.args.point.now) c.requires.valid
    (rw c.in-Some.is at c.in_ok-plan.ensures.admissible) admissible
    (length-table_of (plan_count c.args.net.now) (λ column. slice_index_or c.args.point.now column (pos 0)))
    (rw c.in-Some.is at c.in_ok-plan.ensures.bits) bits in
    omega (arith, c.better.ensures.second, c.in_ok-found-in-Some.ensures.no_worse, same)
