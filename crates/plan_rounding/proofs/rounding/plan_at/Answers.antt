use Rattle.std.proofs.Common.{◌∙◌, ap, length}
use Rattle.std.specs.Prelude.{pos, slice_index_or}
use Rattle.listed.specs.Below.{table_of}
use Rattle.listed.proofs.TableLaws.{length-table_of}
use Rattle.plan_rounding.specs.Replayed.{plan_values}
use Rattle.plan_rounding.proofs.PlanLaws.{same_bits}
use Rattle.plan_rounding.proofs.rounding.plan_at.Goals as goal

pub plan_of_bits-requires-clause-columns : goal.plan_of_bits-requires-clause-columns
plan_of_bits-requires-clause-columns c =
    ap length (c.as_slice.ensures.value ∙ c.in_ok-values.ensures) ∙ length-table_of c.in_ok-columns.columns (λ column. slice_index_or c.args.point.now column (pos 0)) ∙ c.in_ok-columns.ensures

pub returns-clause-bits : goal.returns-clause-bits
returns-clause-bits c =
    same_bits c.args.net.now c.as_slice.result.now (plan_values c.args.net.now c.args.point.now) c.plan_of_bits.result
    (c.as_slice.ensures.value ∙ c.in_ok-values.ensures ∙ ap (λ n. table_of n (λ column. slice_index_or c.args.point.now column (pos 0))) c.in_ok-columns.ensures)
    c.plan_of_bits.ensures.bits
