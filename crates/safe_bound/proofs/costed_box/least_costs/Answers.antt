use Rattle.std.proofs.Common.{◌≤◌, ◌^◌, true, sym, arith}
use Rattle.std.specs.Prelude.{unsigned_abs}
use Rattle.std.specs.Int.{w128}
use Rattle.std.proofs.lemmas.Int.{fits_signed_from_abs, ints}
use Rattle.listed.proofs.WholeSums.{whole_sum_below-suc, whole_sum_below-zero}
use Rattle.certificate_model.specs.Value.{column_value, cost_counted}
use Rattle.safe_bound.proofs.CostedLaws.{first_costs-small}
use Rattle.safe_bound.proofs.costed_box.least_costs.Goals as goal

pub loop-j-init : goal.loop-j-init
loop-j-init c = sym (whole_sum_below-zero (λ k. column_value c.args.bounds.now (cost_counted c.args.program.now true k) k))

pub overflow_add-costs : goal.overflow_add-costs
overflow_add-costs c =
    let few = first_costs-small c.args.program.now true c.args.bounds.now c.loop-j.j c.is_program.ensures c.is_box.ensures (omega arith) c.requires.columns in
    let small : unsigned_abs c.loop-j.costs ≤ 2 ^ 70 = omega (arith, ints, few, c.loop-j.invariant) in
    fits_signed_from_abs w128 _ (omega (arith, ints, small, c.loop-j.costs-is, c.column_cost.ensures.small, c.from-costs.ensures))

pub loop-j-preserved : goal.loop-j-preserved
loop-j-preserved c =
    let more = whole_sum_below-suc c.loop-j.j (λ k. column_value c.args.bounds.now (cost_counted c.args.program.now true k) k) in
    let few = first_costs-small c.args.program.now true c.args.bounds.now c.loop-j.j c.is_program.ensures c.is_box.ensures (omega arith) c.requires.columns in
    let small : unsigned_abs c.loop-j.costs ≤ 2 ^ 70 = omega (arith, ints, few, c.loop-j.invariant) in
    omega (arith, ints, more, small, c.loop-j.invariant, c.loop-j.costs-is, c.column_cost.ensures, c.from-costs.ensures)
