use Rattle.std.proofs.Common.{◌≡◌, ◌≤◌, ◌^◌, ap, ◌∙◌, arith}
use Rattle.std.specs.Prelude.{ℤ, pos, ◌+ℤ◌, ◌-ℤ◌, unsigned_abs, slice_set}
use Rattle.std.specs.Int.{w64, w128}
use Rattle.std.proofs.lemmas.Int.{fits_signed_from_abs, ints, to_z-of_z}
use mir.Val.{of_z, to_z}
use Rattle.certificate_model.specs.Value.{column_value, cost_counted}
use Rattle.safe_bound.specs.inner.Paid.{least_left, paid_at}
use Rattle.safe_bound.proofs.PaidLaws.{least_left-settled}
use Rattle.safe_bound.proofs.costed_box.settle_column.Goals as goal

pub overflow_sub-result : goal.overflow_sub-result
overflow_sub-result c =
    let owed : unsigned_abs (paid_at c.args.paid.now c.args.j) ≤ 2 ^ 79 = c.requires.light.each c.args.j (omega arith) in
    let cost : unsigned_abs (to_z w128 (of_z w128 c.from.result)) ≤ 2 ^ 30 = omega (arith, ints, c.cost_of-cost.ensures.small, c.from.ensures) in
    let less : unsigned_abs (to_z w128 (of_z w128 (to_z w128 (of_z w128 c.from.result) -ℤ to_z w128 (of_z w128 (paid_at c.args.paid.now c.args.j))))) ≤ 2 ^ 80 = omega (arith, ints, owed, cost) in
    let first : unsigned_abs c.column_value.result ≤ 2 ^ 100 = omega (arith, less, c.column_value.ensures.small) in
    let second : unsigned_abs c.from-2.result ≤ 2 ^ 50 = omega (arith, ints, c.cost_value.ensures.small, c.from-2.ensures) in
    fits_signed_from_abs w128 _ (omega (arith, ints, first, second))

pub returns-clause-value : goal.returns-clause-value
returns-clause-value c =
    let owed : unsigned_abs (paid_at c.args.paid.now c.args.j) ≤ 2 ^ 79 = c.requires.light.each c.args.j (omega arith) in
    let cost : to_z w128 (of_z w128 c.from.result) ≡ cost_counted c.args.program.now c.args.with_cost c.args.j = omega (arith, ints, c.cost_of-cost.ensures, c.from.ensures) in
    let less : to_z w128 (of_z w128 (to_z w128 (of_z w128 c.from.result) -ℤ to_z w128 (of_z w128 (paid_at c.args.paid.now c.args.j)))) ≡
    cost_counted c.args.program.now c.args.with_cost c.args.j -ℤ paid_at c.args.paid.now c.args.j =
    omega (arith, ints, owed, cost, c.cost_of-cost.ensures.small, c.cost_of-cost.ensures.value) in
    let first : to_z w128 (of_z w128 c.column_value.result) ≡ column_value c.args.bounds.now (cost_counted c.args.program.now c.args.with_cost c.args.j -ℤ paid_at c.args.paid.now c.args.j) c.args.j =
    to_z-of_z w128 c.column_value.result (record { sfits = c.column_value.type_inv }) ∙ c.column_value.ensures.value ∙ ap (λ (z : ℤ). column_value c.args.bounds.now z c.args.j) less in
    let same : c.cost_of-cost.result ≡ cost_counted c.args.program.now c.args.with_cost c.args.j = c.cost_of-cost.ensures.value in
    let arg : to_z w64 (of_z w64 c.cost_of-cost.result) ≡ c.cost_of-cost.result = omega (arith, ints, c.cost_of-cost.ensures.small) in
    let kept : c.cost_value.result ≡ column_value c.args.bounds.now (cost_counted c.args.program.now c.args.with_cost c.args.j) c.args.j =
    c.cost_value.ensures.value ∙ ap (λ (z : ℤ). column_value c.args.bounds.now z c.args.j) (arg ∙ same) in
    let wide : to_z w128 (of_z w128 c.from-2.result) ≡ c.cost_value.result = omega (arith, ints, c.cost_value.ensures.small, c.from-2.ensures) in
    let second : to_z w128 (of_z w128 c.from-2.result) ≡ column_value c.args.bounds.now (cost_counted c.args.program.now c.args.with_cost c.args.j) c.args.j = wide ∙ kept in
    let shown = to_z-of_z w128 _ (overflow_sub-result c) in
    let difference = shown ∙ ap (λ (z : ℤ). z -ℤ to_z w128 (of_z w128 c.from-2.result)) first ∙ ap (λ (z : ℤ). column_value c.args.bounds.now (cost_counted c.args.program.now c.args.with_cost c.args.j -ℤ paid_at c.args.paid.now c.args.j) c.args.j -ℤ z) second in
    ap (λ (z : ℤ). z +ℤ least_left c.args.program.now c.args.with_cost c.args.bounds.now (slice_set c.args.paid.now c.args.j (pos 0))) difference
    ∙ least_left-settled c.args.program.now c.args.with_cost c.args.bounds.now c.args.paid.now c.args.j c.requires.there c.requires.long
