use Rattle.std.proofs.Common.{◌≡◌, ap, ◌∙◌, arith}
use Rattle.std.specs.Prelude.{ℤ, pos, ◌*ℤ◌, ◌≤ℤ◌, ◌<ℤ◌}
use Rattle.std.proofs.lemmas.Int.{ints}
use Rattle.sparse_program.specs.Box.{high_of, low_of}
use Rattle.sparse_program.specs.Terms.{IsSmall}
use Rattle.safe_bound.proofs.CostedLaws.{least_at_high, least_at_low, product-small, product_fits, shown_product}
use Rattle.safe_bound.proofs.costed_box.column_value.Goals as goal

pub overflow_mul-result : goal.overflow_mul-result
overflow_mul-result c = product_fits c.args.cost c.from.result c.requires.few (omega (arith, ints))

pub overflow_mul-result-else-cost-ge0 : goal.overflow_mul-result-else-cost-ge0
overflow_mul-result-else-cost-ge0 c = product_fits c.args.cost c.from-else-cost-ge0.result c.requires.few (omega (arith, ints))

pub returns-then-cost-ge0-clause-value : goal.returns-then-cost-ge0-clause-value
returns-then-cost-ge0-clause-value c =
    let low : c.from.result ≡ low_of c.args.bounds.now c.args.j = omega (arith, ints) in
    let above : pos 0 ≤ℤ c.args.cost = grind (arith, ints) in
    shown_product c.args.cost c.from.result c.requires.few (omega (arith, ints)) ∙ ap (λ (z : ℤ). c.args.cost *ℤ z) low
    ∙ least_at_low c.args.cost (low_of c.args.bounds.now c.args.j) (high_of c.args.bounds.now c.args.j) above (omega (arith, ints))

pub returns-then-cost-ge0-clause-small : goal.returns-then-cost-ge0-clause-small
returns-then-cost-ge0-clause-small c =
    let small : IsSmall c.from.result = omega (arith, ints) in
    rw (shown_product c.args.cost c.from.result c.requires.few small) (product-small c.args.cost c.from.result small)

pub returns-else-cost-ge0-clause-value : goal.returns-else-cost-ge0-clause-value
returns-else-cost-ge0-clause-value c =
    let high : c.from-else-cost-ge0.result ≡ high_of c.args.bounds.now c.args.j = omega (arith, ints) in
    let below : c.args.cost <ℤ pos 0 = grind (arith, ints) in
    shown_product c.args.cost c.from-else-cost-ge0.result c.requires.few (omega (arith, ints)) ∙ ap (λ (z : ℤ). c.args.cost *ℤ z) high
    ∙ least_at_high c.args.cost (low_of c.args.bounds.now c.args.j) (high_of c.args.bounds.now c.args.j) below (omega (arith, ints))

pub returns-else-cost-ge0-clause-small : goal.returns-else-cost-ge0-clause-small
returns-else-cost-ge0-clause-small c =
    let small : IsSmall c.from-else-cost-ge0.result = omega (arith, ints) in
    rw (shown_product c.args.cost c.from-else-cost-ge0.result c.requires.few small) (product-small c.args.cost c.from-else-cost-ge0.result small)
