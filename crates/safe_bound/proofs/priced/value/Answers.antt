use Rattle.std.proofs.Common.{arith}
use Rattle.std.proofs.lemmas.Int.{ints}
use Rattle.safe_bound.specs.Prices.{price_at}
use Rattle.safe_bound.proofs.PriceLaws.{value-below_none, value-below_objective, value-sums}
use Rattle.safe_bound.proofs.priced.value.Goals as goal

pub returns-clause-value : goal.returns-clause-value
returns-clause-value c = omega (arith, ints, value-sums c.args.program.now c.args.with_cost c.args.bounds.now c.args.prices.now)

pub returns-clause-below : goal.returns-clause-below
returns-clause-below c x costs inside holds =
    let is = returns-clause-value c in
    let below = value-below_objective c.args.program.now c.args.bounds.now (price_at c.args.prices.now) x c.is_program.ensures c.requires.lawful.signed inside holds in
    rw (is, costs) below

pub returns-clause-empty : goal.returns-clause-empty
returns-clause-empty c x none inside holds =
    let is = returns-clause-value c in
    let below = value-below_none c.args.program.now c.args.bounds.now (price_at c.args.prices.now) x c.is_program.ensures c.requires.lawful.signed inside holds in
    rw (is, none) below
