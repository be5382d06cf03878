use Rattle.std.proofs.Common.{◌≡◌, ◌++◌, ◌∷◌, [], refl, arith, rules}
use Rattle.std.specs.Prelude.{neg_ℤ}
use Rattle.seed_prices.specs.Seed.{price_of_units}
use Rattle.seed_prices.proofs.PriceParts.{floors_of_split, split_added}
use Rattle.seed_prices.proofs.prices.push_split.Goals as goal

pub returns-in_ok-push_unpriced : goal.returns-in_ok-push_unpriced
returns-in_ok-push_unpriced c = λ cells t i.
    let priced : c.push.new.self.items ≡ c.args.prices.now.items ++ neg_ℤ (price_of_units 1) ∷ [] = search rules in
    split_added c.args.prices.now.items c.push.new.self.items c.push_unpriced.new.prices.items (neg_ℤ (price_of_units 1)) cells t i _ c.args.out.now c.in-Turns.field-0 c.in-Turns.is refl
    (omega (arith, floors_of_split c.args.out.now c.in-Turns.field-0 c.in-Turns.is, c.from-floors.ensures, c.columns_of_split.ensures.value))
    priced c.in_ok-push_unpriced.ensures
