use Rattle.std.proofs.Common.{◌≡◌, ◌++◌, ◌∷◌, [], ap, ◌∙◌, arith, rules}
use Rattle.traffic_model.specs.Flow.{units_of_flow}
use Rattle.seed_prices.specs.Seed.{price_of_units}
use Rattle.seed_prices.proofs.PriceParts.{move_added, two_terms}
use Rattle.seed_prices.proofs.prices.push_move.Goals as goal

pub returns : goal.returns
returns c = λ terms long.
    let priced : c.push.new.self.items ≡ c.push_unpriced.new.prices.items ++ price_of_units c.units_of_flow.result ∷ [] = search rules in
    move_added c.args.prices.now.items c.push_unpriced.new.prices.items c.push.new.self.items c.push_unpriced-2.new.prices.items (price_of_units (units_of_flow c.args.out.now)) terms _
    (omega (arith, long, two_terms c.args.out.now)) (omega (arith, long, c.from-terms.ensures, c.term_count.ensures.value)) c.in_ok-push_unpriced.ensures
    (priced ∙ ap (λ n. c.push_unpriced.new.prices.items ++ price_of_units n ∷ []) c.units_of_flow.ensures.value)
    c.in_ok-push_unpriced-2.ensures
