use Rattle.std.proofs.Common.{◌≡◌, List, subst, sym}
use Rattle.std.specs.Prelude.{ℤ}
use Rattle.program_model.specs.Points.{program_of}
use Rattle.safe_bound.specs.Prices.{ArePrices}
use Rattle.seed_prices.specs.Seed.{seed_of}
use Rattle.seed_prices.proofs.PriceParts.{seed_added}
use Rattle.seed_prices.proofs.prices.seed.Goals as goal

pub returns-clause-value : goal.returns-clause-value
returns-clause-value c =
    seed_added c.args.net.now c.new-prices.result.items c.push_unpriced.new.prices.items c.push_steps.new.prices.items c.rule_row_count.result
    c.new-prices.ensures.items c.rule_row_count.ensures.value c.in_ok-push_unpriced.ensures c.in_ok-push_steps.ensures

pub returns-clause-lawful : goal.returns-clause-lawful
returns-clause-lawful c =
    let value : c.push_steps.new.prices.items ≡ seed_of c.args.net.now =
    seed_added c.args.net.now c.new-prices.result.items c.push_unpriced.new.prices.items c.push_steps.new.prices.items c.rule_row_count.result
    c.new-prices.ensures.items c.rule_row_count.ensures.value c.in_ok-push_unpriced.ensures c.in_ok-push_steps.ensures in
    subst (λ (prices : List ℤ). ArePrices (program_of c.args.net.now).rows prices) (sym value) (c.seeds_are_lawful.ensures c.args.net.now c.requires)
