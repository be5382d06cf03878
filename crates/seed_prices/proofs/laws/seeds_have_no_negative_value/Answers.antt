use Rattle.seed_prices.proofs.ValueLaw.{seed_value}
use Rattle.seed_prices.proofs.laws.seeds_have_no_negative_value.Goals as goal

pub returns : goal.returns
returns c = seed_value
