use Rattle.seed_prices.proofs.LawfulSeed.{seed_is_lawful}
use Rattle.seed_prices.proofs.laws.seeds_are_lawful.Goals as goal

pub returns : goal.returns
returns c = seed_is_lawful
