use Rattle.cell_build.proofs.SpelledLaws.{spelled_is_named}
use Rattle.cell_build.proofs.laws.spelled_networks_are_valid_and_named.Goals as goal

pub returns : goal.returns
returns c = spelled_is_named
