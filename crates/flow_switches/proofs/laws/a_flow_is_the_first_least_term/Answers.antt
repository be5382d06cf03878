use Rattle.flow_switches.proofs.MoveLaws.{first_least_term}
use Rattle.flow_switches.proofs.laws.a_flow_is_the_first_least_term.Goals as goal

pub returns : goal.returns
returns c = first_least_term
