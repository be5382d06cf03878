use Rattle.flow_switches.proofs.MoveLaws.{capped_within}
use Rattle.flow_switches.proofs.laws.a_capped_term_is_within_its_cap.Goals as goal

pub returns : goal.returns
returns c = capped_within
