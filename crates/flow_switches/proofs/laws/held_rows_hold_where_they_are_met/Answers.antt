use Rattle.flow_switches.proofs.MoveLaws.{held_rows_hold}
use Rattle.flow_switches.proofs.laws.held_rows_hold_where_they_are_met.Goals as goal

pub returns : goal.returns
returns c = held_rows_hold
