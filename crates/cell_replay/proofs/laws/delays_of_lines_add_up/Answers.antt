use Rattle.cell_replay.proofs.Noting.{delays_of_trace}
use Rattle.cell_replay.proofs.laws.delays_of_lines_add_up.Goals as goal

pub returns : goal.returns
returns c = delays_of_trace
