use Rattle.solve_core.proofs.StepLaws.{closing_leaves_fewer, closing_makes_none, some_are_open, split_is_larger, split_leaves_more}
use Rattle.solve_core.proofs.laws.open_leaves_are_counted.Goals as goal

pub returns : goal.returns
returns c = record {
  some = some_are_open;
  closed = closing_leaves_fewer;
  split = split_leaves_more;
  same_size = closing_makes_none;
  larger = split_is_larger;
}
