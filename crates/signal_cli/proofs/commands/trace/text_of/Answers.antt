-- Each line of the trace is of a cell of the network.
use Rattle.signal_cli.proofs.TraceCells.{lines_are_of_cells}
use Rattle.signal_cli.proofs.commands.trace.text_of.Goals as goal

pub trace_csv-requires : goal.trace_csv-requires
trace_csv-requires c = rw (c.in_ok-trace.ensures, c.net.ensures.value) (lines_are_of_cells _ _ _)
