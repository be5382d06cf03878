use Rattle.std.proofs.Common.{append_assoc, refl}
use Rattle.signal_cli.specs.RejectionLines.{rejected_lines}
use Rattle.signal_cli.proofs.commands.rejection.lines_of.Goals as goal

pub returns : goal.returns
unfolding rejected_lines
returns c = rw (c.of.ensures, c.in_ok-format.ensures.ok, c.in_ok-why.ensures) (simp append_assoc refl)
