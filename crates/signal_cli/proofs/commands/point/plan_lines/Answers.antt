use Rattle.std.proofs.Common.{append_assoc, refl}
use Rattle.signal_cli.specs.PointLines.{decoded_lines}
use Rattle.signal_cli.proofs.commands.point.plan_lines.Goals as goal

pub returns : goal.returns
unfolding decoded_lines
returns c = rw (c.of.ensures, c.in_ok-format.ensures.ok) (simp append_assoc refl)
