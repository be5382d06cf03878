use Rattle.std.proofs.Common.{append_assoc, refl}
use Rattle.signal_cli.specs.PointLines.{refused_lines}
use Rattle.signal_cli.proofs.commands.point.refused_lines.Goals as goal

pub returns : goal.returns
unfolding refused_lines
returns c = rw (c.of.ensures, c.in_ok-format.ensures.ok) (simp append_assoc refl)
