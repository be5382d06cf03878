-- Two lines.
use Rattle.std.proofs.Common.{append_assoc}
use Rattle.std.specs.Prelude.{string_bytes}
use Rattle.generated_nets.proofs.TextLaws.{top_is_added}
use Rattle.generated_nets.proofs.network.push_top.Goals as goal

pub returns : goal.returns
returns c = top_is_added (string_bytes c.args.text.now) (string_bytes c.write.new.self) c.args.number (simp (c.steps-steps.ensures, append_assoc) at c.in_ok-write.ensures.bytes)
