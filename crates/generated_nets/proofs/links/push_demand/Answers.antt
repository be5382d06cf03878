-- Until ten steps before the last.
use Rattle.std.proofs.Common.{append_assoc}
use Rattle.std.specs.Prelude.{string_bytes}
use Rattle.generated_nets.proofs.TextLaws.{demand_is_added}
use Rattle.generated_nets.proofs.links.push_demand.Goals as goal

pub returns : goal.returns
returns c =
    demand_is_added (string_bytes c.args.text.now) (string_bytes c.write.new.self) c.args.number c.args.rate
    (simp (c.steps.ensures, append_assoc) at c.in_ok-write.ensures.bytes)
