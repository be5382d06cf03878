-- It is what each link has.
use Rattle.generated_nets.specs.Generated.{way_off_text}
use Rattle.generated_nets.proofs.links.push_way_off.Goals as goal

pub returns : goal.returns
unfolding way_off_text
returns c = c.push_link.ensures
