use Rattle.std.proofs.Common.{arith}
use Rattle.cell_build.specs.Names.{name_in}
use Rattle.cell_build.proofs.NameLaws.{list_any_led_to}
use Rattle.cell_build.proofs.judge.outs.leads_to.Goals as goal

pub returns-else-is_name : goal.returns-else-is_name
returns-else-is_name c = let known = list_any_led_to c.args.name.now (name_in c.args.link.now.to) c.args.link.now.turns in grind (arith, known)
