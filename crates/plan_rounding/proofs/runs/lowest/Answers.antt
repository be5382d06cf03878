use Rattle.std.proofs.Common.{length}
use Rattle.plan_rounding.proofs.NamedLaws.{lowest_is}
use Rattle.plan_rounding.proofs.runs.lowest.Goals as goal

pub returns-clause-inside : goal.returns-clause-inside
returns-clause-inside c = (lowest_is c.args.phases (length c.args.signal.now.phases) c.requires.some c.ranges.phases.fits c.requires.phases).1
