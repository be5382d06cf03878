use Rattle.solve_core.proofs.RuleBits.{bits_of_plan}
use Rattle.solve_core.proofs.decided.broken_rule.Goals as goal

pub unreachable-requires : goal.unreachable-requires
unreachable-requires c =
    let plan = ((c.broken_row.ensures.none c.requires.bits.begin).0 c.in-None.is) in
    c.requires.none plan.0 plan.1.admissible (bits_of_plan c.args.net.now c.args.bits.now plan.0 c.requires.bits.columns plan.1)
