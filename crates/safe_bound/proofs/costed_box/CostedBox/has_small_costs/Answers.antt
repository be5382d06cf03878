use Rattle.std.proofs.Common.{true, length, arith}
use Rattle.std.proofs.lemmas.Int.{ints}
use Rattle.safe_bound.proofs.CostedLaws.{first_costs-small}
use Rattle.safe_bound.proofs.costed_box.CostedBox.has_small_costs.Goals as goal

pub returns : goal.returns
returns c =
    let is = rw (← c.self.view_is) at c.requires in
    let few = first_costs-small c.args.program.now true c.self.inside.bounds (length c.args.program.now.columns) c.is_program.ensures c.is_box.ensures (omega (arith, is.columns)) is.columns in
    rw (← c.self.view_is) (omega (arith, ints, few, is.costs))
