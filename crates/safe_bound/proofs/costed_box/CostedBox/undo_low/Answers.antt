use Rattle.std.proofs.Common.{arith}
use Rattle.std.specs.Int.{w64}
use Rattle.std.proofs.lemmas.Int.{ints}
use mir.Val.{of_z, to_z}
use Rattle.safe_bound.proofs.CostedLaws.{IsCostedOf-low}
use Rattle.safe_bound.proofs.costed_box.CostedBox.undo_low.Goals as goal

pub returns-clause-of : goal.returns-clause-of
returns-clause-of c =
    IsCostedOf-low c.args.program.now (record { box = c.self.inside.bounds; costs = c.self.inside.costs }) c.undo_low.new.self c.args.j (to_z w64 (of_z w64 c.args.low))
    c.column_cost-before.result c.column_cost-after.result _ (rw (← c.self.view_is) at c.requires.of) (rw (← c.self.view_is) at c.requires.there) c.undo_low.ensures
    c.column_cost-before.ensures.value c.column_cost-after.ensures.value (omega (arith, ints, c.with_change-self-inside.ensures))
