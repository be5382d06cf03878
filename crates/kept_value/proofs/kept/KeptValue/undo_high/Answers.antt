use Rattle.std.proofs.Common.{arith}
use Rattle.std.specs.Int.{w64, w128}
use Rattle.std.proofs.lemmas.Int.{ints}
use mir.Val.{of_z, to_z}
use Rattle.kept_value.specs.Kept.{IsKeptOf, Kept}
use Rattle.kept_value.proofs.KeptLaws.{IsKeptOf-high, kept-small}
use Rattle.kept_value.proofs.kept.KeptValue.undo_high.Goals as goal

-- what is kept now
now : (c : goal.After-self-1) → Kept
now c = record { box = c.undo_high.new.self; prices = c.self.inside.prices.items; reduced = c.self.inside.reduced.items; value = to_z w128 (of_z w128 c.moved-self-inside.result) }

-- is kept of the program
now_is : (c : goal.After-self-1) → IsKeptOf c.args.program.now (now c)
unfolding now
now_is c =
    let before = rw c.as_slice.ensures.value at c.column_part-before.ensures.value in
    let after = rw c.as_slice-2.ensures.value at c.column_part-after.ensures.value in
    IsKeptOf-high c.args.program.now (record { box = c.self.inside.bounds; prices = c.self.inside.prices.items; reduced = c.self.inside.reduced.items; value = c.self.inside.value })
    c.undo_high.new.self c.args.j (to_z w64 (of_z w64 c.args.high)) (to_z w128 (of_z w128 c.moved-self-inside.result)) (rw (← c.self.view_is) at c.requires.of) (rw (← c.self.view_is) at c.requires.there) c.undo_high.ensures
    (omega (arith, ints, before, after, c.moved-self-inside.ensures, c.self.invariant.small, c.column_part-before.ensures.small, c.column_part-after.ensures.small))

pub invariant_of-self : goal.invariant_of-self
unfolding now
invariant_of-self c = record { costs = c.self.invariant.costs; small = kept-small c.args.program.now (now c) c.is_program.ensures c.is_box.ensures (now_is c) }

pub returns-clause-of : goal.returns-clause-of
unfolding now
returns-clause-of c = now_is c
