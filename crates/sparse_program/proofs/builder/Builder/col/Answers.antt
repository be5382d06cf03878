use Rattle.std.proofs.lemmas.Int.{to_z-of_z}
use Rattle.sparse_program.proofs.BuildLaws.{AreBuilt-col}
use Rattle.sparse_program.proofs.builder.Builder.col.Goals as goal

pub invariant_of-self-2 : goal.invariant_of-self-2
invariant_of-self-2 c =
    let low = c.ranges.low in
    let high = c.ranges.high in
    let cost = c.ranges.cost in
    rw c.in_ok-push.ensures.items (simp to_z-of_z (AreBuilt-col _ _ (record { low = c.args.low; high = c.args.high; cost = c.args.cost }) c.self.invariant c.requires.lawful (rw (← c.self.view_is) at c.requires.room)))
