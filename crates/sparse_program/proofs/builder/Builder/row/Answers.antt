use Rattle.std.proofs.Common.{w64, rules, ◌-ℤ◌}
use Rattle.std.proofs.lemmas.Int.{to_z-of_z}
use Rattle.sparse_program.specs.Program.{row_from}
use Rattle.sparse_program.proofs.BuildLaws.{AreBuilt-row}
use Rattle.sparse_program.proofs.builder.Builder.row.Goals as goal
use mir.Val.{SFits}

pub invariant_of-self-2 : goal.invariant_of-self-2
invariant_of-self-2 c =
    let rhs = c.ranges.rhs in
    let constant : SFits w64 c.args.of.now.constant = search rules in
    let moved : SFits w64 (c.args.rhs -ℤ c.args.of.now.constant) = search (rules, c.requires.lawful.rhs) in
    rw (c.in_ok-push.ensures.items, c.in_ok-terms.ensures) (simp to_z-of_z (AreBuilt-row _ _ (row_from c.args.equal c.args.rhs c.args.of.now) c.self.invariant (rw (← c.self.view_is) at c.requires.lawful) (rw (← c.self.view_is) at c.requires.room)))
