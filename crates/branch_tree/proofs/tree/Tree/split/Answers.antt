use Rattle.std.proofs.Common.{w64}
use Rattle.std.proofs.lemmas.Int.{to_z-of_z}
use Rattle.branch_tree.specs.inner.Slots.{IsPart}
use Rattle.branch_tree.proofs.StepLaws.{column_there, open_in, parting_leaves_none, parts}
use Rattle.branch_tree.proofs.tree.Tree.split.Goals as goal
use mir.Val.{SFits}

pub part-requires-clause-leaf : goal.part-requires-clause-leaf
part-requires-clause-leaf c =
    (open_in c.self.inside.nodes.root c.self.inside.nodes.slots.items c.self.inside.first_open c.args.leaf c.args.self.now c.self.invariant c.self.view_is c.requires.leaf).there

pub part-requires-clause-column : goal.part-requires-clause-column
part-requires-clause-column c =
    column_there c.self.inside.nodes.root c.self.inside.nodes.slots.items c.self.inside.first_open c.args.leaf c.args.column c.args.at c.args.self.now
    (record { kept = c.self.invariant; view = c.self.view_is; is = c.requires.leaf; split = c.requires.split; few = c.requires.few })

pub next_open-self-inside-requires-clause-before : goal.next_open-self-inside-requires-clause-before
next_open-self-inside-requires-clause-before c =
    let fits : SFits w64 c.args.at = c.ranges.at in
    let part : IsPart c.self.inside.nodes.root c.self.inside.nodes.slots.items c.part.new.self.slots.items c.args.leaf c.args.column c.args.at = simp to_z-of_z at c.in_ok-left.ensures.part in
    parting_leaves_none c.self.inside.nodes.root c.self.inside.nodes.slots.items c.part.new.self.slots.items c.self.inside.first_open c.args.leaf c.args.column
    c.args.at c.args.self.now
    (record { kept = c.self.invariant; view = c.self.view_is; is = c.requires.leaf; split = c.requires.split; few = c.requires.few }) part

pub invariant_of-self-2 : goal.invariant_of-self-2
invariant_of-self-2 c =
    let fits : SFits w64 c.args.at = c.ranges.at in
    let part : IsPart c.self.inside.nodes.root c.self.inside.nodes.slots.items c.part.new.self.slots.items c.args.leaf c.args.column c.args.at = simp to_z-of_z at c.in_ok-left.ensures.part in
    (parts c.self.inside.nodes.root c.part.new.self.root c.self.inside.nodes.slots.items c.part.new.self.slots.items c.self.inside.first_open
    c.next_open-self-inside.result c.args.leaf c.args.column c.args.at c.args.self.now
    (record { kept = c.self.invariant; view = c.self.view_is; is = c.requires.leaf; split = c.requires.split; few = c.requires.few })
    part c.in_ok-left.ensures.root c.next_open-self-inside.ensures).kept

pub returns-clause-tree : goal.returns-clause-tree
returns-clause-tree c =
    let fits : SFits w64 c.args.at = c.ranges.at in
    let part : IsPart c.self.inside.nodes.root c.self.inside.nodes.slots.items c.part.new.self.slots.items c.args.leaf c.args.column c.args.at = simp to_z-of_z at c.in_ok-left.ensures.part in
    (parts c.self.inside.nodes.root c.part.new.self.root c.self.inside.nodes.slots.items c.part.new.self.slots.items c.self.inside.first_open
    c.next_open-self-inside.result c.args.leaf c.args.column c.args.at c.args.self.now
    (record { kept = c.self.invariant; view = c.self.view_is; is = c.requires.leaf; split = c.requires.split; few = c.requires.few })
    part c.in_ok-left.ensures.root c.next_open-self-inside.ensures).seen
