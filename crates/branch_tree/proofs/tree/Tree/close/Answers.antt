use Rattle.branch_tree.proofs.StepLaws.{closing_is_kept, closing_is_seen, closing_leaves_none, open_in}
use Rattle.branch_tree.proofs.tree.Tree.close.Goals as goal

pub set_state-requires : goal.set_state-requires
set_state-requires c =
    (open_in c.self.inside.nodes.root c.self.inside.nodes.slots.items c.self.inside.first_open c.args.leaf c.args.self.now c.self.invariant c.self.view_is c.requires).there

pub next_open-self-inside-requires-clause-before : goal.next_open-self-inside-requires-clause-before
next_open-self-inside-requires-clause-before c =
    closing_leaves_none c.self.inside.nodes.root c.self.inside.nodes.slots.items c.set_state.new.self.slots.items c.self.inside.first_open c.args.leaf c.args.how
    c.args.self.now c.self.invariant c.self.view_is c.requires c.set_state.ensures.slots

pub invariant_of-self : goal.invariant_of-self
invariant_of-self c =
    closing_is_kept c.self.inside.nodes.root c.set_state.new.self.root c.self.inside.nodes.slots.items c.set_state.new.self.slots.items c.self.inside.first_open
    c.next_open-self-inside.result c.args.leaf c.args.how c.args.self.now c.self.invariant c.self.view_is c.requires c.set_state.ensures.root
    c.set_state.ensures.slots c.next_open-self-inside.ensures

pub returns : goal.returns
returns c =
    closing_is_seen c.self.inside.nodes.root c.set_state.new.self.root c.self.inside.nodes.slots.items c.set_state.new.self.slots.items c.self.inside.first_open
    c.args.leaf c.args.how c.args.self.now c.self.invariant c.self.view_is c.requires c.set_state.ensures.root c.set_state.ensures.slots
