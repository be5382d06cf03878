use Rattle.std.proofs.Common.{◌≡◌, ℕ, ◌<◌, false}
use Rattle.branch_tree.specs.inner.Slots.{is_open_state, slot_of}
use Rattle.branch_tree.proofs.nodes.Nodes.next_open.Given as goal

abbrev pub invariant-loop-number : goal.invariant-loop-number
invariant-loop-number l = (n : ℕ) → n < l.number → is_open_state (slot_of l.self.slots.items n).state ≡ false
