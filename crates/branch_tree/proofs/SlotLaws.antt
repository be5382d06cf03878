-- The tree of slots: what becomes of it where a slot changes, and which of its leaves are open.
use Rattle.std.proofs.Common.{◌≡◌, inl, inr, refl, ℕ, zero, suc, ◌+◌, ◌<◌, ◌≤◌, Bool, true, false, cond, eqb, List, length, ◌∙◌, sym, ap, arith}
use Rattle.std.proofs.lemmas.Bool.{cases_Bool, eq-eqb, eqb-true}
use Rattle.branch_tree.specs.OpenTree.{Open, OpenTree, opens, replaced, times}
use Rattle.branch_tree.specs.inner.Slots.{AreBehind, is_open_state, node_at, slot_of, tree_below}
use Rattle.branch_tree.specs.declared.slot.Slot.{Slot}
use Rattle.branch_tree.specs.declared.slot.State.{State}
use Rattle.branch_tree.specs.declared.slot.State.TheVariants as state

-- the sides of each node come behind it
abbrev pub AllBehind : List Slot → Type 0
AllBehind slots = (n : ℕ) → n < length slots → AreBehind (length slots) n (slot_of slots n).state

-- ---- how many levels are looked at

-- a node is the same over the same trees
node_at-same : (count n : ℕ) (here : State) (f g : ℕ → OpenTree) → AreBehind count n here →
    ((child : ℕ) → n < child → child < count → f child ≡ g child) → node_at n here f ≡ node_at n here g
node_at-same count n state.Open f g behind same = refl
node_at-same count n (state.Closed leaf) f g behind same = refl
node_at-same count n (state.Split column at left) f g behind same =
    let first : f left ≡ g left = same left behind.0 (omega (arith, behind.1)) in
    let second : f (left + 1) ≡ g (left + 1) = same (left + 1) (omega (arith, behind.0)) behind.1 in
    cc

-- enough levels are enough
pub enough_levels : (slots : List Slot) → AllBehind slots → (f g n : ℕ) → n < length slots → length slots ≤ n + f → length slots ≤ n + g →
    tree_below slots f n ≡ tree_below slots g n
unfolding tree_below
enough_levels slots behind zero g n there first second = absurd (omega arith)
enough_levels slots behind (suc f) zero n there first second = absurd (omega arith)
enough_levels slots behind (suc f) (suc g) n there first second =
    node_at-same (length slots) n (slot_of slots n).state (λ child. tree_below slots f child) (λ child. tree_below slots g child) (behind n there)
    (λ child above within. enough_levels slots behind f g child within (omega (arith, above, first)) (omega (arith, above, second)))

-- ---- a slot changes

-- a node that stays, over trees in which another is replaced
node_at-replaced : (count n leaf : ℕ) (here : State) (new : OpenTree) (f g : ℕ → OpenTree) → AreBehind count n here → eqb n leaf ≡ false →
    ((child : ℕ) → n < child → child < count → g child ≡ replaced leaf new (f child)) → node_at n here g ≡ replaced leaf new (node_at n here f)
node_at-replaced count n leaf state.Open new f g behind other same = rw other
node_at-replaced count n leaf (state.Closed how) new f g behind other same = refl
node_at-replaced count n leaf (state.Split column at left) new f g behind other same =
    let first : g left ≡ replaced leaf new (f left) = same left behind.0 (omega (arith, behind.1)) in
    let second : g (left + 1) ≡ replaced leaf new (f (left + 1)) = same (left + 1) (omega (arith, behind.0)) behind.1 in
    rw (first, second) refl

-- other slots than an open one stay, which becomes a node whose tree is another: that tree takes its place
pub tree_changed : (slots after : List Slot) (leaf : ℕ) (new : OpenTree) → AllBehind slots → length slots ≤ length after →
    ((n : ℕ) → n < length slots → eqb n leaf ≡ false → (slot_of after n).state ≡ (slot_of slots n).state) →
    (slot_of slots leaf).state ≡ state.Open →
    ((g : ℕ) → length after ≤ leaf + suc g → tree_below after (suc g) leaf ≡ new) →
    (f g n : ℕ) → n < length slots → length slots ≤ n + f → length after ≤ n + g → tree_below after g n ≡ replaced leaf new (tree_below slots f n)
unfolding tree_below
tree_changed slots after leaf new behind longer others was is zero g n there first second = absurd (omega arith)
tree_changed slots after leaf new behind longer others was is (suc f) zero n there first second = absurd (omega arith)
tree_changed slots after leaf new behind longer others was is (suc f) (suc g) n there first second =
    elim (cases_Bool (eqb n leaf)) [
      | inl e ↦
          let same : n ≡ leaf = eqb-true n leaf e in
          let here : tree_below after (suc g) leaf ≡ new = is g (omega arith) in
          let here_open : node_at leaf (slot_of slots leaf).state (λ child. tree_below slots f child) ≡ Open leaf = rw was refl in
          rw same (here ∙ sym (rw (here_open, eq-eqb leaf leaf refl) refl))
      | inr e ↦
          rw (others n there e)
          (node_at-replaced (length slots) n leaf (slot_of slots n).state new (λ child. tree_below slots f child) (λ child. tree_below after g child)
          (behind n there) e
          (λ child above within. tree_changed slots after leaf new behind longer others was is f g child within (omega (arith, above, first)) (omega (arith, above, second))))
    ]

-- ---- open leaves

-- 1 where two numbers are the same, else 0
abbrev one : ℕ → ℕ → ℕ
one n k = cond (eqb n k) 1 0

-- the open leaves of a node, from those of the trees below it
opens_at : (count n k : ℕ) (here : State) (open_there : Bool) (f : ℕ → OpenTree) → AreBehind count n here → (n ≡ k → is_open_state here ≡ open_there) →
    ((child : ℕ) → n < child → child < count → opens (f child) k ≡ cond open_there (times (f child) k) 0) →
    opens (node_at n here f) k ≡ cond open_there (times (node_at n here f) k) 0
opens_at count n k state.Open true f behind is below = refl
opens_at count n k state.Open false f behind is below =
    elim (cases_Bool (eqb n k)) [
      | inl e ↦ absurd (let wrong = is (eqb-true n k e) in cc)
      | inr e ↦ rw e refl
    ]
opens_at count n k (state.Closed how) true f behind is below =
    elim (cases_Bool (eqb n k)) [
      | inl e ↦ absurd (let wrong = is (eqb-true n k e) in cc)
      | inr e ↦ rw e refl
    ]
opens_at count n k (state.Closed how) false f behind is below = refl
opens_at count n k (state.Split column at left) true f behind is below =
    let first : opens (f left) k ≡ times (f left) k = below left behind.0 (omega (arith, behind.1)) in
    let second : opens (f (left + 1)) k ≡ times (f (left + 1)) k = below (left + 1) (omega (arith, behind.0)) behind.1 in
    elim (cases_Bool (eqb n k)) [
      | inl e ↦ absurd (let wrong = is (eqb-true n k e) in cc)
      | inr e ↦ rw e (omega (arith, first, second))
    ]
opens_at count n k (state.Split column at left) false f behind is below =
    let first : opens (f left) k ≡ 0 = below left behind.0 (omega (arith, behind.1)) in
    let second : opens (f (left + 1)) k ≡ 0 = below (left + 1) (omega (arith, behind.0)) behind.1 in
    omega (arith, first, second)

-- the open leaves are the nodes whose slots are open
pub opens_tree : (slots : List Slot) → AllBehind slots → (k f n : ℕ) → n < length slots → length slots ≤ n + f →
    opens (tree_below slots f n) k ≡ cond (is_open_state (slot_of slots k).state) (times (tree_below slots f n) k) 0
unfolding tree_below
opens_tree slots behind k zero n there levels = absurd (omega arith)
opens_tree slots behind k (suc f) n there levels =
    opens_at (length slots) n k (slot_of slots n).state (is_open_state (slot_of slots k).state) (λ child. tree_below slots f child) (behind n there)
    (λ same. ap (λ m. is_open_state (slot_of slots m).state) same)
    (λ child above within. opens_tree slots behind k f child within (omega (arith, above, levels)))

-- ---- a slot that the tree does not reach

-- where two numbers are the same, 1 is counted
not_counted : (n k rest : ℕ) → one n k + rest ≡ 0 → eqb n k ≡ false
not_counted n k rest none =
    elim (cases_Bool (eqb n k)) [
      | inl e ↦ let counted : one n k ≡ 1 = rw e refl in absurd (omega (arith, counted, none))
      | inr e ↦ e
    ]

-- a node that a number does not reach has another
node_apart : (n k : ℕ) (here : State) (f : ℕ → OpenTree) → times (node_at n here f) k ≡ 0 → eqb n k ≡ false
node_apart n k state.Open f none = not_counted n k 0 (omega (arith, none))
node_apart n k (state.Closed how) f none = not_counted n k 0 (omega (arith, none))
node_apart n k (state.Split column at left) f none = not_counted n k (times (f left) k + times (f (left + 1)) k) (omega (arith, none))

-- a node is the same over trees that are
node_kept : (n k : ℕ) (here : State) (f g : ℕ → OpenTree) → ((child : ℕ) → times (f child) k ≡ 0 → g child ≡ f child) →
    times (node_at n here f) k ≡ 0 → node_at n here g ≡ node_at n here f
node_kept n k state.Open f g same none = refl
node_kept n k (state.Closed how) f g same none = refl
node_kept n k (state.Split column at left) f g same none =
    let first : g left ≡ f left = same left (omega (arith, none)) in
    let second : g (left + 1) ≡ f (left + 1) = same (left + 1) (omega (arith, none)) in
    cc

-- a tree is the same where a slot changes that it does not reach
pub tree_kept : (slots after : List Slot) (k : ℕ) → ((n : ℕ) → eqb n k ≡ false → slot_of after n ≡ slot_of slots n) →
    (f n : ℕ) → times (tree_below slots f n) k ≡ 0 → tree_below after f n ≡ tree_below slots f n
unfolding tree_below
tree_kept slots after k others zero n none = refl
tree_kept slots after k others (suc f) n none =
    let apart : eqb n k ≡ false = node_apart n k (slot_of slots n).state (λ child. tree_below slots f child) none in
    rw (others n apart)
    (node_kept n k (slot_of slots n).state (λ child. tree_below slots f child) (λ child. tree_below after f child)
    (λ child. tree_kept slots after k others f child) none)
