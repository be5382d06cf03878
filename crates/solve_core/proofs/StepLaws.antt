-- The tree of a search stays one where a leaf is closed or split, or a plan of a lesser delay is found; its plan columns are bits; and
-- how many nodes and open leaves there are.
use Rattle.std.proofs.Common.{◌≡◌, inl, inr, ◌⊎◌, refl, ℕ, ◌+◌, ◌<◌, ◌≤◌, ◌^◌, true, cond, length, length-set, ◌∙◌, sym, arith}
use Rattle.std.specs.Prelude.{ℤ, pos, ◌≤ℤ◌, []}
use Rattle.std.proofs.lemmas.Bool.{cases_eq, cond_both, ltb-true}
use Rattle.std.proofs.lemmas.Int.{ints}
use Rattle.std.proofs.lemmas.List.{get_or-set_other, get_or-set_same}
use Rattle.ct_base.specs.declared.net.Net.{Net}
use Rattle.sparse_program.specs.Box.{Ranges}
use Rattle.certificate_model.specs.Certificates.{root_of}
use Rattle.certificate_model.specs.Reasons.{IsUnfixed}
use Rattle.certificate_model.specs.Tree.{Empty, Fixed, IsLeafOf, IsSplit, Leaf, Priced, left_of, right_of}
use Rattle.branch_tree.specs.Boxes.{Growing, IsGrowing, box_below, box_of, closed_at, split_at}
use Rattle.branch_tree.specs.OpenTree.{Closed, Open, OpenTree, Parted, has, is_open, opens, parted, size}
use Rattle.branch_tree.proofs.GoodLaws.{good_closed, good_split}
use Rattle.branch_tree.proofs.TreeLaws.{size_replaced}
use Rattle.search_model.specs.LeafNumbers.{GivesNumber}
use Rattle.search_model.specs.Splits.{AreFirstSplits, HasBits, IsFirstUnfixed, unfixed_count}
use Rattle.search_model.proofs.BitLaws.{root_has_bits}
use Rattle.search_model.proofs.SplitLaws.{room_for_more}
use Rattle.solve_core.specs.Earned.{GivesDelay, IsEarned}
use Rattle.solve_core.specs.Growth.{IsClosedWell, IsTreeOf, no_number}
use Rattle.solve_core.specs.Searched.{IsReached}
use Rattle.solve_core.specs.Shapes.{ClosedGives, open_leaves, shape_of}
use Rattle.solve_core.proofs.ShapeLaws.{at_most_once, firsts_replaced, good_for_less, open_leaf_stands, opens_of_all, opens_once}
use Rattle.solve_core.proofs.ShapeLaws.{given_closed, given_replaced, nodes_of_shape, open_leaves_replaced, size_closed}

-- what a split puts in the place of a leaf: its sides are open leaves with the next numbers
abbrev new_sides : Growing → ℕ → ℕ → ℤ → OpenTree
new_sides growing leaf column at = parted leaf column at (size growing.tree, size growing.tree + 1)

-- ---- how many there are

-- a split makes two nodes
pub split_is_larger : (growing : Growing) (leaf column : ℕ) (at : ℤ) → IsGrowing growing → is_open growing.tree leaf ≡ true →
    size (split_at growing leaf column at).tree ≡ size growing.tree + 2
split_is_larger growing leaf column at is here =
    let once = opens_once growing leaf is here in
    let counted = rw once at (size_replaced leaf (new_sides growing leaf column at) growing.tree) in
    omega (arith, counted)

-- and leaves one more leaf open
pub split_leaves_more : (growing : Growing) (leaf column : ℕ) (at : ℤ) → IsGrowing growing → is_open growing.tree leaf ≡ true →
    open_leaves (split_at growing leaf column at).tree ≡ open_leaves growing.tree + 1
split_leaves_more growing leaf column at is here =
    let once = opens_once growing leaf is here in
    let counted = rw once at (open_leaves_replaced leaf (new_sides growing leaf column at) growing.tree) in
    omega (arith, counted)

-- a leaf that is closed leaves one fewer open
pub closing_leaves_fewer : (growing : Growing) (leaf : ℕ) (how : Leaf) → IsGrowing growing → is_open growing.tree leaf ≡ true →
    open_leaves (closed_at growing leaf how).tree + 1 ≡ open_leaves growing.tree
closing_leaves_fewer growing leaf how is here =
    let once = opens_once growing leaf is here in
    let counted = rw once at (open_leaves_replaced leaf (Closed leaf how) growing.tree) in
    omega (arith, counted)

-- and makes no node
pub closing_makes_none : (growing : Growing) (leaf : ℕ) (how : Leaf) → size (closed_at growing leaf how).tree ≡ size growing.tree
closing_makes_none growing leaf how = size_closed leaf how growing.tree

-- where a leaf is open there is one
pub some_are_open : (growing : Growing) (leaf : ℕ) → is_open growing.tree leaf ≡ true → 1 ≤ open_leaves growing.tree
some_are_open growing leaf here = omega (arith, ltb-true 0 (opens growing.tree leaf) here, opens_of_all growing.tree leaf)

-- ---- a lesser number, and a lesser delay

-- a leaf stays closed well where the least number becomes less
lesser_number : (net : Net) (delay least less : ℤ) (box : Ranges) (leaf : Leaf) → less ≤ℤ least → IsClosedWell net delay least box leaf →
    IsClosedWell net delay less box leaf
lesser_number net delay least less box leaf below well = record {
  lawful = well.lawful;
  earned = well.earned;
  above = λ number gives. (let above = well.above number gives in omega (arith, ints, above, below));
}

-- what gives a delay gives a lesser one
gives_lesser : (delay lesser value : ℤ) → lesser ≤ℤ delay → GivesDelay delay value → GivesDelay lesser value
gives_lesser delay lesser value less gives = omega (arith, ints, less, gives)

-- and what was earned for a delay is earned for a lesser one
earned_for_lesser : (net : Net) (delay lesser : ℤ) (box : Ranges) (leaf : Leaf) → lesser ≤ℤ delay → IsEarned net delay box leaf →
    IsEarned net lesser box leaf
earned_for_lesser net delay lesser box (Priced pairs) less earned = record {
  prices = earned.prices;
  named = earned.named;
  worked = record {
    lawful = earned.worked.lawful;
    above_seed = earned.worked.above_seed;
    ends = elim earned.worked.ends [
      | inl settled ↦ inl settled
      | inr (inl gives) ↦ inr (inl (gives_lesser delay lesser _ less gives))
      | inr (inr risen) ↦ inr (inr risen)
    ];
  };
}
earned_for_lesser net delay lesser box (Empty pairs) less earned = tt
earned_for_lesser net delay lesser box Fixed less earned =
    λ plan fixes. (let enough = earned plan fixes in omega (arith, ints, enough, less))

-- so is a leaf closed well
well_for_lesser : (net : Net) (delay lesser least : ℤ) (box : Ranges) (leaf : Leaf) → lesser ≤ℤ delay →
    IsClosedWell net delay least box leaf → IsClosedWell net lesser least box leaf
well_for_lesser net delay lesser least box leaf less well = record {
  lawful = well.lawful;
  earned = earned_for_lesser net delay lesser box leaf less well.earned;
  above = well.above;
}

-- and the tree is that of a search
pub tree_for_lesser : (net : Net) (budget : ℕ) (delay lesser least : ℤ) (growing : Growing) → IsTreeOf net budget delay least growing →
    lesser ≤ℤ delay → IsTreeOf net budget lesser least growing
tree_for_lesser net budget delay lesser least growing is less = record {
  keeps = is.keeps;
  root = is.root;
  splits = is.splits;
  few = is.few;
  closed =
      good_for_less (IsClosedWell net lesser least) (IsClosedWell net delay least)
      (λ box leaf well. well_for_lesser net delay lesser least box leaf less well) growing.root growing.tree is.closed;
  given = is.given;
}

pub reached_for_lesser : (net : Net) (budget nodes : ℕ) (delay lesser least : ℤ) → IsReached net budget delay least nodes →
    lesser ≤ℤ delay → IsReached net budget lesser least nodes
reached_for_lesser net budget nodes delay lesser least (inl enough) less = inl (omega (arith, ints, enough, less))
reached_for_lesser net budget nodes delay lesser least (inr spent) less = inr spent

-- ---- a leaf is closed

-- the least number after a leaf was closed: the one before, or that of the leaf
given_after_closing : (net : Net) (leaf : ℕ) (least less : ℤ) (growing : Growing) (how : Leaf) → IsGrowing growing →
    is_open growing.tree leaf ≡ true → (least ≡ no_number) ⊎ ClosedGives net growing.root growing.tree least →
    (less ≡ least) ⊎ GivesNumber net (box_of growing leaf) how less →
    (less ≡ no_number) ⊎ ClosedGives net growing.root (closed_at growing leaf how).tree less
given_after_closing net leaf least less growing how is here (inl none) (inl same) = inl (same ∙ none)
given_after_closing net leaf least less growing how is here (inr given) (inl same) =
    inr (rw same (given_replaced net leaf (Closed leaf how) least growing.root growing.tree given))
given_after_closing net leaf least less growing how is here before (inr gives) =
    inr (given_closed net leaf how less growing.root growing.tree (at_most_once growing leaf is)
    (ltb-true 0 (opens growing.tree leaf) here) gives)

pub closing_keeps : (net : Net) (budget leaf : ℕ) (delay least less : ℤ) (growing : Growing) (how : Leaf) →
    IsTreeOf net budget delay least growing → IsGrowing (closed_at growing leaf how) → is_open growing.tree leaf ≡ true →
    IsClosedWell net delay less (box_of growing leaf) how → less ≤ℤ least →
    (less ≡ least) ⊎ GivesNumber net (box_of growing leaf) how less → IsTreeOf net budget delay less (closed_at growing leaf how)
closing_keeps net budget leaf delay least less growing how is grown here well below number = record {
  keeps = grown;
  root = is.root;
  splits = firsts_replaced net leaf (Closed leaf how) growing.root growing.tree (at_most_once growing leaf is.keeps) is.splits (λ some. tt);
  few = (let same = size_closed leaf how growing.tree in omega (arith, same, is.few));
  closed =
      (let before =
      good_for_less (IsClosedWell net delay less) (IsClosedWell net delay least)
      (λ box closed was. lesser_number net delay least less box closed below was) growing.root growing.tree is.closed in
      good_closed (IsClosedWell net delay less) growing leaf how is.keeps before well);
  given = given_after_closing net leaf least less growing how is.keeps here is.given number;
}

-- ---- a leaf is split

pub splitting_keeps : (net : Net) (budget leaf column : ℕ) (delay least : ℤ) (growing : Growing) →
    IsTreeOf net budget delay least growing → IsGrowing (split_at growing leaf column (pos 0)) →
    is_open growing.tree leaf ≡ true → IsFirstUnfixed net (box_of growing leaf) column →
    size growing.tree + 2 ≤ budget → IsTreeOf net budget delay least (split_at growing leaf column (pos 0))
splitting_keeps net budget leaf column delay least growing is grown here first room = record {
  keeps = grown;
  root = is.root;
  splits =
      firsts_replaced net leaf (new_sides growing leaf column (pos 0)) growing.root growing.tree (at_most_once growing leaf is.keeps)
      is.splits (λ some. (first, refl, tt, tt));
  few = (let more = split_is_larger growing leaf column (pos 0) is.keeps here in omega (arith, more, room));
  closed =
      good_split (IsClosedWell net delay least) leaf column (pos 0) (size growing.tree, size growing.tree + 1) growing.root growing.tree
      is.closed;
  given = elim is.given [
    | inl none ↦ inl none
    | inr given ↦ inr (given_replaced net leaf (new_sides growing leaf column (pos 0)) least growing.root growing.tree given)
  ];
}

-- ---- the plan columns are bits

-- those of the sides of a split at 0
left_has_bits : (net : Net) (box : Ranges) (column : ℕ) → HasBits net box → HasBits net (left_of box column (pos 0))
left_has_bits net box column bits = record {
  there = bits.there;
  same = length-set box.highs column (pos 0) ∙ bits.same;
  low = bits.low;
  high = λ j inside.
      elim (cases_eq j column) [
        | inl e ↦
            let there : column < length box.highs = omega (arith, inside, e, bits.there, bits.same) in
            rw e (rw (get_or-set_same box.highs column (pos 0) (pos 0) there) (omega (arith, ints)))
        | inr ne ↦ rw (get_or-set_other box.highs column j (pos 0) (pos 0) ne) (bits.high j inside)
      ];
}

right_has_bits : (net : Net) (box : Ranges) (column : ℕ) → HasBits net box → HasBits net (right_of box column (pos 0))
right_has_bits net box column bits = record {
  there = omega (arith, bits.there, length-set box.lows column (pos 1));
  same = bits.same ∙ sym (length-set box.lows column (pos 1));
  low = λ j inside.
      elim (cases_eq j column) [
        | inl e ↦
            let there : column < length box.lows = omega (arith, inside, e, bits.there) in
            rw e (rw (get_or-set_same box.lows column (pos 1) (pos 0) there) (omega (arith, ints)))
        | inr ne ↦ rw (get_or-set_other box.lows column j (pos 1) (pos 0) ne) (bits.low j inside)
      ];
  high = bits.high;
}

-- and so those of each node below first splits
bits_below : (net : Net) (box : Ranges) (tree : OpenTree) (n : ℕ) → HasBits net box → AreFirstSplits net box (shape_of tree) →
    HasBits net (box_below box tree n)
bits_below net box (Open k) n bits firsts = bits
bits_below net box (Closed k leaf) n bits firsts = bits
bits_below net box (Parted k column at left right) n bits firsts =
    let to_left : HasBits net (left_of box column at) = rw firsts.1 (left_has_bits net box column bits) in
    let to_right : HasBits net (right_of box column at) = rw firsts.1 (right_has_bits net box column bits) in
    let in_left = bits_below net (left_of box column at) left n to_left firsts.2 in
    let in_right = bits_below net (right_of box column at) right n to_right firsts.3 in
    cond_both (has left n) (box_below (left_of box column at) left n) (cond (has right n) (box_below (right_of box column at) right n) box)
    (HasBits net) (λ yes. in_left)
    (λ no. cond_both (has right n) (box_below (right_of box column at) right n) box (HasBits net) (λ yes. in_right) (λ none. bits))

pub node_has_bits : (net : Net) (budget n : ℕ) (delay least : ℤ) (growing : Growing) → IsTreeOf net budget delay least growing →
    HasBits net (box_of growing n)
node_has_bits net budget n delay least growing is =
    let root : HasBits net growing.root = rw is.root (root_has_bits net) in
    bits_below net growing.root growing.tree n root is.splits

-- a box of bits can be split at 0 on the first that it leaves open
pub first_is_split : (net : Net) (box : Ranges) (column : ℕ) → HasBits net box → IsFirstUnfixed net box column → IsSplit box column (pos 0)
first_is_split net box column bits first =
    let low = bits.low column first.of_plan in
    let high = bits.high column first.of_plan in
    record {
      there = omega (arith, first.of_plan, bits.there);
      low = omega (arith, ints, first.several, high);
      high = omega (arith, ints, first.several, low);
    }

-- ---- room for two more nodes

pub open_leaf_has_room : (net : Net) (budget leaf : ℕ) (delay least : ℤ) (growing : Growing) → IsTreeOf net budget delay least growing →
    is_open growing.tree leaf ≡ true → IsUnfixed net (box_of growing leaf) →
    size growing.tree + 3 ≤ 2 ^ (unfixed_count net (root_of net) + 1)
open_leaf_has_room net budget leaf delay least growing is here unfixed =
    let stands : IsLeafOf growing.root (shape_of growing.tree) (box_of growing leaf) (Empty []) =
    open_leaf_stands growing.root growing.tree leaf (at_most_once growing leaf is.keeps) (ltb-true 0 (opens growing.tree leaf) here) in
    let bits : HasBits net growing.root = rw is.root (root_has_bits net) in
    let room = room_for_more net growing.root (box_of growing leaf) (shape_of growing.tree) (Empty []) bits is.splits stands unfixed in
    rw (nodes_of_shape growing.tree, is.root) at room
