-- A split on an open plan column fixes it on both sides; so a tree of such splits has few nodes.
use Rattle.std.proofs.Common.{◌≡◌, ◌≢◌, inl, inr, ℕ, zero, suc, ◌+◌, ◌<◌, ◌≤◌, ◌^◌, length, length-set, refl, ap, ◌∙◌, subst, sym, arith, add-one}
use Rattle.std.specs.Prelude.{ℤ, pos, ◌≤ℤ◌, ◌<ℤ◌, int_lt}
use Rattle.std.proofs.lemmas.Bool.{cases_eq}
use Rattle.std.proofs.lemmas.Int.{ints}
use Rattle.std.proofs.lemmas.List.{get_or-set_other, get_or-set_same, length-append}
use Rattle.listed.specs.Below.{sum_below}
use Rattle.listed.proofs.SumLaws.{sum_below-same, sum_below-term}
use Rattle.ct_base.specs.declared.net.Net.{Net}
use Rattle.sparse_program.specs.Box.{Ranges, high_of, low_of}
use Rattle.program_model.specs.Numbers.{plan_count}
use Rattle.program_model.specs.Values.{one_where}
use Rattle.certificate_model.specs.Nodes.{nodes_of}
use Rattle.certificate_model.specs.Reasons.{IsUnfixed}
use Rattle.certificate_model.specs.Tree.{AtLeaf, IsLeafOf, Leaf, Split, Tree, left_of, right_of}
use Rattle.certificate_model.proofs.ReasonLaws.{le-int_lt, lt-int_lt}
use Rattle.search_model.specs.Splits.{AreFirstSplits, HasBits, IsFirstUnfixed, unfixed_count}

-- sums that differ by one at one place
sum_below-one_less : (n c : ℕ) (f g : ℕ → ℕ) → c < n → ((k : ℕ) → k < n → k ≢ c → f k ≡ g k) → f c ≡ g c + 1 → sum_below n f ≡ sum_below n g + 1
unfolding sum_below
sum_below-one_less zero c f g inside others here = absurd (omega (arith, inside))
sum_below-one_less (suc n) c f g inside others here =
    elim (cases_eq n c) [
      | inl e ↦
          let before : sum_below n f ≡ sum_below n g = sum_below-same n f g (λ k h. others k (omega (arith, h)) (λ same. absurd (omega (arith, h, same, e)))) in
          let last : f n ≡ g n + 1 = rw e here in
          omega (arith, before, last)
      | inr ne ↦
          let before : sum_below n f ≡ sum_below n g + 1 = sum_below-one_less n c f g (omega (arith, inside, ne)) (λ k h. others k (omega (arith, h))) here in
          let last : f n ≡ g n = others n (omega arith) ne in
          omega (arith, before, last)
    ]

-- 1 where a box leaves a column open
abbrev open_at : Ranges → ℕ → ℕ
open_at box j = one_where (int_lt (low_of box j) (high_of box j))

open_where : (box : Ranges) (j : ℕ) → low_of box j <ℤ high_of box j → open_at box j ≡ 1
open_where box j several = ap one_where (lt-int_lt (low_of box j) (high_of box j) several)

fixed_where : (box : Ranges) (j : ℕ) → high_of box j ≤ℤ low_of box j → open_at box j ≡ 0
fixed_where box j one = ap one_where (le-int_lt (low_of box j) (high_of box j) one)

-- ---- the sides of a split

left_has_bits : (net : Net) (box : Ranges) (column : ℕ) → HasBits net box → HasBits net (left_of box column (pos 0))
left_has_bits net box column bits = record {
  there = bits.there;
  same = length-set box.highs column (pos 0) ∙ bits.same;
  low = bits.low;
  high = λ j inside.
      elim (cases_eq j column) [
        | inl e ↦ rw e (rw (get_or-set_same box.highs column (pos 0) (pos 0) (omega (arith, inside, e, bits.there, bits.same))) (omega (arith, ints)))
        | inr ne ↦ rw (get_or-set_other box.highs column j (pos 0) (pos 0) ne) (bits.high j inside)
      ];
}

right_has_bits : (net : Net) (box : Ranges) (column : ℕ) → HasBits net box → HasBits net (right_of box column (pos 0))
right_has_bits net box column bits = record {
  there = omega (arith, bits.there, length-set box.lows column (pos 1));
  same = bits.same ∙ sym (length-set box.lows column (pos 1));
  low = λ j inside.
      elim (cases_eq j column) [
        | inl e ↦ rw e (rw (get_or-set_same box.lows column (pos 1) (pos 0) (omega (arith, inside, e, bits.there))) (omega (arith, ints)))
        | inr ne ↦ rw (get_or-set_other box.lows column j (pos 1) (pos 0) ne) (bits.low j inside)
      ];
  high = bits.high;
}

left_has_fewer : (net : Net) (box : Ranges) (column : ℕ) → HasBits net box → IsFirstUnfixed net box column →
    unfixed_count net box ≡ unfixed_count net (left_of box column (pos 0)) + 1
left_has_fewer net box column bits first =
    let there : column < length box.highs = omega (arith, first.of_plan, bits.there, bits.same) in
    let high : high_of (left_of box column (pos 0)) column ≡ pos 0 = get_or-set_same box.highs column (pos 0) (pos 0) there in
    let fixed : high_of (left_of box column (pos 0)) column ≤ℤ low_of box column = rw high (bits.low column first.of_plan) in
    sum_below-one_less (plan_count net) column (open_at box) (open_at (left_of box column (pos 0))) first.of_plan
    (λ k inside other. rw (get_or-set_other box.highs column k (pos 0) (pos 0) other) refl)
    (let one = open_where box column first.several in let none = fixed_where (left_of box column (pos 0)) column fixed in omega (arith, one, none))

right_has_fewer : (net : Net) (box : Ranges) (column : ℕ) → HasBits net box → IsFirstUnfixed net box column →
    unfixed_count net box ≡ unfixed_count net (right_of box column (pos 0)) + 1
right_has_fewer net box column bits first =
    let there : column < length box.lows = omega (arith, first.of_plan, bits.there) in
    let low : low_of (right_of box column (pos 0)) column ≡ pos 1 = get_or-set_same box.lows column (pos 1) (pos 0) there in
    let fixed : high_of box column ≤ℤ low_of (right_of box column (pos 0)) column = rw low (bits.high column first.of_plan) in
    sum_below-one_less (plan_count net) column (open_at box) (open_at (right_of box column (pos 0))) first.of_plan
    (λ k inside other. rw (get_or-set_other box.lows column k (pos 1) (pos 0) other) refl)
    (let one = open_where box column first.several in let none = fixed_where (right_of box column (pos 0)) column fixed in omega (arith, one, none))

-- ---- the nodes of a tree

-- a power of two doubles, and is at least one, and from the second on at least four
twice : (n : ℕ) → 2 ^ (n + 1) ≡ 2 ^ n + 2 ^ n
twice n = rw add-one (omega arith)

some : (n : ℕ) → 1 ≤ 2 ^ n
some zero = omega arith
some (suc n) = let before = some n in omega (arith, before)

two_at_least : (n : ℕ) → 1 ≤ n → 2 ≤ 2 ^ n
two_at_least zero several = absurd (omega (arith, several))
two_at_least (suc n) several = let one = some n in omega (arith, one)

four_at_least : (n : ℕ) → 1 ≤ n → 4 ≤ 2 ^ (n + 1)
four_at_least n several = let two = two_at_least n several in let double = twice n in omega (arith, two, double)

-- the nodes that fit on each side of a split are half of those that fit in all
half_of : (net : Net) (box : Ranges) (column : ℕ) → HasBits net box → IsFirstUnfixed net box column →
    (2 ^ (unfixed_count net (left_of box column (pos 0)) + 1) + 2 ^ (unfixed_count net (left_of box column (pos 0)) + 1) ≡ 2 ^ (unfixed_count net box + 1))
    × (2 ^ (unfixed_count net (right_of box column (pos 0)) + 1) ≡ 2 ^ (unfixed_count net (left_of box column (pos 0)) + 1))
half_of net box column bits first =
    let in_left = left_has_fewer net box column bits first in
    let in_right = right_has_fewer net box column bits first in
    let equal : unfixed_count net (right_of box column (pos 0)) ≡ unfixed_count net (left_of box column (pos 0)) = omega (arith, in_left, in_right) in
    (rw in_left (sym (twice (unfixed_count net (left_of box column (pos 0)) + 1))), ap (λ n. 2 ^ (n + 1)) equal)

-- the nodes of a split
nodes_of_split : (column : ℕ) (at : ℤ) (left right : Tree) → length (nodes_of (Split column at left right)) ≡ 1 + length (nodes_of left) + length (nodes_of right)
nodes_of_split column at left right = let both = length-append (nodes_of left) (nodes_of right) in omega (arith, both)

pub few_nodes : (net : Net) (box : Ranges) (tree : Tree) → HasBits net box → AreFirstSplits net box tree → length (nodes_of tree) + 1 ≤ 2 ^ (unfixed_count net box + 1)
few_nodes net box (AtLeaf leaf) bits splits = let one = some (unfixed_count net box) in let double = twice (unfixed_count net box) in omega (arith, one, double)
few_nodes net box (Split column at left right) bits splits =
    let to_left : AreFirstSplits net (left_of box column (pos 0)) left = subst (λ (z : ℤ). AreFirstSplits net (left_of box column z) left) splits.1 splits.2 in
    let to_right : AreFirstSplits net (right_of box column (pos 0)) right = subst (λ (z : ℤ). AreFirstSplits net (right_of box column z) right) splits.1 splits.3 in
    let in_left = few_nodes net (left_of box column (pos 0)) left (left_has_bits net box column bits) to_left in
    let in_right = few_nodes net (right_of box column (pos 0)) right (right_has_bits net box column bits) to_right in
    let nodes = nodes_of_split column at left right in
    let halves = half_of net box column bits splits.0 in
    omega (arith, in_left, in_right, nodes, halves.0, halves.1)

-- a leaf that leaves a plan column open has a box that leaves one open
some_open : (net : Net) (box : Ranges) → IsUnfixed net box → 1 ≤ unfixed_count net box
some_open net box unfixed =
    let one = open_where box unfixed.column unfixed.several in
    let term = sum_below-term (plan_count net) unfixed.column (open_at box) unfixed.of_plan in
    omega (arith, one, term)

-- where a leaf still leaves a plan column open, two more nodes fit
pub room_for_more : (net : Net) (box inner : Ranges) (tree : Tree) (leaf : Leaf) → HasBits net box → AreFirstSplits net box tree →
    IsLeafOf box tree inner leaf → IsUnfixed net inner → length (nodes_of tree) + 3 ≤ 2 ^ (unfixed_count net box + 1)
room_for_more net box inner (AtLeaf here) leaf bits splits of unfixed =
    let several : 1 ≤ unfixed_count net box = some_open net box (subst (IsUnfixed net) of.0 unfixed) in
    four_at_least (unfixed_count net box) several
room_for_more net box inner (Split column at left right) leaf bits splits (inl of) unfixed =
    let to_left : AreFirstSplits net (left_of box column (pos 0)) left = subst (λ (z : ℤ). AreFirstSplits net (left_of box column z) left) splits.1 splits.2 in
    let to_right : AreFirstSplits net (right_of box column (pos 0)) right = subst (λ (z : ℤ). AreFirstSplits net (right_of box column z) right) splits.1 splits.3 in
    let there : IsLeafOf (left_of box column (pos 0)) left inner leaf = subst (λ (z : ℤ). IsLeafOf (left_of box column z) left inner leaf) splits.1 of in
    let in_left = room_for_more net (left_of box column (pos 0)) inner left leaf (left_has_bits net box column bits) to_left there unfixed in
    let in_right = few_nodes net (right_of box column (pos 0)) right (right_has_bits net box column bits) to_right in
    let nodes = nodes_of_split column at left right in
    let halves = half_of net box column bits splits.0 in
    omega (arith, in_left, in_right, nodes, halves.0, halves.1)
room_for_more net box inner (Split column at left right) leaf bits splits (inr of) unfixed =
    let to_left : AreFirstSplits net (left_of box column (pos 0)) left = subst (λ (z : ℤ). AreFirstSplits net (left_of box column z) left) splits.1 splits.2 in
    let to_right : AreFirstSplits net (right_of box column (pos 0)) right = subst (λ (z : ℤ). AreFirstSplits net (right_of box column z) right) splits.1 splits.3 in
    let there : IsLeafOf (right_of box column (pos 0)) right inner leaf = subst (λ (z : ℤ). IsLeafOf (right_of box column z) right inner leaf) splits.1 of in
    let in_left = few_nodes net (left_of box column (pos 0)) left (left_has_bits net box column bits) to_left in
    let in_right = room_for_more net (right_of box column (pos 0)) inner right leaf (right_has_bits net box column bits) to_right there unfixed in
    let nodes = nodes_of_split column at left right in
    let halves = half_of net box column bits splits.0 in
    omega (arith, in_left, in_right, nodes, halves.0, halves.1)
