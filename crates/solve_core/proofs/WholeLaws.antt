-- What a whole tree shows: its least number is a bound that its text certifies, and each leaf is earned.
use Rattle.std.proofs.Common.{◌≡◌, ◌⊎◌, inl, inr, ℕ, ◌*◌, ◌<◌, ◌≤◌, ◌^◌, Option, Some, None, List, [], ◌++◌, length, All}
use Rattle.std.proofs.Common.{refl, subst, ap, ◌∙◌, sym, arith}
use Rattle.std.specs.Prelude.{ℤ, pos, ◌+ℤ◌, ◌-ℤ◌, ◌*ℤ◌, ◌≤ℤ◌, unsigned_abs, true}
use Rattle.std.proofs.lemmas.Bool.{cases_eq}
use Rattle.std.proofs.lemmas.Int.{ints}
use Rattle.std.proofs.lemmas.List.{get_or-map, get_or-set_other, get_or-set_same, length-map, length-set}
use Rattle.std.proofs.lemmas.List.Elements.{All-append, All-cons}
use Rattle.listed.proofs.WholeSums.{whole_sum_below-same}
use Rattle.ct_base.specs.Validity.{IsValid}
use Rattle.ct_base.specs.declared.net.Net.{Net}
use Rattle.ct_base.specs.declared.plan.Plan.{Plan}
use Rattle.sparse_program.specs.Box.{IsBox, Ranges, low_of}
use Rattle.sparse_program.specs.Program.{Parts, col_of, column_of, entry, no_col, row_of}
use Rattle.sparse_program.specs.Terms.{coefficient, terms_sum}
use Rattle.sparse_program.specs.declared.column.Col.{Col}
use Rattle.sparse_program.specs.declared.limits.TheConstants.{MAX_COLUMNS, MAX_ROWS}
use Rattle.sparse_program.proofs.MatrixLaws.{column_sum}
use Rattle.traffic_model.specs.Delay.{letters_at}
use Rattle.traffic_model.specs.Runs.{IsAdmissiblePlan}
use Rattle.traffic_model.proofs.DelayLaws.{delay_of-lt}
use Rattle.program_model.specs.Numbers.{plan_count}
use Rattle.program_model.specs.Points.{program_of}
use Rattle.certificate_model.specs.Certificates.{root_of}
use Rattle.certificate_model.specs.Leaves.{plan_delay}
use Rattle.certificate_model.specs.Nodes.{LeafNode, SplitNode, nodes_of}
use Rattle.certificate_model.specs.Text.{IsSpelled, IsSpelledPair, IsWhole}
use Rattle.certificate_model.specs.Tree.{AtLeaf, Empty, Fixed, IsGood, IsLeafOf, IsSplit, Leaf, Priced, Split, Tree, left_of, right_of}
use Rattle.certificate_model.specs.Value.{AreLawful, column_value, cost_counted, reduced_cost, value}
use Rattle.certificate_model.proofs.TreeLaws.{leaf_is_good}
use Rattle.safe_bound.specs.Prices.{price_at}
use Rattle.seed_prices.specs.Seed.{BeginsWithin}
use Rattle.seed_prices.proofs.ValueLaw.{seed_value}
use Rattle.branch_tree.specs.Boxes.{Growing}
use Rattle.branch_tree.specs.OpenTree.{Closed, Open, OpenTree, Parted, closed_of, joined, size}
use Rattle.branch_tree.proofs.GoodLaws.{good_whole}
use Rattle.search_model.specs.LeafNumbers.{GivesNumber, IsGivenIn, IsLawfulLeaf, IsLeastGiven}
use Rattle.search_model.specs.Splits.{AreFirstSplits}
use Rattle.search_model.proofs.BitLaws.{root_has_bits}
use Rattle.search_model.proofs.NumberLaws.{least_number_is_certified, number_below_delay}
use Rattle.solve_core.proofs.ShapeLaws.{nodes_of_shape}
use Rattle.solve_core.specs.Earned.{IsEarned}
use Rattle.solve_core.specs.Growth.{IsClosedWell, IsTreeOf, no_number}
use Rattle.solve_core.specs.Searched.{IsReached, IsSearched}
use Rattle.solve_core.specs.Shapes.{ClosedGives, shape_of}
use Rattle.solve_core.specs.declared.constants.TheConstants.{MAX_WORK}
use Rattle.solve_core.proofs.TextLaws.{fits}

-- ---- the shape of a tree

-- a whole tree is its shape
pub shape_is : (tree : OpenTree) (whole : Tree) → closed_of tree ≡ Some whole → shape_of tree ≡ whole
shape_is (Open n) whole closed = absurd (cc)
shape_is (Closed n leaf) whole closed = cc
shape_is (Parted n column at left right) whole closed =
    sides column at (closed_of left) (closed_of right) (shape_of left) (shape_of right) whole closed (shape_is left) (shape_is right)
  where
    sides : (column : ℕ) (at : ℤ) (left right : Option Tree) (l r whole : Tree) → joined column at left right ≡ Some whole →
        ((first : Tree) → left ≡ Some first → l ≡ first) → ((second : Tree) → right ≡ Some second → r ≡ second) →
        Split column at l r ≡ whole
    sides column at None right l r whole is first second = absurd (cc)
    sides column at (Some a) None l r whole is first second = absurd (cc)
    sides column at (Some a) (Some b) l r whole is first second =
        let same : Split column at a b ≡ whole = cc in
        rw (first a refl, second b refl) same

-- a leaf of a tree gives a number
record IsGivenBelow (net : Net) (box : Ranges) (tree : Tree) (number : ℤ) : Type 0 where
  inner : Ranges
  leaf : Leaf
  of : IsLeafOf box tree inner leaf
  gives : GivesNumber net inner leaf number

-- what a closed leaf gives, a leaf of the shape gives
given_below : (net : Net) (box : Ranges) (tree : OpenTree) (number : ℤ) → ClosedGives net box tree number →
    IsGivenBelow net box (shape_of tree) number
given_below net box (Open n) number gives = absurd gives
given_below net box (Closed n leaf) number gives = record { inner = box; leaf = leaf; of = (refl, refl); gives = gives }
given_below net box (Parted n column at left right) number (inl gives) =
    let there = given_below net (left_of box column at) left number gives in
    record { inner = there.inner; leaf = there.leaf; of = inl there.of; gives = there.gives }
given_below net box (Parted n column at left right) number (inr gives) =
    let there = given_below net (right_of box column at) right number gives in
    record { inner = there.inner; leaf = there.leaf; of = inr there.of; gives = there.gives }

-- a good tree is good in each other way in which its leaves are
still_good : (Good Other : Ranges → Leaf → Type 0) (box : Ranges) (tree : Tree) →
    ((inner : Ranges) (leaf : Leaf) → Good inner leaf → Other inner leaf) → IsGood Good box tree → IsGood Other box tree
still_good Good Other box (AtLeaf leaf) each good = each box leaf good
still_good Good Other box (Split column at left right) each good = (
  good.0,
  still_good Good Other (left_of box column at) left each good.1,
  still_good Good Other (right_of box column at) right each good.2,
)

-- ---- the boxes of leaves

-- a box begins no lower than columns do, and has as many highs as lows
record Begins (columns : List Col) (box : Ranges) : Type 0 where
  within : BeginsWithin columns box
  same : length box.highs ≡ length box.lows

begins_left : (columns : List Col) (box : Ranges) (column : ℕ) (at : ℤ) → Begins columns box → IsSplit box column at →
    Begins columns (left_of box column at)
begins_left columns box column at begins split = record {
  within = record {
    low = begins.within.low;
    bounds = λ j there.
        elim (cases_eq j column) [
          | inl e ↦ rw e (rw (get_or-set_same box.highs column at (pos 0) (omega (arith, split.there, begins.same))) split.low)
          | inr ne ↦ rw (get_or-set_other box.highs column j at (pos 0) ne) (begins.within.bounds j there)
        ];
  };
  same = length-set box.highs column at ∙ begins.same;
}

begins_right : (columns : List Col) (box : Ranges) (column : ℕ) (at : ℤ) → Begins columns box → IsSplit box column at →
    Begins columns (right_of box column at)
begins_right columns box column at begins split =
    let above = at +ℤ pos 1 in
    record {
      within = record {
        low = λ j there.
            elim (cases_eq j column) [
              | inl e ↦
                  let low = begins.within.low column (omega (arith, there, e)) in
                  rw e (rw (get_or-set_same box.lows column above (pos 0) split.there) (omega (arith, ints, low, split.low)))
              | inr ne ↦ rw (get_or-set_other box.lows column j above (pos 0) ne) (begins.within.low j there)
            ];
        bounds = λ j there.
            elim (cases_eq j column) [
              | inl e ↦ rw e (rw (get_or-set_same box.lows column above (pos 0) split.there) (omega (arith, ints, split.high)))
              | inr ne ↦ rw (get_or-set_other box.lows column j above (pos 0) ne) (begins.within.bounds j there)
            ];
      };
      same = begins.same ∙ sym (length-set box.lows column above);
    }

-- so does the box of each leaf
leaf_begins : (Good : Ranges → Leaf → Type 0) (columns : List Col) (box inner : Ranges) (tree : Tree) (leaf : Leaf) →
    Begins columns box → IsGood Good box tree → IsLeafOf box tree inner leaf → Begins columns inner
leaf_begins Good columns box inner (AtLeaf here) leaf begins good of = rw of.0 begins
leaf_begins Good columns box inner (Split column at left right) leaf begins good (inl of) =
    let side = begins_left columns box column at begins good.0 in
    leaf_begins Good columns (left_of box column at) inner left leaf side good.1 of
leaf_begins Good columns box inner (Split column at left right) leaf begins good (inr of) =
    let side = begins_right columns box column at begins good.0 in
    leaf_begins Good columns (right_of box column at) inner right leaf side good.2 of

-- and that of all points
root_begins : (net : Net) → IsBox (root_of net) → Begins (program_of net).columns (root_of net)
root_begins net is_box =
    let columns = (program_of net).columns in
    record {
      within = record {
        low = λ j there.
            let low : low_of (root_of net) j ≡ (col_of columns j).low =
            get_or-map (λ (c : Col). c.low) columns j no_col (pos 0) there in
            rw low (omega (arith, ints));
        bounds = λ j there.
            let lows = length-map columns (λ (c : Col). c.low) in
            (is_box.each j (omega (arith, there, lows))).bounds;
      };
      same = is_box.same;
    }

-- ---- the numbers that leaves give

-- what prices pay for a column is the same where they are the same on all rows
paid_same : (program : Parts) (j : ℕ) (p q : ℕ → ℤ) → ((i : ℕ) → i < length program.rows → p i ≡ q i) →
    terms_sum (column_of program.rows j) p ≡ terms_sum (column_of program.rows j) q
paid_same program j p q same =
    let rows = program.rows in
    column_sum rows j p
    ∙ whole_sum_below-same (length rows) (λ i. entry rows i j *ℤ p i) (λ i. entry rows i j *ℤ q i)
    (λ i there. ap (λ (z : ℤ). entry rows i j *ℤ z) (same i there))
    ∙ sym (column_sum rows j q)

-- and so is their value
value_same : (program : Parts) (box : Ranges) (p q : ℕ → ℤ) → ((i : ℕ) → i < length program.rows → p i ≡ q i) →
    value program true box p ≡ value program true box q
unfolding value
value_same program box p q same =
    let side = λ (i : ℕ). (row_of program.rows i).rhs in
    let sides = whole_sum_below-same (length program.rows) (λ i. p i *ℤ side i) (λ i. q i *ℤ side i)
    (λ i there. ap (λ (z : ℤ). z *ℤ side i) (same i there)) in
    let cost = reduced_cost program true in
    let columns = whole_sum_below-same (length program.columns) (λ j. column_value box (cost p j) j) (λ j. column_value box (cost q j) j)
    (λ j there. ap (λ (z : ℤ). column_value box (cost_counted program true j -ℤ z) j) (paid_same program j p q same)) in
    omega (arith, ints, sides, columns)

-- no number that an earned leaf gives is below 0
from_zero : (net : Net) (delay number : ℤ) (box : Ranges) (leaf : Leaf) → IsValid net → BeginsWithin (program_of net).columns box →
    IsEarned net delay box leaf → GivesNumber net box leaf number → pos 0 ≤ℤ number
from_zero net delay number box (Priced pairs) valid begins earned gives =
    let seed = seed_value net box valid begins in
    let same = value_same (program_of net) box (coefficient pairs) (price_at earned.prices) earned.named in
    omega (arith, ints, seed, same, earned.worked.above_seed, gives.enough)
from_zero net delay number box (Empty pairs) valid begins earned gives = absurd gives
from_zero net delay number box Fixed valid begins earned gives = rw gives.1.1 (omega (arith, ints))

-- ---- the spelling of nodes

-- lawful pairs have a spelling, where the rows are few
spelled_pairs : (net : Net) (pairs : List (ℕ × ℤ)) → length (program_of net).rows ≤ MAX_ROWS → AreLawful (program_of net).rows pairs →
    All IsSpelledPair pairs
spelled_pairs net pairs few lawful = λ i d there. record {
  row = omega (arith, few, lawful.there i d there);
  some = lawful.some i d there;
  price = omega (arith, lawful.within i d there);
}

spelled_leaf : (net : Net) (box : Ranges) (leaf : Leaf) → length (program_of net).rows ≤ MAX_ROWS → IsLawfulLeaf net box leaf →
    IsSpelled (LeafNode leaf)
spelled_leaf net box (Priced pairs) few lawful = spelled_pairs net pairs few lawful
spelled_leaf net box (Empty pairs) few lawful = spelled_pairs net pairs few lawful.lawful
spelled_leaf net box Fixed few lawful = tt

-- and so have all nodes of a tree of first splits, where the plan columns are few too
spelled : (net : Net) (box : Ranges) (tree : Tree) → length (program_of net).rows ≤ MAX_ROWS → plan_count net ≤ MAX_COLUMNS →
    IsGood (IsLawfulLeaf net) box tree → AreFirstSplits net box tree → All IsSpelled (nodes_of tree)
spelled net box (AtLeaf leaf) few columns lawful splits =
    All-cons IsSpelled (LeafNode leaf) [] (spelled_leaf net box leaf few lawful) (λ i d there. absurd (omega (arith, there)))
spelled net box (Split column at left right) few columns lawful splits =
    let here : IsSpelled (SplitNode column at) = (omega (arith, columns, splits.0.of_plan), rw splits.1 (omega arith)) in
    let in_left = spelled net (left_of box column at) left few columns lawful.1 splits.2 in
    let in_right = spelled net (right_of box column at) right few columns lawful.2 splits.3 in
    All-cons IsSpelled (SplitNode column at) (nodes_of left ++ nodes_of right) here
    (All-append IsSpelled (nodes_of left) (nodes_of right) in_left in_right)

-- ---- a whole tree

-- what is known of a whole tree that a search has grown
record IsGrown (net : Net) (delay least : ℤ) (nodes : ℕ) (tree : Tree) : Type 0 where
  closed : IsGood (IsClosedWell net delay least) (root_of net) tree
  splits : AreFirstSplits net (root_of net) tree
  as_many : length (nodes_of tree) ≡ nodes
  given : (least ≡ no_number) ⊎ IsGivenIn net tree least

-- the closed leaf that gives the least number is one of the whole tree
whole_gives : (net : Net) (number : ℤ) (root : Ranges) (tree : OpenTree) (whole : Tree) → root ≡ root_of net → shape_of tree ≡ whole →
    ClosedGives net root tree number → IsGivenIn net whole number
whole_gives net number root tree whole is shape gives =
    let in_shape = given_below net root tree number gives in
    let in_whole : IsGivenBelow net root whole number = subst (λ (t : Tree). IsGivenBelow net root t number) shape in_shape in
    let there : IsGivenBelow net (root_of net) whole number = subst (λ (box : Ranges). IsGivenBelow net box whole number) is in_whole in
    record { inner = there.inner; leaf = there.leaf; of = there.of; gives = there.gives }

whole_is_grown : (net : Net) (budget : ℕ) (delay least : ℤ) (growing : Growing) (whole : Tree) → IsTreeOf net budget delay least growing →
    closed_of growing.tree ≡ Some whole → IsGrown net delay least (size growing.tree) whole
whole_is_grown net budget delay least growing whole is closed =
    let shape : shape_of growing.tree ≡ whole = shape_is growing.tree whole closed in
    let good = good_whole (IsClosedWell net delay least) growing.root growing.tree whole is.keeps.splits is.closed closed in
    let splits = subst (λ (tree : Tree). AreFirstSplits net growing.root tree) shape is.splits in
    record {
      closed = subst (λ (box : Ranges). IsGood (IsClosedWell net delay least) box whole) is.root good;
      splits = subst (λ (box : Ranges). AreFirstSplits net box whole) is.root splits;
      as_many = rw (← shape) (nodes_of_shape growing.tree);
      given =
          elim is.given [
            | inl none ↦ inl none
            | inr gives ↦ inr (whole_gives net least growing.root growing.tree whole is.root shape gives)
          ];
    }

-- the leaves of a tree that are closed well are lawful
lawful_leaves : (net : Net) (delay least : ℤ) (tree : Tree) → IsGood (IsClosedWell net delay least) (root_of net) tree →
    IsGood (IsLawfulLeaf net) (root_of net) tree
lawful_leaves net delay least tree closed =
    still_good (IsClosedWell net delay least) (IsLawfulLeaf net) (root_of net) tree (λ inner leaf well. well.lawful) closed

-- no number that one of them gives is below 0
given_from_zero : (net : Net) (delay least number : ℤ) (tree : Tree) → IsValid net → IsBox (root_of net) →
    IsGood (IsClosedWell net delay least) (root_of net) tree → IsGivenIn net tree number → pos 0 ≤ℤ number
given_from_zero net delay least number tree valid box closed given =
    let Well : Ranges → Leaf → Type 0 = IsClosedWell net delay least in
    let inner = given.inner in
    let leaf = given.leaf in
    let well = leaf_is_good Well (root_of net) tree inner leaf closed given.of in
    let begins = leaf_begins Well (program_of net).columns (root_of net) inner tree leaf (root_begins net box) closed given.of in
    from_zero net delay number inner leaf valid begins.within well.earned given.gives

-- a delay is below 2 ^ 49
pub delay_is_small : (net : Net) (plan : Plan) → IsValid net → unsigned_abs (plan_delay net plan) < 2 ^ 49
delay_is_small net plan valid = omega (arith, delay_of-lt net (letters_at plan.words) net.steps valid (omega arith))

-- the least number is given by a leaf: some leaf gives no more than the delay of the plan, while no leaf gives less than the least
least_is_given : (net : Net) (least : ℤ) (nodes : ℕ) (tree : Tree) (plan : Plan) → IsValid net → IsAdmissiblePlan net plan →
    IsGrown net (plan_delay net plan) least nodes tree → IsLeastGiven net tree least
least_is_given net least nodes tree plan valid admissible grown =
    let delay = plan_delay net plan in
    let below : (number : ℤ) → IsGivenIn net tree number → least ≤ℤ number =
    λ number is. (leaf_is_good (IsClosedWell net delay least) (root_of net) tree is.inner is.leaf grown.closed is.of).above number is.gives in
    record {
      given =
          elim grown.given [
            | inl none ↦
                let some = number_below_delay net tree plan valid (lawful_leaves net delay least tree grown.closed) admissible in
                let less = below some.0 some.1.0 in
                absurd (omega (arith, ints, less, some.1.1, delay_is_small net plan valid, none))
            | inr given ↦ given
          ];
      least = below;
    }

-- a whole tree of a search shows its least number as a bound
pub whole_is_searched : (net : Net) (budget : ℕ) (least : ℤ) (growing : Growing) (whole : Tree) (plan : Plan) → IsValid net →
    length (program_of net).rows ≤ MAX_ROWS → budget * length (program_of net).rows ≤ MAX_WORK → IsAdmissiblePlan net plan →
    IsTreeOf net budget (plan_delay net plan) least growing → IsReached net budget (plan_delay net plan) least (size growing.tree) →
    closed_of growing.tree ≡ Some whole → IsSearched net budget (plan_delay net plan) least whole
whole_is_searched net budget least growing whole plan valid few work admissible is reached closed =
    let delay = plan_delay net plan in
    let box = subst IsBox is.root is.keeps.root in
    let grown = whole_is_grown net budget delay least growing whole is closed in
    let lawful = lawful_leaves net delay least whole grown.closed in
    let bound = least_is_given net least (size growing.tree) whole plan valid admissible grown in
    let some = number_below_delay net whole plan valid lawful admissible in
    let above = given_from_zero net delay least least whole valid box grown.closed bound.given in
    let below : least ≤ℤ plan_delay net plan = omega (arith, ints, bound.least some.0 some.1.0, some.1.1) in
    let short : IsWhole least = omega (arith, ints, above, below, delay_is_small net plan valid) in
    let columns : plan_count net ≤ MAX_COLUMNS = omega (arith, (root_has_bits net).there, box.few) in
    let nodes = spelled net (root_of net) whole few columns lawful grown.splits in
    let within : length (nodes_of whole) ≤ budget = omega (arith, grown.as_many, is.few) in
    record {
      certified = least_number_is_certified net least whole lawful bound;
      least = bound;
      from_zero = above;
      to_delay = below;
      text = record { written = refl; bound = short; nodes = nodes };
      fits = fits net budget least whole valid few work within short nodes lawful grown.splits;
      within = within;
      splits = grown.splits;
      earned = λ inner leaf of.
          (leaf_is_good (IsClosedWell net delay least) (root_of net) whole inner leaf grown.closed of).earned;
      reached = rw grown.as_many reached;
    }
