-- Leaves whose box leaves no plan column open: the box has one list of bits, and can be closed as fixed where they are an admissible plan's.
use Rattle.std.proofs.Common.{◌≡◌, inl, inr, ℕ, zero, suc, ◌<◌, ◌≤◌, List, length, length-set, map, get_or, set, take, cond, refl, ap, ◌∙◌, sym, subst, arith, ext_get_or}
use Rattle.std.specs.Prelude.{ℤ, pos, negsuc, ◌≤ℤ◌, ◌<ℤ◌, ◌+ℤ◌, IsTrue, Some}
use Rattle.std.proofs.lemmas.Bool.{cases_eq, cond_both}
use Rattle.std.proofs.lemmas.Int.{clamps, ints}
use Rattle.std.proofs.lemmas.List.{get_or_default, get_or-map, get_or-set_other, get_or-set_same, get_or-take, length-map, length-take-le}
use Rattle.ct_base.specs.Access.{signal_of}
use Rattle.ct_base.specs.Validity.{IsValid}
use Rattle.ct_base.specs.declared.net.Net.{Net}
use Rattle.ct_base.specs.declared.plan.Letter.{Letter}
use Rattle.ct_base.specs.declared.plan.Plan.{Plan}
use Rattle.sparse_program.specs.Box.{IsBox, Ranges, high_of, low_of}
use Rattle.sparse_program.specs.Program.{no_col}
use Rattle.sparse_program.specs.declared.column.Col.{Col}
use Rattle.traffic_model.specs.Runs.{IsAdmissiblePlan}
use Rattle.program_model.specs.Columns.{Bit, Column, Units, columns}
use Rattle.program_model.specs.Existence.{IsColumn, IsLetterOf}
use Rattle.program_model.specs.Numbers.{number_of, plan_count}
use Rattle.program_model.specs.Points.{col, program_of}
use Rattle.program_model.specs.Values.{least_of, most_of}
use Rattle.program_model.proofs.NumberLaws.{bit_stands}
use Rattle.program_model.proofs.PlaceLaws.{column_stands}
use Rattle.certificate_model.specs.Certificates.{root_of}
use Rattle.certificate_model.specs.Leaves.{FixesPlan, bits_of, plan_delay}
use Rattle.certificate_model.specs.Tree as model
use Rattle.certificate_model.specs.Tree.{left_of, right_of}
use Rattle.certificate_model.proofs.PlanLaws.{one_fixed_delay}
use Rattle.rule_breaks.specs.Breaks.{IsOffOrOn, value_in}
use Rattle.search_model.specs.Splits.{HasBits}
use Rattle.branch_tree.specs.Boxes.{AreSplits, Growing, IsGrowing, box_below, box_of}
use Rattle.branch_tree.specs.OpenTree.{Closed, Open, OpenTree, Parted, has, is_open}
use Rattle.solve_core.specs.inner.Decided.{AreBitsOfBox, AreFixedBits}
use Rattle.solve_core.specs.inner.Searching.{CanClose, IsSearching}
use Rattle.solve_core.specs.declared.search.Search.{Search}

-- ---- the boxes of nodes lie in that of the root

-- a box lies in another, as to one column
abbrev LiesIn : Ranges → ℕ → Ranges → Type 0
LiesIn box j inner = (low_of box j ≤ℤ low_of inner j) × (high_of inner j ≤ℤ high_of box j)

lies_through : (box middle inner : Ranges) (j : ℕ) → LiesIn box j middle → LiesIn middle j inner → LiesIn box j inner
lies_through box middle inner j outer further = (omega (arith, ints, outer.0, further.0), omega (arith, ints, outer.1, further.1))

left_lies : (box : Ranges) (column : ℕ) (at : ℤ) (j : ℕ) → column < length box.highs → at <ℤ high_of box column → LiesIn box j (left_of box column at)
left_lies box column at j there below =
    elim (cases_eq j column) [
      | inl same ↦
          let high : get_or (set box.highs column at) j (pos 0) ≡ at = rw same (get_or-set_same box.highs column at (pos 0) there) in
          (omega (arith, ints), rw high (rw same (omega (arith, ints, below))))
      | inr other ↦
          let high : get_or (set box.highs column at) j (pos 0) ≡ high_of box j = get_or-set_other box.highs column j at (pos 0) other in
          (omega (arith, ints), rw high (omega (arith, ints)))
    ]

right_lies : (box : Ranges) (column : ℕ) (at : ℤ) (j : ℕ) → column < length box.lows → low_of box column ≤ℤ at → LiesIn box j (right_of box column at)
right_lies box column at j there above =
    elim (cases_eq j column) [
      | inl same ↦
          let low : get_or (set box.lows column (at +ℤ pos 1)) j (pos 0) ≡ at +ℤ pos 1 = rw same (get_or-set_same box.lows column (at +ℤ pos 1) (pos 0) there) in
          (rw low (rw same (omega (arith, ints, above))), omega (arith, ints))
      | inr other ↦
          let low : get_or (set box.lows column (at +ℤ pos 1)) j (pos 0) ≡ low_of box j = get_or-set_other box.lows column j (at +ℤ pos 1) (pos 0) other in
          (rw low (omega (arith, ints)), omega (arith, ints))
    ]

-- the box of a node lies in that of the root
node_lies : (box : Ranges) (tree : OpenTree) (k j : ℕ) → length box.highs ≡ length box.lows → AreSplits box tree → LiesIn box j (box_below box tree k)
node_lies box (Open n) k j same splits = (omega (arith, ints), omega (arith, ints))
node_lies box (Closed n leaf) k j same splits = (omega (arith, ints), omega (arith, ints))
node_lies box (Parted n column at left right) k j same splits =
    let left_box : Ranges = left_of box column at in
    let right_box : Ranges = right_of box column at in
    let left_same : length left_box.highs ≡ length left_box.lows = length-set box.highs column at ∙ same in
    let right_same : length right_box.highs ≡ length right_box.lows = same ∙ sym (length-set box.lows column (at +ℤ pos 1)) in
    let in_left : LiesIn box j (box_below left_box left k) =
    lies_through box left_box (box_below left_box left k) j (left_lies box column at j (omega (arith, same, splits.0.there)) splits.0.high) (node_lies left_box left k j left_same splits.1) in
    let in_right : LiesIn box j (box_below right_box right k) =
    lies_through box right_box (box_below right_box right k) j (right_lies box column at j splits.0.there splits.0.low) (node_lies right_box right k j right_same splits.2) in
    cond_both (has left k) (box_below left_box left k) (cond (has right k) (box_below right_box right k) box) (LiesIn box j) (λ yes. in_left)
    (λ no. cond_both (has right k) (box_below right_box right k) box (LiesIn box j) (λ yes. in_right) (λ none. (omega (arith, ints), omega (arith, ints))))

-- ---- the bits of a box

-- the plan columns of a box are decided
abbrev pub AreDecided : Net → Ranges → Type 0
AreDecided net box = (j : ℕ) → j < plan_count net → high_of box j ≤ℤ low_of box j

-- so that the high of each is its low
decided_at : (net : Net) (box : Ranges) (j : ℕ) → IsBox box → HasBits net box → AreDecided net box → j < plan_count net → high_of box j ≡ low_of box j
decided_at net box j is_box has decided inside =
    let range = is_box.each j (omega (arith, has.there, inside)) in
    omega (arith, ints, range.bounds, decided j inside)

-- the lows of the plan columns are their highs too
pub lows_are_bits : (net : Net) (box : Ranges) → IsBox box → HasBits net box → AreDecided net box → AreBitsOfBox net box (take (plan_count net) box.lows)
lows_are_bits net box is_box has decided =
    let n : ℕ = plan_count net in
    let lows : length (take n box.lows) ≡ n = length-take-le n box.lows has.there in
    let highs : length (take n box.highs) ≡ n = length-take-le n box.highs (omega (arith, has.there, has.same)) in
    record {
      lows = refl;
      highs = ext_get_or (pos 0) (take n box.highs) (take n box.lows) (highs ∙ sym lows)
          (λ j within.
          let inside : j < n = omega (arith, within, highs) in
          get_or-take n box.highs j (pos 0) inside ∙ decided_at net box j is_box has decided inside ∙ sym (get_or-take n box.lows j (pos 0) inside));
    }

-- a whole number between 0 and 1
off_or_on : (value : ℤ) → pos 0 ≤ℤ value → value ≤ℤ pos 1 → IsOffOrOn value
off_or_on (pos zero) above below = inl refl
off_or_on (pos (suc zero)) above below = inr refl
off_or_on (pos (suc (suc n))) above below = absurd (omega (arith, ints, below))
off_or_on (negsuc n) above below = absurd (omega (arith, ints, above))

-- the bounds of a column in the box of all points
root_bounds : (net : Net) (c : Column) → IsColumn net c → (low_of (root_of net) (number_of net c) ≡ pos (least_of net c)) × (high_of (root_of net) (number_of net c) ≡ pos (most_of net c))
unfolding program_of
root_bounds net c is =
    let j : ℕ = number_of net c in
    let stands = column_stands net c (Units 0 0) is in
    let there : j < length (map (col net) (columns net)) = omega (arith, stands.0, length-map (columns net) (col net)) in
    let here : get_or (map (col net) (columns net)) j no_col ≡ col net c = get_or-map (col net) (columns net) j (Units 0 0) no_col stands.0 ∙ ap (col net) stands.1 in (
      get_or-map (λ (column : Col). column.low) (map (col net) (columns net)) j no_col (pos 0) there ∙ ap (λ (column : Col). column.low) here,
      get_or-map (λ (column : Col). column.high) (map (col net) (columns net)) j no_col (pos 0) there ∙ ap (λ (column : Col). column.high) here,
    )

-- the bits of the first step are the fixed ones
begins_fixed : (net : Net) (growing : Growing) (n s : ℕ) (letter : Letter) → IsValid net → IsGrowing growing → growing.root ≡ root_of net → IsBox (box_of growing n) → HasBits net (box_of growing n) →
    AreDecided net (box_of growing n) → s < length net.signals → IsLetterOf (signal_of net.signals s) letter →
    value_in net (take (plan_count net) (box_of growing n).lows) (Bit 0 s letter) ≡ pos (least_of net (Bit 0 s letter))
begins_fixed net growing n s letter valid grows root is_box has decided inside of =
    let box : Ranges = box_of growing n in
    let j : ℕ = number_of net (Bit 0 s letter) in
    let before : 0 < net.steps = omega (arith, valid.steps.0) in
    let there : j < plan_count net = (bit_stands net 0 s letter (Units 0 0) before inside of).0 in
    let fixed = root_bounds net (Bit 0 s letter) (before, inside, of) in
    let lies = node_lies growing.root growing.tree n j grows.root.same grows.splits in
    let low : low_of growing.root j ≡ pos (least_of net (Bit 0 s letter)) = ap (λ (ranges : Ranges). low_of ranges j) root ∙ fixed.0 in
    let high : high_of growing.root j ≡ pos (least_of net (Bit 0 s letter)) = ap (λ (ranges : Ranges). high_of ranges j) root ∙ fixed.1 in
    let same : high_of box j ≡ low_of box j = decided_at net box j is_box has decided there in
    let value : low_of box j ≡ pos (least_of net (Bit 0 s letter)) = omega (arith, ints, lies, low, high, same) in
    get_or-take (plan_count net) box.lows j (pos 0) there ∙ value

-- the bits of a node's box
pub lows_are_fixed_bits : (net : Net) (growing : Growing) (n : ℕ) → IsValid net → IsGrowing growing → growing.root ≡ root_of net → IsBox (box_of growing n) → HasBits net (box_of growing n) →
    AreDecided net (box_of growing n) → AreFixedBits net (take (plan_count net) (box_of growing n).lows)
lows_are_fixed_bits net growing n valid grows root is_box has decided =
    let box : Ranges = box_of growing n in
    let long : length (take (plan_count net) box.lows) ≡ plan_count net = length-take-le (plan_count net) box.lows has.there in
    record {
      columns = long;
      off_or_on = λ j d within.
          let inside : j < plan_count net = omega (arith, within, long) in
          let at : get_or (take (plan_count net) box.lows) j d ≡ low_of box j =
          get_or_default (take (plan_count net) box.lows) j d (pos 0) within ∙ get_or-take (plan_count net) box.lows j (pos 0) inside in
          let same : high_of box j ≡ low_of box j = decided_at net box j is_box has decided inside in
          rw at (off_or_on (low_of box j) (has.low j inside) (omega (arith, ints, same, has.high j inside)));
      begin = λ s letter inside of. begins_fixed net growing n s letter valid grows root is_box has decided inside of;
    }

-- the lows of the plan columns of the box at which a search stands
pub search_has_bits : (net : Net) (budget columns : ℕ) (search : Search) → IsValid net → IsSearching net budget search → columns ≡ plan_count net → IsBox search.costed.box →
    HasBits net (box_of search.tree search.at) → AreDecided net (box_of search.tree search.at) →
    (columns ≤ length search.costed.box.lows) × AreBitsOfBox net (box_of search.tree search.at) (take columns search.costed.box.lows) × AreFixedBits net (take columns search.costed.box.lows)
search_has_bits net budget columns search valid searching count is_box has decided =
    let box : Ranges = box_of search.tree search.at in
    let stands : search.costed.box ≡ box = searching.stands.costed_box in
    let here : IsBox box = subst IsBox stands is_box in
    let bits : take (plan_count net) box.lows ≡ take columns search.costed.box.lows =
    sym (ap (λ (n : ℕ). take n search.costed.box.lows) count ∙ ap (λ (ranges : Ranges). take (plan_count net) ranges.lows) stands) in (
      omega (arith, count, has.there, ap (λ (ranges : Ranges). length ranges.lows) stands),
      subst (AreBitsOfBox net box) bits (lows_are_bits net box here has decided),
      subst (AreFixedBits net) bits (lows_are_fixed_bits net search.tree search.at valid searching.grown.keeps searching.grown.root here has decided),
    )

-- ---- a fixed leaf

-- the bits of a box are those of an admissible plan
pub bits_fix_plan : (net : Net) (box : Ranges) (bits : List ℤ) (plan : Plan) → AreBitsOfBox net box bits → IsAdmissiblePlan net plan → bits ≡ bits_of net plan.words → FixesPlan net box plan
bits_fix_plan net box bits plan of admissible is = record { admissible = admissible; lows = of.lows ∙ is; highs = of.highs ∙ is }

-- a leaf whose box fixes a plan can be closed as fixed, once the best plan is no worse than that plan
pub can_close_fixed : (net : Net) (budget : ℕ) (before after : Search) (plan : Plan) (number : ℤ) → IsValid net → IsTrue (is_open before.tree.tree before.at) →
    FixesPlan net (box_of before.tree before.at) plan → after.tree ≡ before.tree → after.at ≡ before.at → pos after.best.delay ≤ℤ plan_delay net plan → number ≡ plan_delay net plan →
    CanClose net budget after after.at model.Fixed (Some number)
can_close_fixed net budget before after plan number valid waits fixes tree at reached is =
    let box : Ranges = box_of after.tree after.at in
    let here : FixesPlan net box plan =
    subst (λ (growing : Growing). FixesPlan net (box_of growing after.at) plan) (sym tree) (subst (λ (leaf : ℕ). FixesPlan net (box_of before.tree leaf) plan) (sym at) fixes) in
    record {
      waits = subst (λ (growing : Growing). IsTrue (is_open growing.tree after.at)) (sym tree) (subst (λ (leaf : ℕ). IsTrue (is_open before.tree.tree leaf)) (sym at) waits);
      well = record {
        lawful = (plan, here);
        earned = λ other too. let same : plan_delay net plan ≡ plan_delay net other = one_fixed_delay net box plan other valid here too in omega (arith, ints, same, reached);
        above = λ given gives.
            let same : plan_delay net plan ≡ plan_delay net gives.0 = one_fixed_delay net box plan gives.0 valid here gives.1.0 in
            omega (arith, ints, clamps, same, is, gives.1.1);
      };
      gives = (plan, (here, is));
      reaches = inl (omega (arith, ints, is, reached));
    }
