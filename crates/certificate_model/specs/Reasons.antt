-- Why a node is not good in its box (docs/certificate-file.md, "What is refused"). Of several reasons the first decides.
use Rattle.std.specs.Prelude.{◌≡◌, ℕ, ◌+◌, ◌<◌, nat_lt, ℤ, pos, ◌+ℤ◌, ◌<ℤ◌, int_lt, int_le, unsigned_abs, true, false, not, ◌&&◌, List, [], ◌∷◌, ◌++◌, length}
use Rattle.std.specs.Int.{int_div_euclid}
use Rattle.refusals.specs.Faults.{where_so}
use Rattle.ct_base.specs.declared.net.Net.{Net}
use Rattle.ct_base.specs.declared.plan.Plan.{Plan}
use Rattle.sparse_program.specs.Box.{Ranges, high_of, low_of}
use Rattle.sparse_program.specs.Program.{row_of}
use Rattle.sparse_program.specs.declared.row.Row.{Row}
use Rattle.program_model.specs.Numbers.{plan_count}
use Rattle.program_model.specs.Points.{program_of}
use Rattle.certificate_model.specs.Leaves.{FixesPlan, IsGoodLeaf, plan_delay}
use Rattle.certificate_model.specs.Nodes.{LeafNode, Node, SplitNode}
use Rattle.certificate_model.specs.Tree.{Empty, Fixed, IsSplit, Leaf, Priced}
use Rattle.certificate_model.specs.Value.{most_price, scale, value_of_pairs}
use Rattle.certificate_model.specs.declared.verdict.Why.{Why}
use Rattle.certificate_model.specs.declared.verdict.Why.TheVariants.{Column, Range, Row as NoRow, Order, Price, Sign, Weak, NotEmpty, NotFixed, NotPlan}

-- a split: its column does not exist, or the bounds of the column do not leave both sides something
abbrev pub split_reasons : Ranges → ℕ → ℤ → List Why
split_reasons box column at =
    where_so (not (nat_lt column (length box.lows))) Column
    ++ where_so (not (int_le (low_of box column) at && int_lt at (high_of box column))) Range

-- pairs, of which the first has to be at the row `next` or behind it: pair by pair, the row does not exist, or is not above that of
-- the pair before; the price is too great, or is below 0 on a row that need not be equal
abbrev pub pair_reasons : List Row → ℕ → List (ℕ × ℤ) → List Why
pair_reasons rows next [] = []
pair_reasons rows next (pair ∷ pairs) =
    where_so (not (nat_lt pair.0 (length rows))) NoRow
    ++ where_so (nat_lt pair.0 next) Order
    ++ where_so (nat_lt most_price (unsigned_abs pair.1)) Price
    ++ where_so (not (row_of rows pair.0).equal && int_lt pair.1 (pos 0)) Sign
    ++ pair_reasons rows (pair.0 + 1) pairs

-- the least whole number that is at least a value of so many 1024ths
abbrev pub ceiling : ℤ → ℤ
ceiling value = int_div_euclid (value +ℤ pos 1023) (pos scale)

-- a priced leaf: its pairs, and then the number that it gives is below the bound
abbrev pub priced_reasons : Net → ℤ → Ranges → List (ℕ × ℤ) → List Why
priced_reasons net bound box pairs =
    let number = ceiling (value_of_pairs (program_of net) true box pairs) in
    pair_reasons (program_of net).rows 0 pairs ++ where_so (int_lt number bound) (Weak number)

-- an empty leaf: its pairs, and then their value without costs is below 1
abbrev pub empty_reasons : Net → Ranges → List (ℕ × ℤ) → List Why
empty_reasons net box pairs =
    let value = value_of_pairs (program_of net) false box pairs in
    pair_reasons (program_of net).rows 0 pairs ++ where_so (int_lt value (pos 1)) (NotEmpty value)

-- some plan column has more than one number in the box
pub record IsUnfixed (net : Net) (box : Ranges) : Type 0 where
  pub column : ℕ
  pub of_plan : column < plan_count net
  pub several : low_of box column <ℤ high_of box column

-- the box fixes a plan whose delay is so great, and below the bound
pub record FixesLess (net : Net) (bound : ℤ) (box : Ranges) (delay : ℤ) : Type 0 where
  pub plan : Plan
  pub fixes : FixesPlan net box plan
  pub is : delay ≡ plan_delay net plan
  pub less : delay <ℤ bound

-- a fixed leaf: some plan column has more than one number; or the bits are no admissible plan's; or that plan's delay is below the bound
abbrev pub FixedReason : Net → ℤ → Ranges → Why → Type 0
FixedReason net bound box NotFixed = IsUnfixed net box
FixedReason net bound box NotPlan = (¬ IsUnfixed net box) × ((plan : Plan) → ¬ FixesPlan net box plan)
FixedReason net bound box (Weak delay) = FixesLess net bound box delay
FixedReason net bound box _ = ⊥

-- the reason is the first of a list
abbrev pub IsFirst : Why → List Why → Type 0
IsFirst why [] = ⊥
IsFirst why (first ∷ more) = why ≡ first

-- the first reason why a leaf is not good in its box
abbrev pub LeafReason : Net → ℤ → Ranges → Leaf → Why → Type 0
LeafReason net bound box (Priced pairs) why = IsFirst why (priced_reasons net bound box pairs)
LeafReason net bound box (Empty pairs) why = IsFirst why (empty_reasons net box pairs)
LeafReason net bound box Fixed why = FixedReason net bound box why

-- the first reason why a node is not good in its box
abbrev pub NodeReason : Net → ℤ → Ranges → Node → Why → Type 0
NodeReason net bound box (SplitNode column at) why = IsFirst why (split_reasons box column at)
NodeReason net bound box (LeafNode leaf) why = LeafReason net bound box leaf why

-- a node is good in its box, whatever stands below it
abbrev pub IsGoodNode : Net → ℤ → Ranges → Node → Type 0
IsGoodNode net bound box (SplitNode column at) = IsSplit box column at
IsGoodNode net bound box (LeafNode leaf) = IsGoodLeaf net bound box leaf
