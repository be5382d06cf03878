-- What closes a leaf whose box leaves no plan column open.
use Rattle.std.specs.Prelude.{◌≡◌, ℕ, ℤ, List, All, length, take}
use Rattle.ct_base.specs.declared.net.Net.{Net}
use Rattle.sparse_program.specs.Box.{Ranges}
use Rattle.program_model.specs.Numbers.{plan_count}
use Rattle.certificate_model.specs.Leaves.{IsGoodEmpty}
use Rattle.rule_breaks.specs.Bits.{BeginAsFixed}
use Rattle.rule_breaks.specs.Breaks.{IsOffOrOn, value_in}

-- a box leaves each plan column one value: these, in their order
pub record AreBitsOfBox (net : Net) (box : Ranges) (bits : List ℤ) : Type 0 where
  pub lows : take (plan_count net) box.lows ≡ bits
  pub highs : take (plan_count net) box.highs ≡ bits

-- a bit for each plan column, of which those of step 0 are the fixed ones
pub record AreFixedBits (net : Net) (bits : List ℤ) : Type 0 where
  pub columns : length bits ≡ plan_count net
  pub off_or_on : All IsOffOrOn bits
  pub begin : BeginAsFixed net (value_in net bits)

-- the pairs close as empty each box that leaves the plan columns these values alone
abbrev pub ShowsEmpty : Net → List ℤ → List (ℕ × ℤ) → Type 0
ShowsEmpty net bits pairs = (box : Ranges) → AreBitsOfBox net box bits → IsGoodEmpty net box pairs
