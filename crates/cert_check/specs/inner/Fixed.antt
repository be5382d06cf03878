-- The values of the plan columns, where a box leaves each of them one.
use Rattle.std.specs.Prelude.{◌≡◌, ℤ, List, length, take}
use Rattle.ct_base.specs.declared.net.Net.{Net}
use Rattle.sparse_program.specs.Box.{Ranges}
use Rattle.program_model.specs.Numbers.{plan_count}

-- the box leaves the plan columns these values alone
pub record AreLeft (net : Net) (box : Ranges) (bits : List ℤ) : Type 0 where
  pub one_per_column : length bits ≡ plan_count net
  pub lows : take (plan_count net) box.lows ≡ bits
  pub highs : take (plan_count net) box.highs ≡ bits
