-- The bits of a signal in the first steps, as the code keeps them, and how many of some bits are on.
use Rattle.std.specs.Prelude.{◌≡◌, ℕ, ◌<◌, ◌≤◌, ℤ, List, length, All, unsigned_abs}
use Rattle.ct_base.specs.Validity.{IsValid}
use Rattle.ct_base.specs.declared.net.Net.{Net}
use Rattle.program_model.specs.Columns.{Column}
use Rattle.program_model.specs.Numbers.{bits_before, bits_of_step, plan_count}
use Rattle.rule_breaks.specs.Breaks.{IsOffOrOn, value_in}
use Rattle.rule_breaks.specs.declared.part.Part.{Part}

-- the values are those of bits, one for each plan column of a valid network
pub record AreBits (net : Net) (bits : List ℤ) : Type 0 where
  pub valid : IsValid net
  pub columns : length bits ≡ plan_count net
  pub off_or_on : All IsOffOrOn bits

-- the part is a signal's
pub record IsPart (net : Net) (bits : List ℤ) (part : Part) : Type 0 where
  pub values : AreBits net bits
  pub inside : part.signal < length net.signals
  pub steps : part.steps ≤ net.steps
  pub width : part.width ≡ bits_of_step net.signals
  pub first : part.first ≡ bits_before net.signals part.signal

-- 1 where the bit is on, and else 0
abbrev pub on : Net → List ℤ → Column → ℕ
on net bits c = unsigned_abs (value_in net bits c)
