-- The bits of a signal, as the code keeps them.
use Rattle.std.specs.Prelude.{◌≡◌, ℕ, ◌<◌, ℤ, List, length, map}
use Rattle.listed.specs.Below.{table_of}
use Rattle.ct_base.specs.Access.{signal_of}
use Rattle.ct_base.specs.declared.net.Net.{Net}
use Rattle.ct_base.specs.declared.plan.Letter.{Letter}
use Rattle.program_model.specs.Columns.{Bit, letters_of}
use Rattle.program_model.specs.Numbers.{bits_before, bits_of_step, letters_before, number_of}
use Rattle.lo_program.specs.declared.rules.bits.Bits.{Bits}

-- the bits are those of a signal of the network
pub record AreBits (net : Net) (bits : Bits) : Type 0 where
  pub inside : bits.signal < length net.signals
  pub steps : bits.steps ≡ net.steps
  pub of_step : bits.of_step ≡ bits_of_step net.signals
  pub first : bits.first ≡ bits_before net.signals bits.signal
  pub letters : bits.letters ≡ letters_of (signal_of net.signals bits.signal)
  pub greens : bits.greens ≡ table_of (length (signal_of net.signals bits.signal).phases) (letters_before (signal_of net.signals bits.signal))

-- the bits of some letters of a signal at step t by their numbers, each so many times
abbrev pub bit_terms : Net → ℕ → ℕ → ℤ → List Letter → List (ℕ × ℤ)
bit_terms net t s k letters = map (λ (letter : Letter). (number_of net (Bit t s letter), k)) letters
