-- The parts of the bits of a plan, step by step and in each step signal by signal, and the words that show them.
use Rattle.std.specs.Prelude.{◌≡◌, ℕ, ◌*◌, ◌<◌, ℤ, pos, List, [], length, map, take, drop, slice_index_or}
use Rattle.listed.specs.Below.{table_of}
use Rattle.ct_base.specs.Access.{signal_of}
use Rattle.ct_base.specs.declared.net.Net.{Net}
use Rattle.ct_base.specs.declared.plan.Letter.{Letter}
use Rattle.ct_base.specs.declared.plan.Letter.TheVariants.{Clear}
use Rattle.traffic_model.specs.Runs.{IsAdmissible}
use Rattle.program_model.specs.Columns.{letters_of}
use Rattle.program_model.specs.Numbers.{bits_before, bits_of_step}
use Rattle.program_model.specs.Values.{is_letter, one_where}

-- the bit of a letter where a letter is shown
abbrev pub bit_where : Letter → Letter → ℤ
bit_where shown letter = pos (one_where (is_letter letter shown))

-- the bits of some letters where a letter is shown
abbrev pub bits_where : List Letter → Letter → List ℤ
bits_where letters shown = map (bit_where shown) letters

-- the letter stands among some letters
pub record IsAmong (letters : List Letter) (letter : Letter) : Type 0 where
  pub place : ℕ
  pub inside : place < length letters
  pub there : slice_index_or letters place (Clear 0) ≡ letter

-- the bits of step t
abbrev pub part_of_step : Net → List ℤ → ℕ → List ℤ
part_of_step net bits t = take (bits_of_step net.signals) (drop (t * bits_of_step net.signals) bits)

-- among them those of signal s
abbrev pub part_of_signal : Net → List ℤ → ℕ → ℕ → List ℤ
part_of_signal net bits s t = take (length (letters_of (signal_of net.signals s))) (drop (bits_before net.signals s) (part_of_step net bits t))

-- the word shows the bits of signal s, step by step
abbrev pub Shows : Net → List ℤ → ℕ → List Letter → Type 0
Shows net bits s word = map (bits_where (letters_of (signal_of net.signals s))) word ≡ table_of net.steps (part_of_signal net bits s)

-- and the signal may show it
pub record IsWordOfBits (net : Net) (bits : List ℤ) (s : ℕ) (word : List Letter) : Type 0 where
  pub shows : Shows net bits s word
  pub admissible : IsAdmissible (signal_of net.signals s) word

-- the first words of the bits, one for each of so many signals
pub record AreWordsOfBits (net : Net) (bits : List ℤ) (count : ℕ) (words : List (List Letter)) : Type 0 where
  pub one_per_signal : length words ≡ count
  pub each : (s : ℕ) → s < count → IsWordOfBits net bits s (slice_index_or words s [])
