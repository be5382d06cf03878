-- Pairs of a leaf that are not among the first, and lines that name nothing, whatever comes behind them.
use Rattle.std.specs.Prelude.{◌≡◌, ℕ, ◌+◌, ◌-◌, ◌*◌, ◌<◌, ◌≤◌, ℤ, false, List, [], ◌∷◌, ◌++◌, length, take, drop, None, option_map}
use Rattle.std.specs.Str.{bytes_eq}
use Rattle.texts.specs.Lines.{words_of}
use Rattle.certificate_model.specs.Text.{bound_in, end_line, head_line, node_in, pairs_in}
use Rattle.cert_format.specs.Unfinished.{ReadsAs, leaf_bytes}
use Rattle.cert_format.specs.declared.spare.Beginning.{Beginning}
use Rattle.cert_format.specs.declared.spare.Beginning.TheVariants.{Pair, Part, Other}
use Rattle.cert_format.specs.declared.spare.Spare.{Spare}
use Rattle.cert_format.specs.declared.spare.TheConstants.{PAIR_BYTES}

-- a line names nothing, whatever comes behind it
pub record IsBroken (line : List ℕ) : Type 0 where
  pub node : (more : List ℕ) → node_in (line ++ more) ≡ None
  pub bound : (more : List ℕ) → bound_in (line ++ more) ≡ None
  pub head : (more : List ℕ) → bytes_eq (line ++ more) head_line ≡ false
  pub last : (more : List ℕ) → bytes_eq (line ++ more) end_line ≡ false

-- words name no pairs, whatever comes behind them
abbrev pub NamesNoPairs : List ℕ → Type 0
NamesNoPairs words = (more : List ℕ) → pairs_in (words_of (words ++ more)) ≡ None

-- words name pairs, before those of what comes behind them
abbrev pub ArePairs : List ℕ → List (ℕ × ℤ) → Type 0
ArePairs words pairs = (more : List ℕ) → pairs_in (words_of (words ++ more)) ≡ option_map (λ (others : List (ℕ × ℤ)). pairs ++ others) (pairs_in (words_of more))

-- the first of the pairs that words name are those that others name, whatever comes behind both
abbrev pub HaveSameFirst : ℕ → List ℕ → List ℕ → Type 0
HaveSameFirst most words others = (more : List ℕ) → option_map (take most) (pairs_in (words_of (words ++ more))) ≡ option_map (take most) (pairs_in (words_of (others ++ more)))

-- so many bytes of some words are a pair, with a space behind each of its words
pub record IsFirstPair (words : List ℕ) (count : ℕ) : Type 0 where
  pub pair : ℕ × ℤ
  pub is : ArePairs (take count words) (pair ∷ [])
  pub some : 0 < count
  pub short : count ≤ PAIR_BYTES
  pub within : count ≤ length words

-- how words begin: with a pair, with no more than a part of one, or with what belongs to none
abbrev pub Begins : List ℕ → Beginning → Type 0
Begins words (Pair count) = IsFirstPair words count
Begins words Part = length words < PAIR_BYTES
Begins words Other = NamesNoPairs words

-- bytes without some of them
abbrev pub without : Spare → List ℕ → List ℕ
without spare bytes = take spare.start bytes ++ drop spare.end bytes

-- what a walk over words has seen: it stands behind some whole pairs, and the first of them, a count of them, end where the rest starts
pub record IsWalked (most : ℕ) (words : List ℕ) (count start end : ℕ) : Type 0 where
  pub first : List (ℕ × ℤ)
  pub all : List (ℕ × ℤ)
  pub kept : ArePairs (take start words) first
  pub seen : ArePairs (take end words) all
  pub same : (others : List (ℕ × ℤ)) → take most (all ++ others) ≡ take most (first ++ others)
  pub many : length first ≡ count
  pub few : count ≤ most
  pub next : count < most → start ≡ end
  pub short : start ≤ PAIR_BYTES * count
  pub ordered : start ≤ end
  pub within : end ≤ length words

-- the pairs that can be left out of some words
pub record IsSpareOfWords (most : ℕ) (words : List ℕ) (spare : Spare) : Type 0 where
  pub same : HaveSameFirst most (without spare words) words
  pub ordered : spare.start ≤ spare.end
  pub within : spare.end ≤ length words
  pub few : spare.start + (length words - spare.end) < PAIR_BYTES * most + PAIR_BYTES

-- the pairs that can be left out of a line
pub record IsSpare (most : ℕ) (line : List ℕ) (spare : Spare) : Type 0 where
  pub reads : ReadsAs most (without spare line) line
  pub ordered : spare.start ≤ spare.end
  pub within : spare.end ≤ length line
  pub few : spare.start + (length line - spare.end) ≤ leaf_bytes most
