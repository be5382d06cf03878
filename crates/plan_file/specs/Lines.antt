-- What the lines of a plan text say (docs/plan-file.md, "Lines").
use Rattle.std.specs.Prelude.{ℕ, ◌&&◌, if◌then◌else◌, List, [], ◌∷◌, ◌++◌, map, Option, Some, None, codes}
use Rattle.std.specs.Str.{bytes_eq}
use Rattle.limits.specs.declared.TheConstants.{GREEN_DIGITS}
use Rattle.texts.specs.Lines.{behind_lines, lines_of, words_of}
use Rattle.texts.specs.Names.{is_name}
use Rattle.texts.specs.Numbers.{natural_in}

-- what a line says
pub data Line : Type 0 where
  -- `ctm-plan 1`
  Head : Line
  -- `signal NAME`
  OfSignal : (name : List ℕ) → Line
  -- `PHASE GREEN`
  OfRun : (phase : List ℕ) → (green : ℕ) → Line
  -- `end`
  End : Line
  -- a line of none of these forms
  Other : Line
  -- behind the last line feed: nothing, or bytes that lack theirs
  Nothing : Line
  Cut : Line

-- a line of two words: `signal` and a name, or a name and a number of at most 4 digits
abbrev pub run_line : List ℕ → Option ℕ → Line
run_line phase None = Other
run_line phase (Some green) = if is_name phase then OfRun phase green else Other

-- what a line of two words is
abbrev pub two_words : List ℕ → List ℕ → Line
two_words first second = if bytes_eq first (codes "signal") && is_name second then OfSignal second else run_line first (natural_in GREEN_DIGITS second)

-- what a line of these words is
abbrev pub line_by : List (List ℕ) → Line
line_by (word ∷ []) = if bytes_eq word (codes "end") then End else Other
line_by (first ∷ second ∷ []) = two_words first second
line_by words = Other

-- what a line of these bytes is
abbrev pub line_of : List ℕ → Line
line_of bytes = if bytes_eq bytes (codes "ctm-plan 1") then Head else line_by (words_of bytes)

-- what stands behind the last line feed: nothing, or bytes that lack theirs
abbrev pub ending : List ℕ → Line
ending [] = Nothing
ending (byte ∷ bytes) = Cut

-- what each line of a text says, and what stands behind the last
unfoldable pub lines_in : List ℕ → List Line
lines_in text = map line_of (lines_of text) ++ ending (behind_lines text) ∷ []
