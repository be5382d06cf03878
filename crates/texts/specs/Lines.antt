-- Texts as lines, and lines as words (docs/plan-file.md, "Lines"): a line feed (byte 10) ends each line, and a space (byte 32)
-- stands between two words.
use Rattle.std.specs.Prelude.{◌≡◌, ℕ, ◌<◌, ◌==◌, false, List, [], ◌∷◌, ◌++◌, length, flat_map, All}
use Rattle.std.specs.List.{join_with_byte, slice_split}

-- no byte of a kind stands there
abbrev pub Lacks : ℕ → List ℕ → Type 0
Lacks byte text = All (λ x. (x == byte) ≡ false) text

-- a text is cut at the first byte of a kind
pub record IsCut (byte : ℕ) (text before behind : List ℕ) : Type 0 where
  pub joined : text ≡ before ++ byte ∷ behind
  pub first : Lacks byte before

-- the words of a line: what stands between its spaces
abbrev pub words_of : List ℕ → List (List ℕ)
words_of line = slice_split (λ byte. byte == 32) line

-- the line of some words: a space between each two
abbrev pub line_of_words : List (List ℕ) → List ℕ
line_of_words words = join_with_byte 32 words

-- all of a list but its last item
abbrev pub without_last : List (List ℕ) → List (List ℕ)
without_last [] = []
without_last (last ∷ []) = []
without_last (item ∷ next ∷ more) = item ∷ without_last (next ∷ more)

-- the last item of a list
abbrev pub last_of : List (List ℕ) → List ℕ
last_of [] = []
last_of (last ∷ []) = last
last_of (item ∷ next ∷ more) = last_of (next ∷ more)

-- what stands between the line feeds of a text, before the first and behind the last
abbrev pub between_feeds : List ℕ → List (List ℕ)
between_feeds text = slice_split (λ byte. byte == 10) text

-- the lines of a text, without their line feeds; what stands behind the last line feed is no line
unfoldable pub lines_of : List ℕ → List (List ℕ)
lines_of text = without_last (between_feeds text)

-- what stands behind the last line feed
unfoldable pub behind_lines : List ℕ → List ℕ
behind_lines text = last_of (between_feeds text)

-- the text of some lines: each with its line feed
abbrev pub text_of_lines : List (List ℕ) → List ℕ
text_of_lines lines = flat_map (λ line. line ++ 10 ∷ []) lines

-- a text begins with a line, and this stands behind its line feed
pub record IsFirstLine (text line behind : List ℕ) : Type 0 where
  pub cut : IsCut 10 text line behind
  pub lines : lines_of text ≡ line ∷ lines_of behind
  pub last : behind_lines text ≡ behind_lines behind
  pub shorter : length behind < length text

-- a text has no line
pub record IsNoLine (text : List ℕ) : Type 0 where
  pub feeds : Lacks 10 text
  pub lines : lines_of text ≡ []
  pub last : behind_lines text ≡ text

-- a line begins with a word, and this stands behind the space that ends it
pub record IsFirstWord (line word behind : List ℕ) : Type 0 where
  pub cut : IsCut 32 line word behind
  pub words : words_of line ≡ word ∷ words_of behind
  pub shorter : length behind < length line

-- a line is one word
pub record IsOneWord (line : List ℕ) : Type 0 where
  pub spaces : Lacks 32 line
  pub words : words_of line ≡ line ∷ []
