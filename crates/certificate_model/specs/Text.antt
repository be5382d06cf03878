-- The text of a certificate (docs/certificate-file.md, "The text").
use Rattle.std.specs.Prelude.{◌≡◌, ◌≢◌, ℕ, ◌<◌, ◌^◌, ℤ, pos, unsigned_abs, if◌then◌else◌, List, [], ◌∷◌, ◌++◌, map, flat_map, All, Option, Some, None, option_map, codes}
use Rattle.std.specs.Fmt.{decimal, signed_decimal}
use Rattle.std.specs.Str.{bytes_eq}
use Rattle.texts.specs.Lines.{line_of_words, text_of_lines, words_of}
use Rattle.texts.specs.Numbers.{natural_in, price_in, whole_digits, whole_in}
use Rattle.certificate_model.specs.Nodes.{LeafNode, Node, SplitNode, nodes_of}
use Rattle.certificate_model.specs.Tree.{Empty, Fixed, Leaf, Priced, Tree}

-- the first line
abbrev pub head_line : List ℕ
head_line = codes "ctm-cert 1"

-- the last line
abbrev pub end_line : List ℕ
end_line = codes "end"

-- the line of the bound
abbrev pub bound_line : ℤ → List ℕ
bound_line bound = line_of_words (codes "bound" ∷ signed_decimal bound ∷ [])

-- a pair as two words
abbrev pub pair_words : ℕ × ℤ → List (List ℕ)
pair_words pair = decimal pair.0 ∷ signed_decimal pair.1 ∷ []

-- the words of a leaf
abbrev pub leaf_words : Leaf → List (List ℕ)
leaf_words (Priced pairs) = codes "priced" ∷ flat_map pair_words pairs
leaf_words (Empty pairs) = codes "empty" ∷ flat_map pair_words pairs
leaf_words Fixed = codes "fixed" ∷ []

-- the words of a node
abbrev pub node_words : Node → List (List ℕ)
node_words (SplitNode column at) = codes "split" ∷ decimal column ∷ signed_decimal at ∷ []
node_words (LeafNode leaf) = leaf_words leaf

-- the line of a node
abbrev pub node_line : Node → List ℕ
node_line node = line_of_words (node_words node)

-- the lines of a certificate: its bound, and its nodes from the top down
abbrev pub certificate_lines : ℤ → List Node → List (List ℕ)
certificate_lines bound nodes = head_line ∷ bound_line bound ∷ (map node_line nodes ++ end_line ∷ [])

-- the text of a certificate
unfoldable pub certificate_text : ℤ → List Node → List ℕ
certificate_text bound nodes = text_of_lines (certificate_lines bound nodes)

-- the most digits of the number of a column or of a row
abbrev pub number_digits : ℕ
number_digits = 9

-- a whole number of at most 15 digits
abbrev pub IsWhole : ℤ → Type 0
IsWhole z = unsigned_abs z < 10 ^ whole_digits

-- a pair has a spelling: its numbers are short enough, and its price is not 0
pub record IsSpelledPair (pair : ℕ × ℤ) : Type 0 where
  pub row : pair.0 < 10 ^ number_digits
  pub some : pair.1 ≢ pos 0
  pub price : IsWhole pair.1

-- the numbers of a node have a spelling
abbrev pub IsSpelled : Node → Type 0
IsSpelled (SplitNode column at) = (column < 10 ^ number_digits) × IsWhole at
IsSpelled (LeafNode (Priced pairs)) = All IsSpelledPair pairs
IsSpelled (LeafNode (Empty pairs)) = All IsSpelledPair pairs
IsSpelled (LeafNode Fixed) = Unit {0}

-- a text is that of a bound and a tree, whose numbers have a spelling
pub record Reads (text : List ℕ) (b : ℤ) (tree : Tree) : Type 0 where
  pub written : text ≡ certificate_text b (nodes_of tree)
  pub bound : IsWhole b
  pub nodes : All IsSpelled (nodes_of tree)

-- the bound that the words of a line name
abbrev pub bound_of_words : List (List ℕ) → Option ℤ
bound_of_words (word ∷ number ∷ []) = if bytes_eq word (codes "bound") then whole_in number else None
bound_of_words _ = None

-- the bound that a line names
unfoldable pub bound_in : List ℕ → Option ℤ
bound_in line = bound_of_words (words_of line)

-- a pair before others, where all are there
abbrev pub joined_pair : Option ℕ → Option ℤ → Option (List (ℕ × ℤ)) → Option (List (ℕ × ℤ))
joined_pair (Some row) (Some price) (Some pairs) = Some ((row, price) ∷ pairs)
joined_pair _ _ _ = None

-- the pairs that words name, two words each
abbrev pub pairs_in : List (List ℕ) → Option (List (ℕ × ℤ))
pairs_in [] = Some []
pairs_in (row ∷ []) = None
pairs_in (row ∷ price ∷ words) = joined_pair (natural_in number_digits row) (price_in price) (pairs_in words)

-- a split of a column at a value, where both are there
abbrev pub joined_split : Option ℕ → Option ℤ → Option Node
joined_split (Some column) (Some at) = Some (SplitNode column at)
joined_split _ _ = None

-- the split that the words behind the first name
abbrev pub split_in : List (List ℕ) → Option Node
split_in (column ∷ at ∷ []) = joined_split (natural_in number_digits column) (whole_in at)
split_in _ = None

-- a fixed leaf has no words behind the first
abbrev pub fixed_in : List (List ℕ) → Option Node
fixed_in [] = Some (LeafNode Fixed)
fixed_in _ = None

-- the node that words name
abbrev pub node_of_words : List (List ℕ) → Option Node
node_of_words [] = None
node_of_words (word ∷ words) =
    if bytes_eq word (codes "split") then split_in words else
    (if bytes_eq word (codes "priced") then option_map (λ (pairs : List (ℕ × ℤ)). LeafNode (Priced pairs)) (pairs_in words) else
    (if bytes_eq word (codes "empty") then option_map (λ (pairs : List (ℕ × ℤ)). LeafNode (Empty pairs)) (pairs_in words) else
    (if bytes_eq word (codes "fixed") then fixed_in words else None)))

-- the node that a line names
unfoldable pub node_in : List ℕ → Option Node
node_in line = node_of_words (words_of line)
