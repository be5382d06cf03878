-- Lines that name nothing any more, and lines that name the same as others.
use Rattle.std.proofs.Common.{◌≡◌, ◌⊎◌, inl, inr, ℕ, ◌+◌, ◌<◌, ◌≤◌, Bool, true, false, List, [], ◌∷◌, ◌++◌, length, Option, Some, None, if◌then◌else◌, refl, sym, ap, ◌∙◌, arith}
use Rattle.std.specs.Prelude.{◌||◌, ℤ, codes, option_map}
use Rattle.std.specs.Str.{bytes_eq}
use Rattle.std.proofs.lemmas.Bool.{cond-false, cond-true, or_cases, or_parts}
use Rattle.std.proofs.lemmas.List.{length-append}
use Rattle.std.proofs.lemmas.Slice.Eq.{bytes_eq-Decides}
use Rattle.texts.specs.Lines.{IsFirstWord, IsOneWord, line_of_words, words_of}
use Rattle.texts.specs.Numbers.{natural_in, whole_in}
use Rattle.texts.proofs.LineLaws.{line_of_words-read}
use Rattle.certificate_model.specs.Nodes.{LeafNode}
use Rattle.certificate_model.specs.Tree.{Empty, Priced}
use Rattle.certificate_model.specs.Text.{bound_in, bound_of_words, end_line, head_line, joined_split, node_in, node_of_words, number_digits, pairs_in, split_in}
use Rattle.cert_format.specs.declared.spare.TheConstants.{OTHER_LINE_BYTES}
use Rattle.cert_format.specs.inner.SparePairs.{IsBroken, NamesNoPairs}
use Rattle.cert_format.proofs.LineLaws.{other_first}
use Rattle.cert_format.proofs.WordLaws.{Grows, first_word-more, long_whole, short_natural, short_whole, word_grows}

-- ---- texts of different lengths

differ-by : (a b : List ℕ) (is : Bool) → bytes_eq a b ≡ is → length b < length a → is ≡ false
differ-by a b true given longer = let same = ap length ((bytes_eq-Decides a b).0 given) in absurd (omega (arith, same))
differ-by a b false given longer = refl

-- a longer text is another
pub longer_differs : (a b : List ℕ) → length b < length a → bytes_eq a b ≡ false
longer_differs a b longer = differ-by a b (bytes_eq a b) refl longer

-- no line behind which there is more is shorter
more_is_longer : (line more : List ℕ) → length line ≤ length (line ++ more)
more_is_longer line more = omega (arith, length-append line more)

-- ---- the bound

bound_word : (word number : List ℕ) (is : Bool) → bytes_eq word (codes "bound") ≡ is → 22 < length word + length number + 1 → (if is then whole_in number else None) ≡ None
bound_word word number true given long =
    let five : length word ≡ 5 = ap length ((bytes_eq-Decides word (codes "bound")).0 given) in long_whole number (omega arith)
bound_word word number false given long = refl

bound-by : (line : List ℕ) (words : List (List ℕ)) → words_of line ≡ words → 22 < length line → bound_of_words words ≡ None
bound-by line [] are long = refl
bound-by line (word ∷ []) are long = refl
bound-by line (word ∷ number ∷ []) are long =
    let joined : line ≡ word ++ 32 ∷ number = sym (line_of_words-read line) ∙ ap line_of_words are in
    let count : length line ≡ length word + length number + 1 = omega (arith, ap length joined, length-append word (32 ∷ number)) in
    bound_word word number (bytes_eq word (codes "bound")) refl (omega arith)
bound-by line (word ∷ number ∷ next ∷ more) are long = refl

-- a line that is too long for a bound
pub long_bound : (line : List ℕ) → 22 < length line → bound_in line ≡ None
unfolding bound_in
long_bound line long = bound-by line (words_of line) refl long

-- ---- a split

no_split-by : (column at : List ℕ) (j : Option ℕ) (z : Option ℤ) → natural_in number_digits column ≡ j → whole_in at ≡ z → 26 < length column + length at + 1 → joined_split j z ≡ None
no_split-by column at None z is_column is_at long = refl
no_split-by column at (Some j) None is_column is_at long = refl
no_split-by column at (Some j) (Some z) is_column is_at long =
    let column_short = short_natural number_digits column j is_column in
    let at_short = short_whole at z is_at in
    absurd (omega (arith, column_short, at_short))

split-by : (text : List ℕ) (words : List (List ℕ)) → words_of text ≡ words → 26 < length text → split_in words ≡ None
split-by text [] are long = refl
split-by text (column ∷ []) are long = refl
split-by text (column ∷ at ∷ []) are long =
    let joined : text ≡ column ++ 32 ∷ at = sym (line_of_words-read text) ∙ ap line_of_words are in
    let count : length text ≡ length column + length at + 1 = omega (arith, ap length joined, length-append column (32 ∷ at)) in
    no_split-by column at (natural_in number_digits column) (whole_in at) refl refl (omega arith)
split-by text (column ∷ at ∷ next ∷ more) are long = refl

-- words that are too long for a split
pub long_split : (text : List ℕ) → 26 < length text → split_in (words_of text) ≡ None
long_split text long = split-by text (words_of text) refl long

-- ---- a node

-- a word that is none of those that may come first
no_keyword : (word : List ℕ) (words : List (List ℕ)) → bytes_eq word (codes "split") ≡ false → bytes_eq word (codes "priced") ≡ false → bytes_eq word (codes "empty") ≡ false → bytes_eq word (codes "fixed") ≡ false →
    node_of_words (word ∷ words) ≡ None
no_keyword word words split priced empty fixed =
    cond-false (bytes_eq word (codes "split")) _ _ split ∙ cond-false (bytes_eq word (codes "priced")) _ _ priced ∙ cond-false (bytes_eq word (codes "empty")) _ _ empty
    ∙ cond-false (bytes_eq word (codes "fixed")) _ _ fixed

long_keyword : (word : List ℕ) (words : List (List ℕ)) → 6 < length word → node_of_words (word ∷ words) ≡ None
long_keyword word words long =
    no_keyword word words (longer_differs word (codes "split") (omega arith)) (longer_differs word (codes "priced") (omega arith)) (longer_differs word (codes "empty") (omega arith)) (longer_differs word (codes "fixed") (omega arith))

-- a word that is too long to come first
one_word_is_none : (line : List ℕ) → IsOneWord line → 6 < length line → (more : List ℕ) → node_in (line ++ more) ≡ None
unfolding node_in
one_word_is_none line alone long more =
    let grown : Grows line more = word_grows line more alone.spaces in
    ap node_of_words grown.are ∙ long_keyword (line ++ grown.rest) grown.words (omega (arith, length-append line grown.rest))

-- whether a line may name pairs that begins with a word
abbrev pub may_have_pairs : List ℕ → Bool
may_have_pairs word = bytes_eq word (codes "priced") || bytes_eq word (codes "empty")

other_word-by : (word words : List ℕ) (split : Bool) → bytes_eq word (codes "split") ≡ split → may_have_pairs word ≡ false → 32 < length word + length words + 1 → node_of_words (word ∷ words_of words) ≡ None
other_word-by word words true given other long =
    let five : length word ≡ 5 = ap length ((bytes_eq-Decides word (codes "split")).0 given) in
    cond-true (bytes_eq word (codes "split")) _ _ given ∙ long_split words (omega arith)
other_word-by word words false given other long =
    let neither = or_parts (bytes_eq word (codes "priced")) (bytes_eq word (codes "empty")) other in other_first word words given neither.0 neither.1

-- a first word behind which no pairs come
other_word_is_none : (line word words : List ℕ) → IsFirstWord line word words → may_have_pairs word ≡ false → 32 < length line → (more : List ℕ) → node_in (line ++ more) ≡ None
unfolding node_in
other_word_is_none line word words first other long more =
    let count : length line ≡ length word + length words + 1 = omega (arith, ap length first.cut.joined, length-append word (32 ∷ words)) in
    ap node_of_words (first_word-more line word words more first)
    ∙ other_word-by word (words ++ more) (bytes_eq word (codes "split")) refl other (omega (arith, length-append words more))

pub priced_node : (words : List (List ℕ)) → node_of_words (codes "priced" ∷ words) ≡ option_map (λ (pairs : List (ℕ × ℤ)). LeafNode (Priced pairs)) (pairs_in words)
priced_node words = refl

pub empty_node : (words : List (List ℕ)) → node_of_words (codes "empty" ∷ words) ≡ option_map (λ (pairs : List (ℕ × ℤ)). LeafNode (Empty pairs)) (pairs_in words)
empty_node words = refl

leaf_is_none : (word : List ℕ) (words : List (List ℕ)) → (word ≡ codes "priced") ⊎ (word ≡ codes "empty") → pairs_in words ≡ None → node_of_words (word ∷ words) ≡ None
leaf_is_none word words (inl priced) none =
    ap (λ word. node_of_words (word ∷ words)) priced ∙ priced_node words ∙ ap (option_map (λ (pairs : List (ℕ × ℤ)). LeafNode (Priced pairs))) none
leaf_is_none word words (inr empty) none =
    ap (λ word. node_of_words (word ∷ words)) empty ∙ empty_node words ∙ ap (option_map (λ (pairs : List (ℕ × ℤ)). LeafNode (Empty pairs))) none

pub leaf_word : (word : List ℕ) → may_have_pairs word ≡ true → (word ≡ codes "priced") ⊎ (word ≡ codes "empty")
leaf_word word may =
    elim (or_cases (bytes_eq word (codes "priced")) (bytes_eq word (codes "empty")) may) [
      | inl priced ↦ inl ((bytes_eq-Decides word (codes "priced")).0 priced)
      | inr empty ↦ inr ((bytes_eq-Decides word (codes "empty")).0 empty)
    ]

-- words behind the first that are no pairs
no_pairs_is_none : (line word words : List ℕ) → IsFirstWord line word words → may_have_pairs word ≡ true → NamesNoPairs words → (more : List ℕ) → node_in (line ++ more) ≡ None
unfolding node_in
no_pairs_is_none line word words first may none more =
    ap node_of_words (first_word-more line word words more first) ∙ leaf_is_none word (words_of (words ++ more)) (leaf_word word may) (none more)

-- ---- lines that name nothing any more

-- a line that is longer than those of other kinds, and names no node
broken_by : (line : List ℕ) → OTHER_LINE_BYTES < length line → ((more : List ℕ) → node_in (line ++ more) ≡ None) → IsBroken line
broken_by line long none = record {
  node = none;
  bound = λ more. long_bound (line ++ more) (omega (arith, more_is_longer line more));
  head = λ more. longer_differs (line ++ more) head_line (omega (arith, more_is_longer line more));
  last = λ more. longer_differs (line ++ more) end_line (omega (arith, more_is_longer line more));
}

pub one_word_is_broken : (line : List ℕ) → OTHER_LINE_BYTES < length line → IsOneWord line → IsBroken line
one_word_is_broken line long alone = broken_by line long (one_word_is_none line alone (omega arith))

pub other_word_is_broken : (line word words : List ℕ) → OTHER_LINE_BYTES < length line → IsFirstWord line word words → may_have_pairs word ≡ false → IsBroken line
other_word_is_broken line word words long first other = broken_by line long (other_word_is_none line word words first other long)

pub no_pairs_is_broken : (line word words : List ℕ) → OTHER_LINE_BYTES < length line → IsFirstWord line word words → may_have_pairs word ≡ true → NamesNoPairs words → IsBroken line
no_pairs_is_broken line word words long first may none = broken_by line long (no_pairs_is_none line word words first may none)
