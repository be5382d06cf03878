-- Lines of a certificate, word by word.
use Rattle.std.proofs.Common.{◌≡◌, ℕ, ◌+◌, zero, suc, Bool, true, false, List, [], ◌∷◌, ◌++◌, Option, Some, None, if◌then◌else◌, refl, sym, ap, ◌∙◌, arith}
use Rattle.std.specs.Prelude.{◌==◌, ℤ, codes, option_map, ◌<◌, ◌≤◌, length, take}
use Rattle.std.proofs.lemmas.Bool.{cond-false, cond-true}
use Rattle.std.specs.Bool.{then_some}
use Rattle.std.specs.Str.{bytes_eq}
use Rattle.std.proofs.lemmas.List.{append-nil, append_assoc, take_all}
use Rattle.std.proofs.lemmas.List.Splits.{length-slice_split}
use Rattle.std.proofs.lemmas.List.Sums.{count_by-le-length}
use Rattle.texts.specs.Lines.{IsFirstWord, IsOneWord, Lacks, line_of_words, words_of}
use Rattle.texts.specs.Numbers.{IsWholeText, natural_in, price_in, whole_in}
use Rattle.texts.proofs.LineLaws.{line_of_words-read, one_word}
use Rattle.texts.proofs.WholeLaws.{signed_decimal_lacks, whole_spells}
use Rattle.certificate_model.specs.Nodes.{LeafNode, Node}
use Rattle.certificate_model.specs.Tree.{Empty, Priced}
use Rattle.certificate_model.specs.Text.{bound_in, bound_of_words, fixed_in, joined_pair, joined_split, node_in, node_of_words, number_digits, pairs_in, split_in}
use Rattle.cert_format.specs.Marks.{marked, with_first}
use Rattle.cert_format.specs.declared.line.Mark.{Mark}
use Rattle.cert_format.specs.declared.line.Mark.TheVariants as mark
use Rattle.cert_format.specs.inner.Pairs.{joined, pair_in, pairs_where}

-- ---- a whole number is one word

-- the whole number that words name, where they are one word
abbrev pub one_whole : List (List ℕ) → Option ℤ
one_whole (word ∷ []) = whole_in word
one_whole _ = None

whole_lacks : (text : List ℕ) (z : ℤ) → whole_in text ≡ Some z → Lacks 32 text
whole_lacks text z is =
    let spells : IsWholeText text z = whole_spells text z is in
    rw (spells.written) (signed_decimal_lacks 32 z refl (λ same. absurd (omega arith)) (let small = spells.small in omega arith))

one_whole-by : (text : List ℕ) (words : List (List ℕ)) (whole : Option ℤ) → words_of text ≡ words → whole_in text ≡ whole → one_whole words ≡ whole
one_whole-by text [] whole are is = ap whole_in (ap line_of_words (sym are) ∙ line_of_words-read text) ∙ is
one_whole-by text (word ∷ []) whole are is = ap whole_in (ap line_of_words (sym are) ∙ line_of_words-read text) ∙ is
one_whole-by text (word ∷ next ∷ more) None are is = refl
one_whole-by text (word ∷ next ∷ more) (Some z) are is =
    let alone : words_of text ≡ text ∷ [] = (one_word text (whole_lacks text z is)).words in absurd (cc)

-- a text with a space spells no whole number
pub one_whole-words : (text : List ℕ) → one_whole (words_of text) ≡ whole_in text
one_whole-words text = one_whole-by text (words_of text) (whole_in text) refl refl

-- ---- the line of the bound

bound_of : (word : List ℕ) (words : List (List ℕ)) (is : Bool) → bytes_eq word (codes "bound") ≡ is → bound_of_words (word ∷ words) ≡ (if is then one_whole words else None)
bound_of word [] true is = refl
bound_of word [] false is = refl
bound_of word (number ∷ []) is given = ap (λ is. if is then whole_in number else None) given
bound_of word (number ∷ next ∷ more) true is = refl
bound_of word (number ∷ next ∷ more) false is = refl

-- a line of two words or more
pub bound_by : (line word behind : List ℕ) (is : Bool) → IsFirstWord line word behind → bytes_eq word (codes "bound") ≡ is → bound_in line ≡ (if is then whole_in behind else None)
unfolding bound_in
bound_by line word behind is first given =
    ap bound_of_words first.words ∙ bound_of word (words_of behind) is given ∙ ap (λ whole. if is then whole else None) (one_whole-words behind)

-- a line of one word
pub no_bound : (line : List ℕ) → IsOneWord line → bound_in line ≡ None
unfolding bound_in
no_bound line alone = ap bound_of_words alone.words

-- ---- the words of a split

split_without : (column : Option ℕ) → joined_split column None ≡ None
split_without None = refl
split_without (Some column) = refl

split_of : (column : List ℕ) (words : List (List ℕ)) → split_in (column ∷ words) ≡ joined_split (natural_in number_digits column) (one_whole words)
split_of column [] = sym (split_without (natural_in number_digits column))
split_of column (at ∷ []) = refl
split_of column (at ∷ next ∷ more) = sym (split_without (natural_in number_digits column))

-- two words, of which the first is a column's number and the second the value
pub split_by : (words column at : List ℕ) (number : Option ℕ) (value : Option ℤ) → IsFirstWord words column at → natural_in number_digits column ≡ number → whole_in at ≡ value →
    split_in (words_of words) ≡ joined_split number value
split_by words column at number value first named is =
    ap split_in first.words ∙ split_of column (words_of at) ∙ ap (joined_split (natural_in number_digits column)) (one_whole-words at ∙ is) ∙ ap (λ number. joined_split number value) named

-- ---- the pairs of a leaf

-- no pairs stand before others
pub none_before : (most : ℕ) (pairs : List (ℕ × ℤ)) (named : Option (List (ℕ × ℤ))) → pairs ≡ [] →
    option_map (take most) named ≡ option_map (λ (more : List (ℕ × ℤ)). take most (pairs ++ more)) named
none_before most pairs None none = refl
none_before most pairs (Some more) none = ap (λ (pairs : List (ℕ × ℤ)). Some (take most (pairs ++ more))) (sym none)

-- the first of a list, where others of its own stand behind its first ones
take-append-take : (most : ℕ) (xs ys : List (ℕ × ℤ)) → take most (take most xs ++ ys) ≡ take most (xs ++ ys)
take-append-take zero xs ys = refl
take-append-take (suc most) [] ys = refl
take-append-take (suc most) (x ∷ xs) ys =
    ap (λ (xs : List (ℕ × ℤ)). x ∷ xs) (take-append-take most xs ys)

pair_added-by : (most : ℕ) (old new : List (ℕ × ℤ)) (is : Bool) (row : Option ℕ) (price : Option ℤ) (more : Option (List (ℕ × ℤ))) →
    pairs_where is new ≡ option_map (λ (pair : ℕ × ℤ). take most (old ++ pair ∷ [])) (joined row price) →
    option_map (λ (more : List (ℕ × ℤ)). take most (old ++ more)) (joined_pair row price more) ≡ (if is then option_map (λ (more : List (ℕ × ℤ)). take most (new ++ more)) more else None)
pair_added-by most old new true (Some row) (Some price) (Some more) added =
    let is : new ≡ take most (old ++ (row, price) ∷ []) = cc in
    ap (λ (pairs : List (ℕ × ℤ)). Some (take most pairs)) (sym (append_assoc old ((row, price) ∷ []) more))
    ∙ ap (λ (pairs : List (ℕ × ℤ)). Some pairs) (sym (take-append-take most (old ++ (row, price) ∷ []) more))
    ∙ ap (λ (pairs : List (ℕ × ℤ)). Some (take most (pairs ++ more))) (sym is)
pair_added-by most old new true (Some row) (Some price) None added = refl
pair_added-by most old new false (Some row) (Some price) more added = absurd (cc)
pair_added-by most old new true (Some row) None more added = absurd (cc)
pair_added-by most old new true None price more added = absurd (cc)
pair_added-by most old new false (Some row) None more added = refl
pair_added-by most old new false None price more added = refl

-- what pairs say with those behind them, where a pair was added or none is named
pub pair_added : (most : ℕ) (old new : List (ℕ × ℤ)) (is : Bool) (row price : List ℕ) (more : Option (List (ℕ × ℤ))) →
    pairs_where is new ≡ option_map (λ (pair : ℕ × ℤ). take most (old ++ pair ∷ [])) (pair_in row price) →
    option_map (λ (more : List (ℕ × ℤ)). take most (old ++ more)) (joined_pair (natural_in number_digits row) (price_in price) more) ≡ (if is then option_map (λ (more : List (ℕ × ℤ)). take most (new ++ more)) more else None)
pair_added most old new is row price more added = pair_added-by most old new is (natural_in number_digits row) (price_in price) more added

-- two words and others behind them
pub two_words : (words row behind price more : List ℕ) → IsFirstWord words row behind → IsFirstWord behind price more →
    pairs_in (words_of words) ≡ joined_pair (natural_in number_digits row) (price_in price) (pairs_in (words_of more))
two_words words row behind price more first second = ap pairs_in (first.words ∙ ap (λ words. row ∷ words) second.words)

-- two words alone
pub last_words : (words row price : List ℕ) → IsFirstWord words row price → IsOneWord price →
    pairs_in (words_of words) ≡ joined_pair (natural_in number_digits row) (price_in price) (Some [])
last_words words row price first alone = ap pairs_in (first.words ∙ ap (λ words. row ∷ words) alone.words)

-- pairs behind which there are no more
pub pairs_alone : (most : ℕ) (is : Bool) (pairs : List (ℕ × ℤ)) → length pairs ≤ most →
    (if is then option_map (λ (more : List (ℕ × ℤ)). take most (pairs ++ more)) (Some []) else None) ≡ pairs_where is pairs
pairs_alone most true pairs few = ap (λ (pairs : List (ℕ × ℤ)). Some (take most pairs)) (append-nil pairs) ∙ ap (λ (pairs : List (ℕ × ℤ)). Some pairs) (take_all most pairs few)
pairs_alone most false pairs few = refl

-- one word
pub word_left : (words : List ℕ) → IsOneWord words → pairs_in (words_of words) ≡ None
word_left words alone = ap pairs_in alone.words

-- ---- the words of a node

split_marked : (most : ℕ) (column : Option ℕ) (at : Option ℤ) → option_map (with_first most) (joined_split column at) ≡ joined_split column at
split_marked most None at = refl
split_marked most (Some column) None = refl
split_marked most (Some column) (Some at) = refl

split_with_first : (most : ℕ) (words : List (List ℕ)) → option_map (with_first most) (split_in words) ≡ split_in words
split_with_first most [] = refl
split_with_first most (column ∷ []) = refl
split_with_first most (column ∷ at ∷ []) = split_marked most (natural_in number_digits column) (whole_in at)
split_with_first most (column ∷ at ∷ next ∷ more) = refl

pub split_first : (most : ℕ) (word : List ℕ) (words : List (List ℕ)) → bytes_eq word (codes "split") ≡ true →
    option_map (with_first most) (node_of_words (word ∷ words)) ≡ split_in words
split_first most word words split = ap (option_map (with_first most)) (cond-true (bytes_eq word (codes "split")) _ _ split) ∙ split_with_first most words

pub priced_with_first : (most : ℕ) (named : Option (List (ℕ × ℤ))) →
    option_map (with_first most) (option_map (λ (pairs : List (ℕ × ℤ)). LeafNode (Priced pairs)) named) ≡ option_map (λ (pairs : List (ℕ × ℤ)). LeafNode (Priced pairs)) (option_map (take most) named)
priced_with_first most None = refl
priced_with_first most (Some pairs) = refl

pub empty_with_first : (most : ℕ) (named : Option (List (ℕ × ℤ))) →
    option_map (with_first most) (option_map (λ (pairs : List (ℕ × ℤ)). LeafNode (Empty pairs)) named) ≡ option_map (λ (pairs : List (ℕ × ℤ)). LeafNode (Empty pairs)) (option_map (take most) named)
empty_with_first most None = refl
empty_with_first most (Some pairs) = refl

priced_marked : (all : Bool) (pairs : List (ℕ × ℤ)) → option_map (λ (pairs : List (ℕ × ℤ)). LeafNode (Priced pairs)) (pairs_where all pairs) ≡ marked (then_some all mark.Priced) pairs
priced_marked true pairs = refl
priced_marked false pairs = refl

empty_marked : (all : Bool) (pairs : List (ℕ × ℤ)) → option_map (λ (pairs : List (ℕ × ℤ)). LeafNode (Empty pairs)) (pairs_where all pairs) ≡ marked (then_some all mark.Empty) pairs
empty_marked true pairs = refl
empty_marked false pairs = refl

pub priced_first : (most : ℕ) (word : List ℕ) (words : List (List ℕ)) (all : Bool) (pairs : List (ℕ × ℤ)) → bytes_eq word (codes "split") ≡ false → bytes_eq word (codes "priced") ≡ true →
    option_map (take most) (pairs_in words) ≡ pairs_where all pairs → option_map (with_first most) (node_of_words (word ∷ words)) ≡ marked (then_some all mark.Priced) pairs
priced_first most word words all pairs split priced are =
    ap (option_map (with_first most)) (cond-false (bytes_eq word (codes "split")) _ _ split ∙ cond-true (bytes_eq word (codes "priced")) _ _ priced)
    ∙ priced_with_first most (pairs_in words) ∙ ap (option_map (λ (pairs : List (ℕ × ℤ)). LeafNode (Priced pairs))) are ∙ priced_marked all pairs

pub empty_first : (most : ℕ) (word : List ℕ) (words : List (List ℕ)) (all : Bool) (pairs : List (ℕ × ℤ)) → bytes_eq word (codes "split") ≡ false → bytes_eq word (codes "priced") ≡ false → bytes_eq word (codes "empty") ≡ true →
    option_map (take most) (pairs_in words) ≡ pairs_where all pairs → option_map (with_first most) (node_of_words (word ∷ words)) ≡ marked (then_some all mark.Empty) pairs
empty_first most word words all pairs split priced empty are =
    ap (option_map (with_first most)) (cond-false (bytes_eq word (codes "split")) _ _ split ∙ cond-false (bytes_eq word (codes "priced")) _ _ priced ∙ cond-true (bytes_eq word (codes "empty")) _ _ empty)
    ∙ empty_with_first most (pairs_in words) ∙ ap (option_map (λ (pairs : List (ℕ × ℤ)). LeafNode (Empty pairs))) are ∙ empty_marked all pairs

fixed_with : (fixed : Bool) (word : List ℕ) (words : List (List ℕ)) → (if fixed then fixed_in (word ∷ words) else None) ≡ None
fixed_with true word words = refl
fixed_with false word words = refl

other_words : (word : List ℕ) (words : List (List ℕ)) → 0 < length words → (if bytes_eq word (codes "fixed") then fixed_in words else None) ≡ None
other_words word [] some = absurd (omega arith)
other_words word (next ∷ more) some = fixed_with (bytes_eq word (codes "fixed")) next more

-- of the words that may come first none but these has words behind it
pub other_first : (word behind : List ℕ) → bytes_eq word (codes "split") ≡ false → bytes_eq word (codes "priced") ≡ false → bytes_eq word (codes "empty") ≡ false →
    node_of_words (word ∷ words_of behind) ≡ None
other_first word behind split priced empty =
    cond-false (bytes_eq word (codes "split")) _ _ split ∙ cond-false (bytes_eq word (codes "priced")) _ _ priced ∙ cond-false (bytes_eq word (codes "empty")) _ _ empty
    ∙ other_words word (words_of behind) (omega (arith, length-slice_split (λ byte. byte == 32) behind))

-- ---- the line of a node

pub node_behind : (line word behind : List ℕ) → IsFirstWord line word behind → node_in line ≡ node_of_words (word ∷ words_of behind)
unfolding node_in
node_behind line word behind first = ap node_of_words first.words

pub node_alone : (line : List ℕ) → IsOneWord line → node_in line ≡ node_of_words (line ∷ [])
unfolding node_in
node_alone line alone = ap node_of_words alone.words

-- one word names a node without pairs
pub none_marked : (most : ℕ) (mark : Option Mark) → option_map (with_first most) (marked mark []) ≡ marked mark []
none_marked most None = refl
none_marked most (Some (mark.Split column at)) = refl
none_marked most (Some mark.Priced) = ap (λ (pairs : List (ℕ × ℤ)). Some (LeafNode (Priced pairs))) (take_all most [] (omega arith))
none_marked most (Some mark.Empty) = ap (λ (pairs : List (ℕ × ℤ)). Some (LeafNode (Empty pairs))) (take_all most [] (omega arith))
none_marked most (Some mark.Fixed) = refl

-- ---- all pairs of a line

-- words name no more pairs than there are words, and others with a pair before them one more
joined_are_few : (row : Option ℕ) (price : Option ℤ) (named : Option (List (ℕ × ℤ))) (words : ℕ) →
    ((pairs : List (ℕ × ℤ)) → named ≡ Some pairs → length pairs ≤ words) → (pairs : List (ℕ × ℤ)) → joined_pair row price named ≡ Some pairs → length pairs ≤ words + 1
joined_are_few (Some row) (Some price) (Some more) words few pairs are =
    let is : pairs ≡ (row, price) ∷ more = cc in rw is (let here = few more refl in omega (arith, here))
joined_are_few (Some row) (Some price) None words few pairs are = absurd (cc)
joined_are_few (Some row) None named words few pairs are = absurd (cc)
joined_are_few None price named words few pairs are = absurd (cc)

pairs_are_few : (words : List (List ℕ)) (pairs : List (ℕ × ℤ)) → pairs_in words ≡ Some pairs → length pairs ≤ length words
pairs_are_few [] pairs are = let is : pairs ≡ [] = cc in rw is (omega arith)
pairs_are_few (row ∷ []) pairs are = absurd (cc)
pairs_are_few (row ∷ price ∷ words) pairs are =
    let few = joined_are_few (natural_in number_digits row) (price_in price) (pairs_in words) (length words) (pairs_are_few words) pairs are in omega (arith, few)

all_kept-by : (named : Option (List (ℕ × ℤ))) (words most : ℕ) → ((pairs : List (ℕ × ℤ)) → named ≡ Some pairs → length pairs ≤ words) → words ≤ most →
    option_map (take most) named ≡ named
all_kept-by None words most few enough = refl
all_kept-by (Some pairs) words most few enough = ap (λ (pairs : List (ℕ × ℤ)). Some pairs) (take_all most pairs (let here = few pairs refl in omega (arith, here, enough)))

-- all pairs are among the first, where so many are kept as there are words
all_kept : (words : List (List ℕ)) (most : ℕ) → length words ≤ most → option_map (take most) (pairs_in words) ≡ pairs_in words
all_kept words most few = all_kept-by (pairs_in words) (length words) most (pairs_are_few words) few

node_kept : (word : List ℕ) (words : List (List ℕ)) (most : ℕ) (split priced empty fixed : Bool) → length words ≤ most →
    let named : Option Node = (if split then split_in words else
    (if priced then option_map (λ (pairs : List (ℕ × ℤ)). LeafNode (Priced pairs)) (pairs_in words) else
    (if empty then option_map (λ (pairs : List (ℕ × ℤ)). LeafNode (Empty pairs)) (pairs_in words) else
    (if fixed then fixed_in words else None)))) in option_map (with_first most) named ≡ named
node_kept word words most true priced empty fixed few = split_with_first most words
node_kept word words most false true empty fixed few = priced_with_first most (pairs_in words) ∙ ap (option_map (λ (pairs : List (ℕ × ℤ)). LeafNode (Priced pairs))) (all_kept words most few)
node_kept word words most false false true fixed few = empty_with_first most (pairs_in words) ∙ ap (option_map (λ (pairs : List (ℕ × ℤ)). LeafNode (Empty pairs))) (all_kept words most few)
node_kept word [] most false false false true few = refl
node_kept word (next ∷ words) most false false false true few = refl
node_kept word words most false false false false few = refl

words_kept : (words : List (List ℕ)) (most : ℕ) → length words ≤ most + 1 → option_map (with_first most) (node_of_words words) ≡ node_of_words words
words_kept [] most few = refl
words_kept (word ∷ words) most few =
    node_kept word words most (bytes_eq word (codes "split")) (bytes_eq word (codes "priced")) (bytes_eq word (codes "empty")) (bytes_eq word (codes "fixed")) (omega (arith, few))

-- all pairs of a line are among its first, where as many are kept as it has bytes
pub line_kept : (most : ℕ) (line : List ℕ) → length line ≤ most → option_map (with_first most) (node_in line) ≡ node_in line
unfolding node_in
line_kept most line few =
    words_kept (words_of line) most (let spaces = count_by-le-length (λ byte. byte == 32) line in let words = length-slice_split (λ byte. byte == 32) line in omega (arith, spaces, words))
