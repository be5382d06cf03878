-- Laws of the text of a certificate: a line names a node, or the bound, exactly where it is written for it; and a text is that of a
-- certificate exactly where its lines are.
use Rattle.std.proofs.Common.{◌≡◌, ◌≢◌, ℕ, zero, suc, ◌<◌, Bool, true, false, List, [], ◌∷◌, ◌++◌, length, map, Option, Some, None, if◌then◌else◌, refl, sym, ap, subst, ◌∙◌, arith}
use Rattle.std.specs.Prelude.{◌↔◌, ◌==◌, not, ℤ, pos, negsuc, unsigned_abs, codes, All, flat_map, option_map}
use Rattle.std.specs.Fmt.{decimal, signed_decimal}
use Rattle.std.specs.List.{list_all}
use Rattle.std.specs.Str.{bytes_eq}
use Rattle.std.proofs.lemmas.List.{append-nil}
use Rattle.std.proofs.lemmas.List.Elements.{All-append, All-cons, All-head, All-nil, All-tail}
use Rattle.std.proofs.lemmas.Slice.Eq.{bytes_eq-Decides}
use Rattle.texts.specs.Lines.{Lacks, behind_lines, line_of_words, lines_of, text_of_lines, words_of}
use Rattle.texts.specs.Names.{is_small_letter}
use Rattle.texts.specs.Numbers.{is_digit, IsNaturalText, IsPriceText, IsWholeText, natural_in, price_in, whole_in}
use Rattle.texts.proofs.LineLaws.{behind_lines-written, line_of_words-read, lines_of-written, text_of_lines-read, words_of-written}
use Rattle.texts.proofs.NameLaws.{stands_not}
use Rattle.texts.proofs.NumberLaws.{natural_decimal, natural_spells}
use Rattle.texts.proofs.WholeLaws.{decimal_lacks, price_is_read, price_spells, signed_decimal_lacks, whole_decimal, whole_spells}
use Rattle.certificate_model.specs.Nodes.{LeafNode, Node, SplitNode}
use Rattle.certificate_model.specs.Text.{IsSpelled, IsSpelledPair, IsWhole, bound_in, bound_line, bound_of_words, certificate_lines, certificate_text, end_line, fixed_in, head_line, joined_pair, joined_split, node_in, node_line, node_of_words, node_words, number_digits, pair_words, pairs_in, split_in}
use Rattle.certificate_model.specs.Tree.{Empty, Fixed, Priced}

-- ---- words

-- equal texts
same_text : (a b : List ℕ) → bytes_eq a b ≡ true → a ≡ b
same_text a b is = (bytes_eq-Decides a b).0 is

-- a number other than 0 is at least 1 from it
apart : (z : ℤ) → z ≢ pos 0 → 0 < unsigned_abs z
apart (pos zero) other = absurd (other refl)
apart (pos (suc n)) other = omega arith
apart (negsuc n) other = omega arith

-- and a number that is at least 1 from 0 is another
other_than_zero : (z : ℤ) → 0 < unsigned_abs z → z ≢ pos 0
other_than_zero z some same = let none : unsigned_abs z ≡ 0 = ap unsigned_abs same in absurd (omega arith)

-- ---- pairs

-- the words are those of the pairs, whose numbers have a spelling
pub record SpellPairs (words : List (List ℕ)) (pairs : List (ℕ × ℤ)) : Type 0 where
  pub written : words ≡ flat_map pair_words pairs
  pub spelled : All IsSpelledPair pairs

-- two words more
one_pair_more : (row price : List ℕ) (words : List (List ℕ)) (pairs : List (ℕ × ℤ)) (i : Option ℕ) (z : Option ℤ) (more : Option (List (ℕ × ℤ))) →
    natural_in number_digits row ≡ i → price_in price ≡ z → joined_pair i z more ≡ Some pairs →
    ((others : List (ℕ × ℤ)) → more ≡ Some others → SpellPairs words others) → SpellPairs (row ∷ price ∷ words) pairs
one_pair_more row price words pairs None z more is_row is_price joined behind = absurd (cc)
one_pair_more row price words pairs (Some i) None more is_row is_price joined behind = absurd (cc)
one_pair_more row price words pairs (Some i) (Some z) None is_row is_price joined behind = absurd (cc)
one_pair_more row price words pairs (Some i) (Some z) (Some others) is_row is_price joined behind =
    let number : IsNaturalText number_digits row i = natural_spells number_digits row i (omega arith) is_row in
    let priced : IsPriceText price z = price_spells price z is_price in
    let rest : SpellPairs words others = behind others refl in
    let own : SpellPairs (row ∷ price ∷ words) ((i, z) ∷ others) = record {
      written = rw (number.written, priced.whole.written, rest.written) refl;
      spelled = All-cons IsSpelledPair (i, z) others (record { row = number.small; some = other_than_zero z priced.some; price = priced.whole.small }) rest.spelled;
    } in
    let same : (i, z) ∷ others ≡ pairs = cc joined in
    subst (SpellPairs (row ∷ price ∷ words)) same own

-- words that name pairs are theirs
pairs_spell : (words : List (List ℕ)) (pairs : List (ℕ × ℤ)) → pairs_in words ≡ Some pairs → SpellPairs words pairs
pairs_spell [] pairs is = let same : [] ≡ pairs = cc is in subst (SpellPairs []) same (record { written = refl; spelled = All-nil IsSpelledPair })
pairs_spell (row ∷ []) pairs is = absurd (cc)
pairs_spell (row ∷ price ∷ words) pairs is = one_pair_more row price words pairs (natural_in number_digits row) (price_in price) (pairs_in words) refl refl is (pairs_spell words)

-- and the words of pairs name them
pairs_are_read : (pairs : List (ℕ × ℤ)) → All IsSpelledPair pairs → pairs_in (flat_map pair_words pairs) ≡ Some pairs
pairs_are_read [] spelled = refl
pairs_are_read (pair ∷ pairs) spelled =
    let first : IsSpelledPair pair = All-head IsSpelledPair pair pairs spelled in
    let row : natural_in number_digits (decimal pair.0) ≡ Some pair.0 = natural_decimal number_digits pair.0 (omega arith) (omega arith) first.row in
    let price : price_in (signed_decimal pair.1) ≡ Some pair.1 =
    price_is_read (signed_decimal pair.1) pair.1 (record { whole = record { written = refl; small = first.price }; some = apart pair.1 first.some }) in
    rw (row, price, pairs_are_read pairs (All-tail IsSpelledPair pair pairs spelled)) refl

-- ---- nodes

-- the words are those of the node, whose numbers have a spelling
pub record SpellNode (words : List (List ℕ)) (node : Node) : Type 0 where
  pub written : words ≡ node_words node
  pub spelled : IsSpelled node

-- a split, whose words name a column and a value
split_by : (word column at : List ℕ) (node : Node) (j : Option ℕ) (z : Option ℤ) → word ≡ codes "split" → natural_in number_digits column ≡ j → whole_in at ≡ z →
    joined_split j z ≡ Some node → SpellNode (word ∷ column ∷ at ∷ []) node
split_by word column at node None z named is_column is_at joined = absurd (cc)
split_by word column at node (Some j) None named is_column is_at joined = absurd (cc)
split_by word column at node (Some j) (Some z) named is_column is_at joined =
    let number : IsNaturalText number_digits column j = natural_spells number_digits column j (omega arith) is_column in
    let value : IsWholeText at z = whole_spells at z is_at in
    let own : SpellNode (word ∷ column ∷ at ∷ []) (SplitNode j z) = record { written = rw (named, number.written, value.written) refl; spelled = (number.small, value.small) } in
    let same : SplitNode j z ≡ node = cc joined in
    subst (SpellNode (word ∷ column ∷ at ∷ [])) same own

-- words behind `split`
split_spells : (word : List ℕ) (words : List (List ℕ)) (node : Node) → word ≡ codes "split" → split_in words ≡ Some node → SpellNode (word ∷ words) node
split_spells word [] node named is = absurd (cc)
split_spells word (column ∷ []) node named is = absurd (cc)
split_spells word (column ∷ at ∷ []) node named is = split_by word column at node (natural_in number_digits column) (whole_in at) named refl refl is
split_spells word (column ∷ at ∷ next ∷ more) node named is = absurd (cc)

-- words behind `priced`
priced_spells : (word : List ℕ) (words : List (List ℕ)) (node : Node) (pairs : Option (List (ℕ × ℤ))) → word ≡ codes "priced" → pairs_in words ≡ pairs →
    option_map (λ (pairs : List (ℕ × ℤ)). LeafNode (Priced pairs)) pairs ≡ Some node → SpellNode (word ∷ words) node
priced_spells word words node None named named_pairs is = absurd (cc)
priced_spells word words node (Some pairs) named named_pairs is =
    let rest : SpellPairs words pairs = pairs_spell words pairs named_pairs in
    let own : SpellNode (word ∷ words) (LeafNode (Priced pairs)) = record { written = rw (named, rest.written) refl; spelled = rest.spelled } in
    let same : LeafNode (Priced pairs) ≡ node = cc is in
    subst (SpellNode (word ∷ words)) same own

-- words behind `empty`
empty_spells : (word : List ℕ) (words : List (List ℕ)) (node : Node) (pairs : Option (List (ℕ × ℤ))) → word ≡ codes "empty" → pairs_in words ≡ pairs →
    option_map (λ (pairs : List (ℕ × ℤ)). LeafNode (Empty pairs)) pairs ≡ Some node → SpellNode (word ∷ words) node
empty_spells word words node None named named_pairs is = absurd (cc)
empty_spells word words node (Some pairs) named named_pairs is =
    let rest : SpellPairs words pairs = pairs_spell words pairs named_pairs in
    let own : SpellNode (word ∷ words) (LeafNode (Empty pairs)) = record { written = rw (named, rest.written) refl; spelled = rest.spelled } in
    let same : LeafNode (Empty pairs) ≡ node = cc is in
    subst (SpellNode (word ∷ words)) same own

-- words behind `fixed`
fixed_spells : (word : List ℕ) (words : List (List ℕ)) (node : Node) → word ≡ codes "fixed" → fixed_in words ≡ Some node → SpellNode (word ∷ words) node
fixed_spells word [] node named is =
    let own : SpellNode (word ∷ []) (LeafNode Fixed) = record { written = ap (λ word. word ∷ []) named; spelled = tt } in
    let same : LeafNode Fixed ≡ node = cc is in
    subst (SpellNode (word ∷ [])) same own
fixed_spells word (next ∷ more) node named is = absurd (cc)

-- words by the first of them
node_by : (word : List ℕ) (words : List (List ℕ)) (node : Node) (split priced empty fixed : Bool) →
    bytes_eq word (codes "split") ≡ split → bytes_eq word (codes "priced") ≡ priced → bytes_eq word (codes "empty") ≡ empty → bytes_eq word (codes "fixed") ≡ fixed →
    (if split then split_in words else
    (if priced then option_map (λ (pairs : List (ℕ × ℤ)). LeafNode (Priced pairs)) (pairs_in words) else
    (if empty then option_map (λ (pairs : List (ℕ × ℤ)). LeafNode (Empty pairs)) (pairs_in words) else
    (if fixed then fixed_in words else None)))) ≡ Some node → SpellNode (word ∷ words) node
node_by word words node true priced empty fixed s p e f is = split_spells word words node (same_text word (codes "split") s) is
node_by word words node false true empty fixed s p e f is = priced_spells word words node (pairs_in words) (same_text word (codes "priced") p) refl is
node_by word words node false false true fixed s p e f is = empty_spells word words node (pairs_in words) (same_text word (codes "empty") e) refl is
node_by word words node false false false true s p e f is = fixed_spells word words node (same_text word (codes "fixed") f) is
node_by word words node false false false false s p e f is = absurd (cc)

-- words that name a node are its words
node_spells : (words : List (List ℕ)) (node : Node) → node_of_words words ≡ Some node → SpellNode words node
node_spells [] node is = absurd (cc)
node_spells (word ∷ words) node is =
    node_by word words node (bytes_eq word (codes "split")) (bytes_eq word (codes "priced")) (bytes_eq word (codes "empty")) (bytes_eq word (codes "fixed")) refl refl refl refl is

-- and the words of a node name it
node_is_read : (node : Node) → IsSpelled node → node_of_words (node_words node) ≡ Some node
node_is_read (SplitNode column at) spelled =
    let number : natural_in number_digits (decimal column) ≡ Some column = natural_decimal number_digits column (omega arith) (omega arith) spelled.0 in
    let value : whole_in (signed_decimal at) ≡ Some at = whole_decimal at spelled.1 in
    rw (number, value) refl
node_is_read (LeafNode (Priced pairs)) spelled = ap (option_map (λ (pairs : List (ℕ × ℤ)). LeafNode (Priced pairs))) (pairs_are_read pairs spelled)
node_is_read (LeafNode (Empty pairs)) spelled = ap (option_map (λ (pairs : List (ℕ × ℤ)). LeafNode (Empty pairs))) (pairs_are_read pairs spelled)
node_is_read (LeafNode Fixed) spelled = refl

-- ---- which bytes stand in the lines

-- a byte that is no digit, no minus and no small letter
record StandsBetween (byte : ℕ) : Type 0 where
  digit : is_digit byte ≡ false
  minus : byte ≢ 45
  letter : is_small_letter byte ≡ false

-- a space is one, and a line feed
space : StandsBetween 32
space = record { digit = refl; minus = λ same. absurd (omega arith); letter = refl }

feed : StandsBetween 10
feed = record { digit = refl; minus = λ same. absurd (omega arith); letter = refl }

-- a word of small letters lacks it
letters_lack : (byte : ℕ) (word : List ℕ) → StandsBetween byte → list_all is_small_letter word ≡ true → Lacks byte word
letters_lack byte word between letters = stands_not is_small_letter byte word between.letter letters

-- the words of pairs lack it
pairs_lack : (byte : ℕ) (pairs : List (ℕ × ℤ)) → StandsBetween byte → All IsSpelledPair pairs → All (Lacks byte) (flat_map pair_words pairs)
pairs_lack byte [] between spelled = All-nil (Lacks byte)
pairs_lack byte (pair ∷ pairs) between spelled =
    let first : IsSpelledPair pair = All-head IsSpelledPair pair pairs spelled in
    let row : Lacks byte (decimal pair.0) = decimal_lacks byte pair.0 between.digit (let small = first.row in omega arith) in
    let price : Lacks byte (signed_decimal pair.1) = signed_decimal_lacks byte pair.1 between.digit between.minus (let small = first.price in omega arith) in
    let rest : All (Lacks byte) (flat_map pair_words pairs) = pairs_lack byte pairs between (All-tail IsSpelledPair pair pairs spelled) in
    All-cons (Lacks byte) (decimal pair.0) (signed_decimal pair.1 ∷ flat_map pair_words pairs) row (All-cons (Lacks byte) (signed_decimal pair.1) (flat_map pair_words pairs) price rest)

-- the words of a node lack it
node_words_lack : (byte : ℕ) (node : Node) → StandsBetween byte → IsSpelled node → All (Lacks byte) (node_words node)
node_words_lack byte (SplitNode column at) between spelled =
    let number : Lacks byte (decimal column) = decimal_lacks byte column between.digit (let small = spelled.0 in omega arith) in
    let value : Lacks byte (signed_decimal at) = signed_decimal_lacks byte at between.digit between.minus (let small = spelled.1 in omega arith) in
    All-cons (Lacks byte) (codes "split") (decimal column ∷ signed_decimal at ∷ []) (letters_lack byte (codes "split") between refl)
    (All-cons (Lacks byte) (decimal column) (signed_decimal at ∷ []) number (All-cons (Lacks byte) (signed_decimal at) [] value (All-nil (Lacks byte))))
node_words_lack byte (LeafNode (Priced pairs)) between spelled =
    All-cons (Lacks byte) (codes "priced") (flat_map pair_words pairs) (letters_lack byte (codes "priced") between refl) (pairs_lack byte pairs between spelled)
node_words_lack byte (LeafNode (Empty pairs)) between spelled =
    All-cons (Lacks byte) (codes "empty") (flat_map pair_words pairs) (letters_lack byte (codes "empty") between refl) (pairs_lack byte pairs between spelled)
node_words_lack byte (LeafNode Fixed) between spelled = All-cons (Lacks byte) (codes "fixed") [] (letters_lack byte (codes "fixed") between refl) (All-nil (Lacks byte))

-- a node has a word
some_word : (node : Node) → 0 < length (node_words node)
some_word (SplitNode column at) = omega arith
some_word (LeafNode (Priced pairs)) = omega arith
some_word (LeafNode (Empty pairs)) = omega arith
some_word (LeafNode Fixed) = omega arith

-- the words of the bound lack it
bound_words_lack : (byte : ℕ) (b : ℤ) → StandsBetween byte → IsWhole b → All (Lacks byte) (codes "bound" ∷ signed_decimal b ∷ [])
bound_words_lack byte b between small =
    let number : Lacks byte (signed_decimal b) = signed_decimal_lacks byte b between.digit between.minus (omega arith) in
    All-cons (Lacks byte) (codes "bound") (signed_decimal b ∷ []) (letters_lack byte (codes "bound") between refl) (All-cons (Lacks byte) (signed_decimal b) [] number (All-nil (Lacks byte)))

-- a line lacks a byte that its words lack and that is no space
line_lacks : (byte : ℕ) (words : List (List ℕ)) → (32 == byte) ≡ false → All (Lacks byte) words → Lacks byte (line_of_words words)
line_lacks byte [] other lack = All-nil (λ x. (x == byte) ≡ false)
line_lacks byte (word ∷ []) other lack = All-head (Lacks byte) word [] lack
line_lacks byte (word ∷ next ∷ more) other lack =
    All-append (λ x. (x == byte) ≡ false) word (32 ∷ line_of_words (next ∷ more)) (All-head (Lacks byte) word (next ∷ more) lack)
    (All-cons (λ x. (x == byte) ≡ false) 32 (line_of_words (next ∷ more)) other (line_lacks byte (next ∷ more) other (All-tail (Lacks byte) word (next ∷ more) lack)))

-- ---- lines

-- a line that names a node is the node's line
pub node_spells_line : (line : List ℕ) (node : Node) → node_in line ≡ Some node → (line ≡ node_line node) × IsSpelled node
unfolding node_in
node_spells_line line node is =
    let spells : SpellNode (words_of line) node = node_spells (words_of line) node is in
    (sym (line_of_words-read line) ∙ ap line_of_words spells.written, spells.spelled)

-- and the line of a node names it
pub node_in-line : (node : Node) → IsSpelled node → node_in (node_line node) ≡ Some node
unfolding node_in
node_in-line node spelled = ap node_of_words (words_of-written (node_words node) (some_word node) (node_words_lack 32 node space spelled)) ∙ node_is_read node spelled

-- so each node has one line
pub node_has_one_line : (line : List ℕ) (node : Node) → (node_in line ≡ Some node) ↔ ((line ≡ node_line node) × IsSpelled node)
node_has_one_line line node = (node_spells_line line node, λ (is, spelled). ap node_in is ∙ node_in-line node spelled)

-- two words that name a bound are those of its line
bound_by : (word number : List ℕ) (b : ℤ) (named : Bool) → bytes_eq word (codes "bound") ≡ named → (if named then whole_in number else None) ≡ Some b →
    (word ∷ number ∷ [] ≡ codes "bound" ∷ signed_decimal b ∷ []) × IsWhole b
bound_by word number b false named is = absurd (cc)
bound_by word number b true named is =
    let value : IsWholeText number b = whole_spells number b is in
    (rw (same_text word (codes "bound") named, value.written) refl, value.small)

-- words that name a bound are those of its line
bound_spells : (words : List (List ℕ)) (b : ℤ) → bound_of_words words ≡ Some b → (words ≡ codes "bound" ∷ signed_decimal b ∷ []) × IsWhole b
bound_spells [] b is = absurd (cc)
bound_spells (word ∷ []) b is = absurd (cc)
bound_spells (word ∷ number ∷ []) b is = bound_by word number b (bytes_eq word (codes "bound")) refl is
bound_spells (word ∷ number ∷ next ∷ more) b is = absurd (cc)

-- a line that names a bound is the line of that bound
pub bound_spells_line : (line : List ℕ) (b : ℤ) → bound_in line ≡ Some b → (line ≡ bound_line b) × IsWhole b
unfolding bound_in
bound_spells_line line b is =
    let spells = bound_spells (words_of line) b is in
    (sym (line_of_words-read line) ∙ ap line_of_words spells.0, spells.1)

-- and the line of a bound names it
pub bound_in-line : (b : ℤ) → IsWhole b → bound_in (bound_line b) ≡ Some b
unfolding bound_in
bound_in-line b small =
    ap bound_of_words (words_of-written (codes "bound" ∷ signed_decimal b ∷ []) (omega arith) (bound_words_lack 32 b space small)) ∙ whole_decimal b small

-- so each bound has one line
pub bound_has_one_line : (line : List ℕ) (b : ℤ) → (bound_in line ≡ Some b) ↔ ((line ≡ bound_line b) × IsWhole b)
bound_has_one_line line b = (bound_spells_line line b, λ (is, small). ap bound_in is ∙ bound_in-line b small)

-- ---- all lines

-- no line holds a line feed: the first, the last, the bound, a node, all nodes
pub head_line_lacks : Lacks 10 head_line
head_line_lacks = stands_not (λ x. not (bytes_eq (x ∷ []) (10 ∷ []))) 10 head_line refl refl

pub end_line_lacks : Lacks 10 end_line
end_line_lacks = letters_lack 10 end_line feed refl

pub bound_line_lacks : (b : ℤ) → IsWhole b → Lacks 10 (bound_line b)
bound_line_lacks b small = line_lacks 10 (codes "bound" ∷ signed_decimal b ∷ []) refl (bound_words_lack 10 b feed small)

pub node_line_lacks : (node : Node) → IsSpelled node → Lacks 10 (node_line node)
node_line_lacks node spelled = line_lacks 10 (node_words node) refl (node_words_lack 10 node feed spelled)

pub node_lines_lack : (nodes : List Node) → All IsSpelled nodes → All (Lacks 10) (map node_line nodes)
node_lines_lack [] spelled = All-nil (Lacks 10)
node_lines_lack (node ∷ nodes) spelled =
    All-cons (Lacks 10) (node_line node) (map node_line nodes) (node_line_lacks node (All-head IsSpelled node nodes spelled)) (node_lines_lack nodes (All-tail IsSpelled node nodes spelled))

-- no line of a certificate holds a line feed
pub certificate_lines_lack : (b : ℤ) (nodes : List Node) → IsWhole b → All IsSpelled nodes → All (Lacks 10) (certificate_lines b nodes)
certificate_lines_lack b nodes small spelled =
    let rest : All (Lacks 10) (map node_line nodes ++ end_line ∷ []) =
    All-append (Lacks 10) (map node_line nodes) (end_line ∷ []) (node_lines_lack nodes spelled) (All-cons (Lacks 10) end_line [] end_line_lacks (All-nil (Lacks 10))) in
    All-cons (Lacks 10) head_line (bound_line b ∷ (map node_line nodes ++ end_line ∷ [])) head_line_lacks
    (All-cons (Lacks 10) (bound_line b) (map node_line nodes ++ end_line ∷ []) (bound_line_lacks b small) rest)

-- the lines of the text of a certificate are its lines
pub lines_of-certificate : (b : ℤ) (nodes : List Node) → IsWhole b → All IsSpelled nodes → lines_of (certificate_text b nodes) ≡ certificate_lines b nodes
unfolding certificate_text
lines_of-certificate b nodes small spelled = lines_of-written (certificate_lines b nodes) (certificate_lines_lack b nodes small spelled)

-- and nothing stands behind them
pub behind_lines-certificate : (b : ℤ) (nodes : List Node) → IsWhole b → All IsSpelled nodes → behind_lines (certificate_text b nodes) ≡ []
unfolding certificate_text
behind_lines-certificate b nodes small spelled = behind_lines-written (certificate_lines b nodes) (certificate_lines_lack b nodes small spelled)

-- a text of these lines, with nothing behind them, is that of the certificate
pub certificate_text-read : (text : List ℕ) (b : ℤ) (nodes : List Node) → lines_of text ≡ certificate_lines b nodes → behind_lines text ≡ [] → text ≡ certificate_text b nodes
unfolding certificate_text
certificate_text-read text b nodes lines none =
    sym (text_of_lines-read text) ∙ ap (λ behind. text_of_lines (lines_of text) ++ behind) none ∙ append-nil (text_of_lines (lines_of text)) ∙ ap text_of_lines lines
