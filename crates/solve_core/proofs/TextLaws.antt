-- The text of a certificate that a search grows within its budget is no longer than a certificate may be.
use Rattle.std.proofs.Common.{◌≡◌, ℕ, suc, ◌+◌, ◌*◌, ◌<◌, ◌≤◌, ◌^◌, List, [], ◌∷◌, ◌++◌, All, length, map, subst, sym, ap, arith}
use Rattle.std.specs.Prelude.{ℤ, pos, negsuc, unsigned_abs, codes, flat_map}
use Rattle.std.specs.Fmt.{decimal, signed_decimal}
use Rattle.std.proofs.Math.Nat.{mul-le-mul_left, mul-le-mul_right}
use Rattle.std.proofs.lemmas.Fmt.{length-decimal-le}
use Rattle.std.proofs.lemmas.List.{length-append}
use Rattle.std.proofs.lemmas.List.Concat.{flat_map-append}
use Rattle.std.proofs.lemmas.List.Elements.{All-cons, All-head, All-tail}
use Rattle.std.proofs.lemmas.List.Folds.{flat_map-map}
use Rattle.ct_base.specs.Validity.{IsValid}
use Rattle.ct_base.specs.declared.net.Net.{Net}
use Rattle.sparse_program.specs.Box.{Ranges}
use Rattle.sparse_program.specs.declared.limits.TheConstants.{MAX_ROWS}
use Rattle.sparse_program.specs.declared.row.Row.{Row}
use Rattle.texts.specs.Lines.{line_of_words, text_of_lines}
use Rattle.program_model.specs.Points.{program_of}
use Rattle.certificate_model.specs.Certificates.{root_of}
use Rattle.certificate_model.specs.Nodes.{LeafNode, Node, SplitNode, nodes_of}
use Rattle.certificate_model.specs.Text.{IsSpelled, IsWhole, bound_line, certificate_text, end_line, head_line, node_line, pair_words}
use Rattle.certificate_model.specs.Tree.{AtLeaf, Empty, Fixed, IsGood, Leaf, Priced, Split, Tree, left_of, right_of}
use Rattle.certificate_model.specs.Value.{AreLawful, most_price}
use Rattle.certificate_model.specs.declared.constants.TheConstants.{MAX_CERTIFICATE_BYTES}
use Rattle.safe_bound.proofs.PriceLaws.{rising_few}
use Rattle.search_model.specs.LeafNumbers.{IsLawfulLeaf}
use Rattle.search_model.specs.Splits.{AreFirstSplits}
use Rattle.solve_core.specs.declared.constants.TheConstants.{MAX_WORK}
use Rattle.solve_core.proofs.RowLaws.{five_rows}

-- ---- words

-- a whole number of so many digits, and its sign
signed_short : (digits : ℕ) (z : ℤ) → 0 < digits → unsigned_abs z < 10 ^ digits → unsigned_abs z < 2 ^ 64 →
    length (signed_decimal z) ≤ digits + 1
signed_short digits (pos n) some few small = omega (arith, length-decimal-le digits n some few small)
signed_short digits (negsuc n) some few small = omega (arith, length-decimal-le digits (suc n) some few small)

-- words, each behind a space
abbrev spaced : List (List ℕ) → List ℕ
spaced words = flat_map (λ (word : List ℕ). 32 ∷ word) words

-- a line is its first word, and each further one behind a space
line_long : (word : List ℕ) (words : List (List ℕ)) → length (line_of_words (word ∷ words)) ≡ length word + length (spaced words)
line_long word [] = omega arith
line_long word (next ∷ more) =
    omega (arith, length-append word (32 ∷ line_of_words (next ∷ more)), line_long next more, length-append (32 ∷ next) (spaced more))

-- ---- leaves

-- the pairs of a leaf: each names a row by 6 digits and a price by a sign and 13 digits
pairs_short : (rows : ℕ) (pairs : List (ℕ × ℤ)) → rows ≤ 10 ^ 6 → All (λ (pair : ℕ × ℤ). pair.0 < rows) pairs →
    All (λ (pair : ℕ × ℤ). unsigned_abs pair.1 ≤ most_price) pairs → length (spaced (flat_map pair_words pairs)) ≤ 22 * length pairs
pairs_short rows [] few there within = omega arith
pairs_short rows (pair ∷ pairs) few there within =
    let row : List ℕ = decimal pair.0 in
    let price : List ℕ = signed_decimal pair.1 in
    let rest : List ℕ = spaced (flat_map pair_words pairs) in
    let below : pair.0 < rows = All-head (λ (p : ℕ × ℤ). p.0 < rows) pair pairs there in
    let small : unsigned_abs pair.1 ≤ most_price = All-head (λ (p : ℕ × ℤ). unsigned_abs p.1 ≤ most_price) pair pairs within in
    omega (
      arith,
      length-append (32 ∷ row) ((32 ∷ price) ++ rest),
      length-append (32 ∷ price) rest,
      length-decimal-le 6 pair.0 (omega arith) (omega (arith, below, few)) (omega (arith, below, few)),
      signed_short 13 pair.1 (omega arith) (omega (arith, small)) (omega (arith, small)),
      pairs_short rows pairs few
          (All-tail (λ (p : ℕ × ℤ). p.0 < rows) pair pairs there)
          (All-tail (λ (p : ℕ × ℤ). unsigned_abs p.1 ≤ most_price) pair pairs within),
    )

-- a word of at most 6 bytes with pairs, of which there is at most one a row
priced_short : (rows : List Row) (word : List ℕ) (pairs : List (ℕ × ℤ)) → length word ≤ 6 → length rows ≤ MAX_ROWS → AreLawful rows pairs →
    length (line_of_words (word ∷ flat_map pair_words pairs)) ≤ 6 + 22 * length rows
priced_short rows word pairs short few lawful =
    omega (
      arith,
      short,
      line_long word (flat_map pair_words pairs),
      pairs_short (length rows) pairs (omega (arith, few)) lawful.there lawful.within,
      rising_few pairs (length rows) lawful.rises lawful.there,
    )

-- so the line of a lawful leaf grows with the rows alone
leaf_short : (net : Net) (box : Ranges) (leaf : Leaf) → length (program_of net).rows ≤ MAX_ROWS → IsLawfulLeaf net box leaf →
    length (node_line (LeafNode leaf)) ≤ 6 + 22 * length (program_of net).rows
leaf_short net box (Priced pairs) few lawful = priced_short (program_of net).rows (codes "priced") pairs (omega arith) few lawful
leaf_short net box (Empty pairs) few lawful = priced_short (program_of net).rows (codes "empty") pairs (omega arith) few lawful.lawful
leaf_short net box Fixed few lawful = omega arith

-- ---- splits

-- a split at 0 names its column by 9 digits
split_short : (column : ℕ) → column < 10 ^ 9 → length (node_line (SplitNode column (pos 0))) ≤ 17
split_short column few =
    let number : List ℕ = decimal column in
    omega (
      arith,
      line_long (codes "split") (number ∷ signed_decimal (pos 0) ∷ []),
      length-append (32 ∷ number) ((32 ∷ signed_decimal (pos 0)) ++ []),
      length-append (32 ∷ signed_decimal (pos 0)) [],
      length-decimal-le 9 column (omega arith) few (omega (arith, few)),
      length-decimal-le 1 0 (omega arith) (omega arith) (omega arith),
    )

-- ---- the nodes of a tree

-- the lines of nodes, with their line feeds
abbrev lines_of_nodes : List Node → List ℕ
lines_of_nodes nodes = flat_map (λ (node : Node). node_line node ++ 10 ∷ []) nodes

-- the bytes of a split and of both its sides. Each node has 18, and each leaf so many more, and of n nodes (n + 1) / 2 are leaves; so twice
-- the bytes are at most n * (36 + most) + most
sides_short : (line left right a b most : ℕ) → line ≤ 18 → 2 * left ≤ a * (36 + most) + most → 2 * right ≤ b * (36 + most) + most →
    2 * (line + (left + right)) ≤ (1 + (a + b)) * (36 + most) + most
sides_short line left right a b most short on_left on_right = omega (arith, short, on_left, on_right)

-- what holds of all of two lists holds of all of the first
first_of : {X : Type 0} (P : X → Type 0) (xs ys : List X) → All P (xs ++ ys) → All P xs
first_of P [] ys all = λ k d within. absurd (omega (arith, within))
first_of P (x ∷ xs) ys all = All-cons P x xs (All-head P x (xs ++ ys) all) (first_of P xs ys (All-tail P x (xs ++ ys) all))

-- and of all of the second
second_of : {X : Type 0} (P : X → Type 0) (xs ys : List X) → All P (xs ++ ys) → All P ys
second_of P [] ys all = all
second_of P (x ∷ xs) ys all = second_of P xs ys (All-tail P x (xs ++ ys) all)

-- the lines of a split and of both its sides
lines_of_split : (column : ℕ) (at : ℤ) (left right : List Node) →
    length (lines_of_nodes (SplitNode column at ∷ (left ++ right))) ≡
    (length (node_line (SplitNode column at)) + 1) + (length (lines_of_nodes left) + length (lines_of_nodes right))
lines_of_split column at left right =
    let line : List ℕ = node_line (SplitNode column at) in
    omega (
      arith,
      length-append (line ++ 10 ∷ []) (lines_of_nodes (left ++ right)),
      length-append line (10 ∷ []),
      ap length (flat_map-append (λ (node : Node). node_line node ++ 10 ∷ []) left right),
      length-append (lines_of_nodes left) (lines_of_nodes right),
    )

-- so the lines of a tree of first splits with lawful leaves grow with its nodes and the rows
nodes_short : (net : Net) (box : Ranges) (tree : Tree) → length (program_of net).rows ≤ MAX_ROWS → All IsSpelled (nodes_of tree) →
    IsGood (IsLawfulLeaf net) box tree → AreFirstSplits net box tree →
    2 * length (lines_of_nodes (nodes_of tree)) ≤
    length (nodes_of tree) * (36 + 22 * length (program_of net).rows) + 22 * length (program_of net).rows
nodes_short net box (AtLeaf leaf) few spelled good splits =
    let line : List ℕ = node_line (LeafNode leaf) in
    omega (arith, leaf_short net box leaf few good, length-append (line ++ 10 ∷ []) [], length-append line (10 ∷ []))
nodes_short net box (Split column at left right) few spelled good splits =
    let ls : List Node = nodes_of left in
    let rs : List Node = nodes_of right in
    let split : Node = SplitNode column at in
    let rows : ℕ = length (program_of net).rows in
    let behind : All IsSpelled (ls ++ rs) = All-tail IsSpelled split (ls ++ rs) spelled in
    let column_few : column < 10 ^ 9 = (All-head IsSpelled split (ls ++ rs) spelled).0 in
    let line : length (node_line split) ≤ 17 =
    subst (λ (z : ℤ). length (node_line (SplitNode column z)) ≤ 17) (sym splits.1) (split_short column column_few) in
    let on_left = nodes_short net (left_of box column at) left few (first_of IsSpelled ls rs behind) good.1 splits.2 in
    let on_right = nodes_short net (right_of box column at) right few (second_of IsSpelled ls rs behind) good.2 splits.3 in
    let many : length (split ∷ (ls ++ rs)) ≡ 1 + (length ls + length rs) = omega (arith, length-append ls rs) in
    rw (lines_of_split column at ls rs, many)
    (sides_short (length (node_line split) + 1) (length (lines_of_nodes ls)) (length (lines_of_nodes rs))
    (length ls) (length rs) (22 * rows) (omega (arith, line)) on_left on_right)

-- ---- the whole text

-- the line of the bound has a sign and at most 15 digits
bound_short : (bound : ℤ) → IsWhole bound → length (bound_line bound) ≤ 22
bound_short bound whole =
    omega (
      arith,
      line_long (codes "bound") (signed_decimal bound ∷ []),
      length-append (32 ∷ signed_decimal bound) [],
      signed_short 15 bound (omega arith) whole (omega (arith, whole)),
    )

-- a text is its first line, that of the bound, those of the nodes, and the last
text_long : (bound : ℤ) (nodes : List Node) →
    length (certificate_text bound nodes) ≡ 16 + length (bound_line bound) + length (lines_of_nodes nodes)
unfolding certificate_text
text_long bound nodes =
    let lines : List (List ℕ) = map node_line nodes in
    omega (
      arith,
      length-append (head_line ++ 10 ∷ []) ((bound_line bound ++ 10 ∷ []) ++ text_of_lines (lines ++ end_line ∷ [])),
      length-append (bound_line bound ++ 10 ∷ []) (text_of_lines (lines ++ end_line ∷ [])),
      length-append (bound_line bound) (10 ∷ []),
      ap length (flat_map-append (λ (line : List ℕ). line ++ 10 ∷ []) lines (end_line ∷ [])),
      length-append (text_of_lines lines) (text_of_lines (end_line ∷ [])),
      ap length (flat_map-map (λ (line : List ℕ). line ++ 10 ∷ []) node_line nodes),
    )

-- at most 1,600,000 nodes are within a budget, and 4,200,000 pairs; so their lines have at most 18 bytes and 22 bytes for each
within_budget : (budget rows nodes bytes : ℕ) → 5 ≤ rows → rows ≤ MAX_ROWS → budget * rows ≤ MAX_WORK → nodes ≤ budget →
    2 * bytes ≤ nodes * (36 + 22 * rows) + 22 * rows → bytes ≤ 121200000
within_budget budget rows nodes bytes some few work within short =
    omega (arith, some, few, work, within, short, mul-le-mul_right rows within, mul-le-mul_left budget some)

-- the text of a tree of first splits within the budget, whose leaves are lawful, is short enough
pub fits : (net : Net) (budget : ℕ) (bound : ℤ) (tree : Tree) → IsValid net → length (program_of net).rows ≤ MAX_ROWS →
    budget * length (program_of net).rows ≤ MAX_WORK → length (nodes_of tree) ≤ budget → IsWhole bound → All IsSpelled (nodes_of tree) →
    IsGood (IsLawfulLeaf net) (root_of net) tree → AreFirstSplits net (root_of net) tree →
    length (certificate_text bound (nodes_of tree)) ≤ MAX_CERTIFICATE_BYTES
fits net budget bound tree valid few work within whole spelled good splits =
    omega (
      arith,
      text_long bound (nodes_of tree),
      bound_short bound whole,
      within_budget budget (length (program_of net).rows) (length (nodes_of tree)) (length (lines_of_nodes (nodes_of tree)))
          (five_rows net valid) few work within (nodes_short net (root_of net) tree few spelled good splits),
    )
