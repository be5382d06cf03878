-- The first pairs of a leaf decide what becomes of it, where one more is kept than there are rows: their rows have to rise.
use Rattle.std.proofs.Common.{◌≡◌, inl, inr, refl, sym, ap, ◌∙◌, subst, arith, true, false, ℕ, zero, suc, ◌+◌, ◌<◌, ◌≤◌, List, [], ◌∷◌, ◌++◌, length, take, Option, Some, None}
use Rattle.std.specs.Prelude.{ℤ, pos, nat_lt, int_lt, unsigned_abs, not, ◌&&◌, option_map}
use Rattle.std.proofs.lemmas.Bool.{ltb-false, ltb-true, not-false}
use Rattle.std.proofs.lemmas.List.{append_assoc, length-take, take_all}
use Rattle.std.proofs.lemmas.List.Elements.{All-take}
use Rattle.listed.proofs.JoinLaws.{append_none}
use Rattle.refusals.specs.Faults.{where_so}
use Rattle.refusals.proofs.FirstFaults.{where_none}
use Rattle.ct_base.specs.declared.net.Net.{Net}
use Rattle.sparse_program.specs.Box.{Ranges}
use Rattle.sparse_program.specs.Program.{row_of}
use Rattle.sparse_program.specs.declared.row.Row.{Row}
use Rattle.program_model.specs.Points.{program_of}
use Rattle.certificate_model.specs.Leaves.{IsGoodEmpty, IsGoodPriced}
use Rattle.certificate_model.specs.Nodes.{LeafNode, Node, SplitNode}
use Rattle.certificate_model.specs.Reasons.{IsFirst, ceiling, pair_reasons}
use Rattle.certificate_model.specs.Text.{IsSpelled, IsSpelledPair, node_in}
use Rattle.certificate_model.specs.Tree as tree
use Rattle.certificate_model.specs.Value.{most_price, value_of_pairs}
use Rattle.certificate_model.specs.Verdicts.{AfterNode, Standing}
use Rattle.certificate_model.specs.declared.verdict.Why.{Why}
use Rattle.certificate_model.specs.declared.verdict.Why.TheVariants.{Row as NoRow, Order, Price, Sign, Weak, NotEmpty}
use Rattle.certificate_model.proofs.ReasonLaws.{lawful_has_none}
use Rattle.certificate_model.proofs.TextLaws.{node_spells_line}
use Rattle.cert_format.specs.Marks.{marked, with_first}
use Rattle.cert_format.specs.declared.line.Mark.{Mark}
use Rattle.cert_format.specs.declared.line.Mark.TheVariants.{Split, Priced, Empty, Fixed}
use Rattle.cert_check.specs.inner.Known.{node_with}
use Rattle.cert_check.specs.inner.Firsts.{reasons_of_pair}

-- ---- pairs that give no reason are few

-- a pair has a row, at a number or behind it, and those behind it give no reason
record IsPassed (rows : List Row) (next : ℕ) (pair : ℕ × ℤ) (pairs : List (ℕ × ℤ)) : Type 0 where
  there : pair.0 < length rows
  behind : next ≤ pair.0
  rest : pair_reasons rows (pair.0 + 1) pairs ≡ []

-- so it is where a pair and those behind it give no reason
passed : (rows : List Row) (next : ℕ) (pair : ℕ × ℤ) (pairs : List (ℕ × ℤ)) → pair_reasons rows next (pair ∷ pairs) ≡ [] → IsPassed rows next pair pairs
passed rows next pair pairs none =
    let row : List Why = where_so (not (nat_lt pair.0 (length rows))) NoRow in
    let order : List Why = where_so (nat_lt pair.0 next) Order in
    let price : List Why = where_so (nat_lt most_price (unsigned_abs pair.1)) Price in
    let sign : List Why = where_so (not (row_of rows pair.0).equal && int_lt pair.1 (pos 0)) Sign in
    let whole = append_none (row ++ order ++ price ++ sign) (pair_reasons rows (pair.0 + 1) pairs) none in
    let three = append_none (row ++ order ++ price) sign whole.0 in
    let two = append_none (row ++ order) price three.0 in
    let one = append_none row order two.0 in
    record {
      there = ltb-true pair.0 (length rows) (not-false (nat_lt pair.0 (length rows)) (where_none (not (nat_lt pair.0 (length rows))) NoRow one.0));
      behind = ltb-false pair.0 next (where_none (nat_lt pair.0 next) Order one.1);
      rest = whole.1;
    }

-- pairs that give no reason, all at a row or behind it, are no more than the rows from there
few_behind : (rows : List Row) (next : ℕ) (pairs : List (ℕ × ℤ)) → next ≤ length rows → pair_reasons rows next pairs ≡ [] → next + length pairs ≤ length rows
few_behind rows next [] within none = omega (arith, within)
few_behind rows next (pair ∷ pairs) within none =
    let here : IsPassed rows next pair pairs = passed rows next pair pairs none in
    let there = here.there in
    let behind = here.behind in
    let more = few_behind rows (pair.0 + 1) pairs (omega (arith, there)) here.rest in
    omega (arith, behind, more)

-- where the first pairs give no reason, they are all
all_where_no_reason : (rows : List Row) (pairs : List (ℕ × ℤ)) → pair_reasons rows 0 (take (length rows + 1) pairs) ≡ [] → take (length rows + 1) pairs ≡ pairs
all_where_no_reason rows pairs none =
    let few = few_behind rows 0 (take (length rows + 1) pairs) (omega arith) none in
    let count = length-take (length rows + 1) pairs in
    take_all (length rows + 1) pairs (omega (arith, few, count))

-- and so it is where all of them give none
all_where_none : (rows : List Row) (pairs : List (ℕ × ℤ)) → pair_reasons rows 0 pairs ≡ [] → take (length rows + 1) pairs ≡ pairs
all_where_none rows pairs none =
    let few = few_behind rows 0 pairs (omega arith) none in
    take_all (length rows + 1) pairs (omega (arith, few))

-- ---- the first reason

-- some reasons are the first of others
record Begins (front whole : List Why) : Type 0 where
  rest : List Why
  is : whole ≡ front ++ rest

-- the reasons of the first pairs are the first ones of all pairs
first_reasons : (most : ℕ) (rows : List Row) (next : ℕ) (pairs : List (ℕ × ℤ)) → Begins (pair_reasons rows next (take most pairs)) (pair_reasons rows next pairs)
first_reasons zero rows next pairs = record { rest = pair_reasons rows next pairs; is = refl }
first_reasons (suc most) rows next [] = record { rest = []; is = refl }
first_reasons (suc most) rows next (pair ∷ pairs) =
    let more : Begins (pair_reasons rows (pair.0 + 1) (take most pairs)) (pair_reasons rows (pair.0 + 1) pairs) = first_reasons most rows (pair.0 + 1) pairs in
    record {
      rest = more.rest;
      is =
          ap (λ (reasons : List Why). reasons_of_pair rows next pair ++ reasons) more.is
          ∙ sym (append_assoc (reasons_of_pair rows next pair) (pair_reasons rows (pair.0 + 1) (take most pairs)) more.rest);
    }

-- the first reason of the first pairs, or of what comes behind them, is that of all pairs
still_first : (rows : List Row) (pairs : List (ℕ × ℤ)) (last : List (ℕ × ℤ) → List Why) (why : Why) (reasons : List Why) →
    pair_reasons rows 0 (take (length rows + 1) pairs) ≡ reasons →
    IsFirst why (pair_reasons rows 0 (take (length rows + 1) pairs) ++ last (take (length rows + 1) pairs)) → IsFirst why (pair_reasons rows 0 pairs ++ last pairs)
still_first rows pairs last why [] none first =
    subst (λ (kept : List (ℕ × ℤ)). IsFirst why (pair_reasons rows 0 kept ++ last kept)) (all_where_no_reason rows pairs none) first
still_first rows pairs last why (reason ∷ more) are first =
    let begins : Begins (pair_reasons rows 0 (take (length rows + 1) pairs)) (pair_reasons rows 0 pairs) = first_reasons (length rows + 1) rows 0 pairs in
    let is : why ≡ reason = subst (λ (reasons : List Why). IsFirst why (reasons ++ last (take (length rows + 1) pairs))) are first in
    subst (λ (reasons : List Why). IsFirst why (reasons ++ last pairs)) (sym (begins.is ∙ ap (λ (reasons : List Why). reasons ++ begins.rest) are)) is

-- and the other way round
first_still : (rows : List Row) (pairs : List (ℕ × ℤ)) (last : List (ℕ × ℤ) → List Why) (why : Why) (reasons : List Why) →
    pair_reasons rows 0 (take (length rows + 1) pairs) ≡ reasons →
    IsFirst why (pair_reasons rows 0 pairs ++ last pairs) → IsFirst why (pair_reasons rows 0 (take (length rows + 1) pairs) ++ last (take (length rows + 1) pairs))
first_still rows pairs last why [] none first =
    subst (λ (kept : List (ℕ × ℤ)). IsFirst why (pair_reasons rows 0 kept ++ last kept)) (sym (all_where_no_reason rows pairs none)) first
first_still rows pairs last why (reason ∷ more) are first =
    let begins : Begins (pair_reasons rows 0 (take (length rows + 1) pairs)) (pair_reasons rows 0 pairs) = first_reasons (length rows + 1) rows 0 pairs in
    let is : why ≡ reason = subst (λ (reasons : List Why). IsFirst why (reasons ++ last pairs)) (begins.is ∙ ap (λ (reasons : List Why). reasons ++ begins.rest) are) first in
    subst (λ (reasons : List Why). IsFirst why (reasons ++ last (take (length rows + 1) pairs))) (sym are) is

-- ---- nodes of which the first pairs are kept

-- what comes behind a node with the first of its pairs comes behind the node
after_first : (net : Net) (bound : ℤ) (box : Ranges) (boxes : List Ranges) (number : ℕ) (node : Node) (after : Standing) →
    AfterNode net bound box boxes number (Some (with_first (length (program_of net).rows + 1) node)) after → AfterNode net bound box boxes number (Some node) after
after_first net bound box boxes number (SplitNode column at) after is = is
after_first net bound box boxes number (LeafNode tree.Fixed) after is = is
after_first net bound box boxes number (LeafNode (tree.Priced pairs)) after (inl (good, is)) =
    let most : ℕ = length (program_of net).rows + 1 in
    let all : take most pairs ≡ pairs = all_where_no_reason (program_of net).rows pairs (lawful_has_none (program_of net).rows (take most pairs) good.lawful) in
    inl (subst (IsGoodPriced net bound box) all good, is)
after_first net bound box boxes number (LeafNode (tree.Priced pairs)) after (inr (why, (first, is))) =
    let last : List (ℕ × ℤ) → List Why = λ (pairs : List (ℕ × ℤ)).
    where_so (int_lt (ceiling (value_of_pairs (program_of net) true box pairs)) bound) (Weak (ceiling (value_of_pairs (program_of net) true box pairs))) in
    inr (why, (still_first (program_of net).rows pairs last why _ refl first, is))
after_first net bound box boxes number (LeafNode (tree.Empty pairs)) after (inl (good, is)) =
    let most : ℕ = length (program_of net).rows + 1 in
    let all : take most pairs ≡ pairs = all_where_no_reason (program_of net).rows pairs (lawful_has_none (program_of net).rows (take most pairs) good.lawful) in
    inl (subst (IsGoodEmpty net box) all good, is)
after_first net bound box boxes number (LeafNode (tree.Empty pairs)) after (inr (why, (first, is))) =
    let last : List (ℕ × ℤ) → List Why = λ (pairs : List (ℕ × ℤ)).
    where_so (int_lt (value_of_pairs (program_of net) false box pairs) (pos 1)) (NotEmpty (value_of_pairs (program_of net) false box pairs)) in
    inr (why, (still_first (program_of net).rows pairs last why _ refl first, is))

-- and what comes behind the node comes behind it with the first of its pairs
first_after : (net : Net) (bound : ℤ) (box : Ranges) (boxes : List Ranges) (number : ℕ) (node : Node) (after : Standing) →
    AfterNode net bound box boxes number (Some node) after → AfterNode net bound box boxes number (Some (with_first (length (program_of net).rows + 1) node)) after
first_after net bound box boxes number (SplitNode column at) after is = is
first_after net bound box boxes number (LeafNode tree.Fixed) after is = is
first_after net bound box boxes number (LeafNode (tree.Priced pairs)) after (inl (good, is)) =
    let all : take (length (program_of net).rows + 1) pairs ≡ pairs = all_where_none (program_of net).rows pairs (lawful_has_none (program_of net).rows pairs good.lawful) in
    inl (subst (IsGoodPriced net bound box) (sym all) good, is)
first_after net bound box boxes number (LeafNode (tree.Priced pairs)) after (inr (why, (first, is))) =
    let last : List (ℕ × ℤ) → List Why = λ (pairs : List (ℕ × ℤ)).
    where_so (int_lt (ceiling (value_of_pairs (program_of net) true box pairs)) bound) (Weak (ceiling (value_of_pairs (program_of net) true box pairs))) in
    inr (why, (first_still (program_of net).rows pairs last why _ refl first, is))
first_after net bound box boxes number (LeafNode (tree.Empty pairs)) after (inl (good, is)) =
    let all : take (length (program_of net).rows + 1) pairs ≡ pairs = all_where_none (program_of net).rows pairs (lawful_has_none (program_of net).rows pairs good.lawful) in
    inl (subst (IsGoodEmpty net box) (sym all) good, is)
first_after net bound box boxes number (LeafNode (tree.Empty pairs)) after (inr (why, (first, is))) =
    let last : List (ℕ × ℤ) → List Why = λ (pairs : List (ℕ × ℤ)).
    where_so (int_lt (value_of_pairs (program_of net) false box pairs) (pos 1)) (NotEmpty (value_of_pairs (program_of net) false box pairs)) in
    inr (why, (first_still (program_of net).rows pairs last why _ refl first, is))

-- what comes behind a line comes behind each that names the same node as far as its first pairs
pub after_same_node : (net : Net) (bound : ℤ) (box : Ranges) (boxes : List Ranges) (number most : ℕ) (one other : Option Node) (after : Standing) →
    most ≡ length (program_of net).rows + 1 → option_map (with_first most) one ≡ option_map (with_first most) other →
    AfterNode net bound box boxes number one after → AfterNode net bound box boxes number other after
after_same_node net bound box boxes number most None None after rows same is = is
after_same_node net bound box boxes number most None (Some other) after rows same is = absurd (cc)
after_same_node net bound box boxes number most (Some one) None after rows same is = absurd (cc)
after_same_node net bound box boxes number most (Some one) (Some other) after rows same is =
    let first : with_first (length (program_of net).rows + 1) one ≡ with_first (length (program_of net).rows + 1) other =
    subst (λ (most : ℕ). with_first most one ≡ with_first most other) rows cc in
    after_first net bound box boxes number other after
    (subst (λ (kept : Node). AfterNode net bound box boxes number (Some kept) after) first (first_after net bound box boxes number one after is))

-- a mark and its pairs are a node
marked_is : (mark : Mark) (pairs : List (ℕ × ℤ)) → marked (Some mark) pairs ≡ Some (node_with mark pairs)
marked_is (Split column at) pairs = refl
marked_is Priced pairs = refl
marked_is Empty pairs = refl
marked_is Fixed pairs = refl

-- the node that a line names, of which the first pairs are kept
record IsNode (line : List ℕ) (most : ℕ) (kept : Node) : Type 0 where
  node : Node
  named : node_in line ≡ Some node
  first : with_first most node ≡ kept

node_by : (line : List ℕ) (most : ℕ) (named : Option Node) (kept : Node) → node_in line ≡ named → option_map (with_first most) named ≡ Some kept → IsNode line most kept
node_by line most None kept named is = absurd (cc)
node_by line most (Some node) kept named is = record { node = node; named = named; first = cc }

node_of_mark : (line : List ℕ) (most : ℕ) (mark : Mark) (pairs : List (ℕ × ℤ)) → option_map (with_first most) (node_in line) ≡ marked (Some mark) pairs → IsNode line most (node_with mark pairs)
node_of_mark line most mark pairs is = node_by line most (node_in line) (node_with mark pairs) refl (is ∙ marked_is mark pairs)

-- a node has a spelling with the first of its pairs too
spelled_first : (most : ℕ) (node : Node) → IsSpelled node → IsSpelled (with_first most node)
spelled_first most (SplitNode column at) spelled = spelled
spelled_first most (LeafNode (tree.Priced pairs)) spelled = All-take IsSpelledPair most pairs spelled
spelled_first most (LeafNode (tree.Empty pairs)) spelled = All-take IsSpelledPair most pairs spelled
spelled_first most (LeafNode tree.Fixed) spelled = spelled

-- the numbers that are kept of a node that a line names have a spelling
pub read_is_spelled : (line : List ℕ) (most : ℕ) (mark : Mark) (pairs : List (ℕ × ℤ)) → option_map (with_first most) (node_in line) ≡ marked (Some mark) pairs →
    IsSpelled (node_with mark pairs)
read_is_spelled line most mark pairs is =
    let of : IsNode line most (node_with mark pairs) = node_of_mark line most mark pairs is in
    subst IsSpelled of.first (spelled_first most of.node (node_spells_line line of.node of.named).1)

-- what comes behind the node that is kept of a line comes behind the line
pub after_read : (net : Net) (bound : ℤ) (box : Ranges) (boxes : List Ranges) (number : ℕ) (line : List ℕ) (most : ℕ) (mark : Mark) (pairs : List (ℕ × ℤ)) (after : Standing) →
    most ≡ length (program_of net).rows + 1 → option_map (with_first most) (node_in line) ≡ marked (Some mark) pairs →
    AfterNode net bound box boxes number (Some (node_with mark pairs)) after → AfterNode net bound box boxes number (node_in line) after
after_read net bound box boxes number line most mark pairs after rows is judged =
    let of : IsNode line most (node_with mark pairs) = node_of_mark line most mark pairs is in
    let kept : node_with mark pairs ≡ with_first (length (program_of net).rows + 1) of.node = sym of.first ∙ ap (λ (most : ℕ). with_first most of.node) rows in
    subst (λ (named : Option Node). AfterNode net bound box boxes number named after) (sym of.named)
    (after_first net bound box boxes number of.node after (subst (λ (kept : Node). AfterNode net bound box boxes number (Some kept) after) kept judged))

-- a line of which nothing is read names no node
pub none_read : (most : ℕ) (named : Option Node) → option_map (with_first most) named ≡ None → named ≡ None
none_read most None none = refl
none_read most (Some node) none = absurd (cc)
