-- A text that is read to its end is that of a tree, and the text of a tree is read to its end.
use Rattle.std.proofs.Common.{◌≡◌, ℕ, zero, suc, ◌+◌, Bool, true, false, List, [], ◌∷◌, ◌++◌, length, map, Option, Some, None, if◌then◌else◌, refl, sym, ap, subst, ◌∙◌, arith}
use Rattle.std.specs.Prelude.{All, ℤ, flat_map}
use Rattle.std.specs.Str.{bytes_eq}
use Rattle.std.proofs.lemmas.List.{append-nil, append_assoc, length-append, map-append}
use Rattle.std.proofs.lemmas.List.Elements.{All-cons, All-head, All-nil, All-tail}
use Rattle.std.proofs.lemmas.Slice.Eq.{bytes_eq-Decides}
use Rattle.texts.specs.Lines.{behind_lines, lines_of}
use Rattle.certificate_model.specs.Nodes.{LeafNode, Node, SplitNode, nodes_of}
use Rattle.certificate_model.specs.Text.{IsSpelled, IsWhole, Reads, bound_in, bound_line, certificate_lines, certificate_text, end_line, head_line, node_in, node_line}
use Rattle.certificate_model.specs.Tree.{AtLeaf, Split, Tree}
use Rattle.certificate_model.proofs.TextLaws.{behind_lines-certificate, bound_in-line, bound_spells_line, certificate_text-read, lines_of-certificate, node_in-line, node_spells_line}
use Rattle.cert_format.specs.Fronts.{Part, awaited_behind, ending_behind, front_behind_bound, front_behind_head, front_of, front_of_lines, node_before, part_of, whole_front, with_bound, with_node, without_bound}
use Rattle.cert_format.specs.inner.Parts.{part_as, part_behind}
use Rattle.cert_format.specs.declared.reading.Ending.TheVariants.{Whole, BadForm}

same_text : (a b : List ℕ) → bytes_eq a b ≡ true → a ≡ b
same_text a b is = (bytes_eq-Decides a b).0 is

-- ---- lines that are read to their end are those of trees

-- so many trees have these nodes
record AreTrees (count : ℕ) (nodes : List Node) : Type 0 where
  trees : List Tree
  many : length trees ≡ count
  are : nodes ≡ flat_map nodes_of trees

-- the lines are those of the nodes of so many trees, and of the end
record AreLines (count : ℕ) (nodes : List Node) (lines : List (List ℕ)) (last : List ℕ) : Type 0 where
  trees : AreTrees count nodes
  theirs : lines ≡ map node_line nodes ++ end_line ∷ []
  nothing : last ≡ []
  spelled : All IsSpelled nodes

-- a node before trees is a leaf before them, or a split of the first two
trees_grow : (node : Node) (others : ℕ) (nodes : List Node) (trees : List Tree) → length trees ≡ awaited_behind node others → nodes ≡ flat_map nodes_of trees → AreTrees (suc others) (node ∷ nodes)
trees_grow (LeafNode leaf) others nodes trees many are = record { trees = AtLeaf leaf ∷ trees; many = omega arith; are = ap (λ nodes. LeafNode leaf ∷ nodes) are }
trees_grow (SplitNode column at) others nodes [] many are = absurd (omega arith)
trees_grow (SplitNode column at) others nodes (left ∷ []) many are = absurd (omega arith)
trees_grow (SplitNode column at) others nodes (left ∷ right ∷ trees) many are = record {
  trees = Split column at left right ∷ trees;
  many = omega arith;
  are = ap (λ nodes. SplitNode column at ∷ nodes) (are ∙ sym (append_assoc (nodes_of left) (nodes_of right) (flat_map nodes_of trees)));
}

-- one line alone ends a tree
last_line : (number : ℕ) (line : List ℕ) (lines : List (List ℕ)) (last : List ℕ) (is : Bool) → bytes_eq line end_line ≡ is → (if is then ending_behind (number + 1) lines last else BadForm number) ≡ Whole →
    (line ∷ lines ≡ end_line ∷ []) × (last ≡ [])
last_line number line lines last false given whole = absurd (cc)
last_line number line [] [] true given whole = (ap (λ line. line ∷ []) (same_text line end_line given), refl)
last_line number line [] (byte ∷ bytes) true given whole = absurd (cc)
last_line number line (next ∷ lines) last true given whole = absurd (cc)

-- a line of a node before those of trees
node_line_before : (number others : ℕ) (line : List ℕ) (lines : List (List ℕ)) (last : List ℕ) (named : Option Node) (nodes : List Node) → node_in line ≡ named →
    ((awaited : ℕ) (nodes : List Node) → part_of (number + 1) awaited lines last ≡ part_as nodes Whole → AreLines awaited nodes lines last) →
    node_before number named others (λ awaited. part_of (number + 1) awaited lines last) ≡ part_as nodes Whole → AreLines (suc others) nodes (line ∷ lines) last
node_line_before number others line lines last None nodes is behind whole = absurd (let broken = ap (λ (part : Part). part.ending) whole in cc)
node_line_before number others line lines last (Some node) nodes is behind whole =
    let part : Part = part_of (number + 1) (awaited_behind node others) lines last in
    let ended : part.ending ≡ Whole = ap (λ (part : Part). part.ending) whole in
    let more : AreLines (awaited_behind node others) part.nodes lines last = behind (awaited_behind node others) part.nodes (ap (part_as part.nodes) ended) in
    let spells = node_spells_line line node is in
    let here : AreLines (suc others) (node ∷ part.nodes) (line ∷ lines) last = record {
      trees = trees_grow node others part.nodes more.trees.trees more.trees.many more.trees.are;
      theirs = ap (λ line. line ∷ lines) spells.0 ∙ ap (λ lines. node_line node ∷ lines) more.theirs;
      nothing = more.nothing;
      spelled = All-cons IsSpelled node part.nodes spells.1 more.spelled;
    } in
    subst (λ nodes. AreLines (suc others) nodes (line ∷ lines) last) (ap (λ (part : Part). part.nodes) whole) here

lines_are : (lines : List (List ℕ)) (number awaited : ℕ) (last : List ℕ) (nodes : List Node) → part_of number awaited lines last ≡ part_as nodes Whole → AreLines awaited nodes lines last
lines_are [] number zero last nodes whole = absurd (let broken = ap (λ (part : Part). part.ending) whole in cc)
lines_are [] number (suc others) last nodes whole = absurd (let broken = ap (λ (part : Part). part.ending) whole in cc)
lines_are (line ∷ lines) number zero last nodes whole =
    let ended = last_line number line lines last (bytes_eq line end_line) refl (ap (λ (part : Part). part.ending) whole) in
    let here : AreLines 0 [] (line ∷ lines) last = record { trees = record { trees = []; many = refl; are = refl }; theirs = ended.0; nothing = ended.1; spelled = All-nil IsSpelled } in
    subst (λ nodes. AreLines 0 nodes (line ∷ lines) last) (ap (λ (part : Part). part.nodes) whole) here
lines_are (line ∷ lines) number (suc others) last nodes whole =
    node_line_before number others line lines last (node_in line) nodes refl (λ awaited nodes behind. lines_are lines (number + 1) awaited last nodes behind) whole

-- ---- a text that is read to its end is that of a tree

-- the lines are those of a bound and a tree
record AreTreeLines (b : ℤ) (nodes : List Node) (lines : List (List ℕ)) (last : List ℕ) : Type 0 where
  tree : Tree
  are : nodes ≡ nodes_of tree
  theirs : lines ≡ certificate_lines b nodes
  nothing : last ≡ []
  bound : IsWhole b
  spelled : All IsSpelled nodes

one_tree : (nodes : List Node) (trees : List Tree) → length trees ≡ 1 → nodes ≡ flat_map nodes_of trees → (tree : Tree) × (nodes ≡ nodes_of tree)
one_tree nodes [] many are = absurd (omega arith)
one_tree nodes (tree ∷ []) many are = (tree, are ∙ append-nil (nodes_of tree))
one_tree nodes (tree ∷ next ∷ more) many are = absurd (omega arith)

behind_bound_are : (head line : List ℕ) (lines : List (List ℕ)) (last : List ℕ) (named : Option ℤ) (b : ℤ) (nodes : List Node) → head ≡ head_line → bound_in line ≡ named →
    front_behind_bound named lines last ≡ whole_front b nodes → AreTreeLines b nodes (head ∷ line ∷ lines) last
behind_bound_are head line lines last None b nodes first is whole = absurd (let broken = ap (λ front. front.ending) whole in cc)
behind_bound_are head line lines last (Some bound) b nodes first is whole =
    let part : Part = part_of 3 1 lines last in
    let same : bound ≡ b = ap (λ front. front.bound) whole in
    let part_is : part ≡ part_as nodes Whole = ap (λ front. part_as front.nodes front.ending) whole in
    let more : AreLines 1 nodes lines last = lines_are lines 3 1 last nodes part_is in
    let tree = one_tree nodes more.trees.trees more.trees.many more.trees.are in
    let spells = bound_spells_line line b (is ∙ ap (λ (b : ℤ). Some b) same) in
    record {
      tree = tree.0;
      are = tree.1;
      theirs = ap (λ head. head ∷ line ∷ lines) first ∙ ap (λ line. head_line ∷ line ∷ lines) spells.0 ∙ ap (λ lines. head_line ∷ bound_line b ∷ lines) more.theirs;
      nothing = more.nothing;
      bound = spells.1;
      spelled = more.spelled;
    }

behind_head_are : (head : List ℕ) (lines : List (List ℕ)) (last : List ℕ) (is : Bool) (b : ℤ) (nodes : List Node) → bytes_eq head head_line ≡ is →
    (if is then front_behind_head lines last else without_bound 1) ≡ whole_front b nodes → AreTreeLines b nodes (head ∷ lines) last
behind_head_are head lines last false b nodes given whole = absurd (let broken = ap (λ front. front.ending) whole in cc)
behind_head_are head [] last true b nodes given whole = absurd (let broken = ap (λ front. front.ending) whole in cc)
behind_head_are head (line ∷ lines) last true b nodes given whole =
    behind_bound_are head line lines last (bound_in line) b nodes (same_text head head_line given) refl whole

tree_lines_are : (lines : List (List ℕ)) (last : List ℕ) (b : ℤ) (nodes : List Node) → front_of_lines lines last ≡ whole_front b nodes → AreTreeLines b nodes lines last
tree_lines_are [] last b nodes whole = absurd (let broken = ap (λ front. front.ending) whole in cc)
tree_lines_are (head ∷ lines) last b nodes whole = behind_head_are head lines last (bytes_eq head head_line) b nodes refl whole

pub whole_is_tree : (text : List ℕ) (b : ℤ) (nodes : List Node) → front_of text ≡ whole_front b nodes → (tree : Tree) × (Reads text b tree × nodes ≡ nodes_of tree)
unfolding front_of
whole_is_tree text b nodes whole =
    let are : AreTreeLines b nodes (lines_of text) (behind_lines text) = tree_lines_are (lines_of text) (behind_lines text) b nodes whole in (
      are.tree,
      (
        record {
          written = certificate_text-read text b nodes are.theirs are.nothing ∙ ap (certificate_text b) are.are;
          bound = are.bound;
          nodes = subst (All IsSpelled) are.are are.spelled;
        },
        are.are,
      ),
    )

-- ---- the text of a tree is read to its end

all_before : (P : Node → Type 0) (nodes more : List Node) → All P (nodes ++ more) → All P nodes
all_before P [] more all = All-nil P
all_before P (node ∷ nodes) more all = All-cons P node nodes (All-head P node (nodes ++ more) all) (all_before P nodes more (All-tail P node (nodes ++ more) all))

all_behind : (P : Node → Type 0) (nodes more : List Node) → All P (nodes ++ more) → All P more
all_behind P [] more all = all
all_behind P (node ∷ nodes) more all = all_behind P nodes more (All-tail P node (nodes ++ more) all)

-- the lines of a tree are read as its nodes
tree_read : (tree : Tree) (number others : ℕ) (lines : List (List ℕ)) (last : List ℕ) → All IsSpelled (nodes_of tree) →
    part_of number (suc others) (map node_line (nodes_of tree) ++ lines) last ≡ part_behind (nodes_of tree) (part_of (number + length (nodes_of tree)) others lines last)
tree_read (AtLeaf leaf) number others lines last spelled =
    ap (λ (named : Option Node). node_before number named others (λ awaited. part_of (number + 1) awaited lines last)) (node_in-line (LeafNode leaf) (All-head IsSpelled (LeafNode leaf) [] spelled))
tree_read (Split column at left right) number others lines last spelled =
    let top : Node = SplitNode column at in
    let lefts : List Node = nodes_of left in
    let rights : List Node = nodes_of right in
    let below : All IsSpelled (lefts ++ rights) = All-tail IsSpelled top (lefts ++ rights) spelled in
    let behind : Part = part_of (number + 1 + length lefts + length rights) others lines last in
    let count : number + 1 + length lefts + length rights ≡ number + length (top ∷ (lefts ++ rights)) = (let long = length-append lefts rights in omega arith) in
    ap (λ (named : Option Node). node_before number named others (λ awaited. part_of (number + 1) awaited (map node_line (lefts ++ rights) ++ lines) last)) (node_in-line top (All-head IsSpelled top (lefts ++ rights) spelled))
    ∙ ap (λ lines. with_node top (part_of (number + 1) (suc (suc others)) lines last))
    (ap (λ first. first ++ lines) (map-append node_line lefts rights) ∙ append_assoc (map node_line lefts) (map node_line rights) lines)
    ∙ ap (with_node top) (tree_read left (number + 1) (suc others) (map node_line rights ++ lines) last (all_before IsSpelled lefts rights below) ∙ ap (part_behind lefts) (tree_read right (number + 1 + length lefts) others lines last (all_behind IsSpelled lefts rights below)))
    ∙ ap (λ nodes. part_as (top ∷ nodes) behind.ending) (sym (append_assoc lefts rights behind.nodes))
    ∙ ap (λ number. part_behind (top ∷ (lefts ++ rights)) (part_of number others lines last)) count

pub tree_is_whole : (text : List ℕ) (b : ℤ) (nodes : List Node) (tree : Tree) → Reads text b tree → nodes ≡ nodes_of tree → front_of text ≡ whole_front b nodes
unfolding front_of
tree_is_whole text b nodes tree reads are =
    let all : List Node = nodes_of tree in
    let lines : lines_of text ≡ certificate_lines b all = ap lines_of reads.written ∙ lines_of-certificate b all reads.bound reads.nodes in
    let last : behind_lines text ≡ [] = ap behind_lines reads.written ∙ behind_lines-certificate b all reads.bound reads.nodes in
    ap (λ lines. front_of_lines lines (behind_lines text)) lines
    ∙ ap (front_of_lines (certificate_lines b all)) last
    ∙ ap (λ (named : Option ℤ). front_behind_bound named (map node_line all ++ end_line ∷ []) []) (bound_in-line b reads.bound)
    ∙ ap (with_bound b) (tree_read tree 3 0 (end_line ∷ []) [] reads.nodes)
    ∙ ap (whole_front b) (append-nil all ∙ sym are)
