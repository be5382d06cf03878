-- Verdicts: a text is accepted exactly where it is that of a tree which certifies the bound, and it has one verdict.
use Rattle.std.proofs.Common.{◌≡◌, inl, inr, refl, ℕ, ◌+◌, Bool, true, false, List, [], ◌∷◌, ◌++◌, length, map, Option, Some, None, if◌then◌else◌, ◌∙◌, sym, ap, subst, append_assoc}
use Rattle.std.specs.Prelude.{ℤ, ◌≤ℤ◌, All}
use Rattle.std.specs.Str.{bytes_eq}
use Rattle.std.proofs.lemmas.List.{append-nil, map-append}
use Rattle.std.proofs.lemmas.List.Elements.{All-cons, All-head, All-nil, All-tail}
use Rattle.std.proofs.lemmas.Slice.Eq.{bytes_eq-Decides}
use Rattle.texts.specs.Lines.{behind_lines, lines_of}
use Rattle.ct_base.specs.Validity.{IsValid}
use Rattle.ct_base.specs.declared.net.Net.{Net}
use Rattle.ct_base.specs.declared.plan.Plan.{Plan}
use Rattle.sparse_program.specs.Box.{Ranges}
use Rattle.traffic_model.specs.Runs.{IsAdmissiblePlan}
use Rattle.certificate_model.specs.Certificates.{Certifies, root_of}
use Rattle.certificate_model.specs.Leaves.{IsGoodLeaf, plan_delay}
use Rattle.certificate_model.specs.Nodes.{LeafNode, Node, SplitNode, boxes_below, nodes_of}
use Rattle.certificate_model.specs.Reasons.{IsGoodNode}
use Rattle.certificate_model.specs.Text.{IsSpelled, IsWhole, bound_in, bound_line, certificate_lines, end_line, head_line, node_in, node_line}
use Rattle.certificate_model.specs.Tree.{AtLeaf, IsGood, Split, Tree, left_of, right_of}
use Rattle.certificate_model.specs.Verdicts.{Accepts, After, AfterNode, AtBound, AtEnd, AtHead, AtNodes, Broken, IsVerdict, Reaches, Standing, after_bound, verdict_at}
use Rattle.certificate_model.specs.declared.verdict.Verdict.{Verdict}
use Rattle.certificate_model.specs.declared.verdict.Verdict.TheVariants.{Accepted}
use Rattle.certificate_model.specs.declared.verdict.Why.{Why}
use Rattle.certificate_model.specs.declared.verdict.Why.TheVariants.{Form, Tail}
use Rattle.certificate_model.proofs.NodeLaws.{good_has_no_reason, one_reason}
use Rattle.certificate_model.proofs.SafeLaws.{bounds_are_safe}
use Rattle.certificate_model.proofs.TextLaws.{behind_lines-certificate, bound_in-line, bound_spells_line, certificate_text-read, lines_of-certificate, node_in-line, node_spells_line}

-- ---- an accepted text is that of a good tree

-- a certificate that broke stays broken
broken_stays : (net : Net) (n number : ℕ) (why : Why) (lines : List (List ℕ)) (last : Standing) → Reaches net n (Broken number why) lines last → last ≡ Broken number why
broken_stays net n number why [] last reached = reached
broken_stays net n number why (line ∷ lines) last reached =
    broken_stays net (n + 1) number why lines last (subst (λ (after : Standing). Reaches net (n + 1) after lines last) reached.1.0 reached.1.1)

-- so it does not end
never_ends : (net : Net) (n number : ℕ) (why : Why) (lines : List (List ℕ)) (b : ℤ) → Reaches net n (Broken number why) lines (AtEnd b) → ⊥
never_ends net n number why lines b reached = let broken : AtEnd b ≡ Broken number why = broken_stays net n number why lines (AtEnd b) reached in absurd (cc)

-- nothing stands behind the last line
last_is_last : (net : Net) (n : ℕ) (bound b : ℤ) (lines : List (List ℕ)) → Reaches net n (AtEnd bound) lines (AtEnd b) → (lines ≡ []) × (b ≡ bound)
last_is_last net n bound b [] reached = (refl, cc)
last_is_last net n bound b (line ∷ lines) reached =
    absurd (never_ends net (n + 1) n Tail lines b (subst (λ (after : Standing). Reaches net (n + 1) after lines (AtEnd b)) reached.1.0 reached.1.1))

-- nodes are those of one good tree for each of the boxes
abbrev Grow : Net → ℤ → List Ranges → List Node → Type 0
Grow net bound [] nodes = nodes ≡ []
Grow net bound (box ∷ boxes) nodes = (tree : Tree) × (rest : List Node) × (IsGood (IsGoodLeaf net bound) box tree × (nodes ≡ nodes_of tree ++ rest) × Grow net bound boxes rest)

-- a good node before those of the boxes below it
grown : (net : Net) (bound : ℤ) (box : Ranges) (boxes : List Ranges) (node : Node) (nodes : List Node) → IsGoodNode net bound box node → Grow net bound (boxes_below box node ++ boxes) nodes →
    Grow net bound (box ∷ boxes) (node ∷ nodes)
grown net bound box boxes (LeafNode leaf) nodes good grow = (AtLeaf leaf, nodes, (good, refl, grow))
grown net bound box boxes (SplitNode column at) nodes good (left, behind, (good_left, is_left, (right, rest, (good_right, is_right, grow)))) = (
  Split column at left right,
  rest,
  (
    (good, good_left, good_right),
    ap (λ nodes. SplitNode column at ∷ nodes) (is_left ∙ ap (λ nodes. nodes_of left ++ nodes) is_right ∙ sym (append_assoc (nodes_of left) (nodes_of right) rest)),
    grow,
  ),
)

-- lines are those of nodes, one good tree for each of the boxes, and of the end; and the bound is kept
record AreLines (net : Net) (bound : ℤ) (boxes : List Ranges) (lines : List (List ℕ)) (b : ℤ) : Type 0 where
  kept : b ≡ bound
  nodes : List Node
  grow : Grow net bound boxes nodes
  written : lines ≡ map node_line nodes ++ end_line ∷ []
  spelled : All IsSpelled nodes

-- the line where the last one has to be
end_stands : (net : Net) (n : ℕ) (bound b : ℤ) (line : List ℕ) (lines : List (List ℕ)) (is_end : Bool) → bytes_eq line end_line ≡ is_end →
    Reaches net (n + 1) (if is_end then AtEnd bound else Broken n Form) lines (AtEnd b) → AreLines net bound [] (line ∷ lines) b
end_stands net n bound b line lines false is reached = absurd (never_ends net (n + 1) n Form lines b reached)
end_stands net n bound b line lines true is reached =
    let none : (lines ≡ []) × (b ≡ bound) = last_is_last net (n + 1) bound b lines reached in
    let same : line ≡ end_line = (bytes_eq-Decides line end_line).0 is in
    record { kept = none.1; nodes = []; grow = refl; written = rw (same, none.0) refl; spelled = All-nil IsSpelled }

-- a line where a node has to be
node_stands : (net : Net) (n : ℕ) (bound b : ℤ) (box : Ranges) (boxes : List Ranges) (line : List ℕ) (lines : List (List ℕ)) (node : Option Node) (after : Standing) → node_in line ≡ node →
    AfterNode net bound box boxes n node after → Reaches net (n + 1) after lines (AtEnd b) →
    ((others : List Ranges) → Reaches net (n + 1) (AtNodes bound others) lines (AtEnd b) → AreLines net bound others lines b) → AreLines net bound (box ∷ boxes) (line ∷ lines) b
node_stands net n bound b box boxes line lines None after named is reached behind =
    absurd (never_ends net (n + 1) n Form lines b (subst (λ (after : Standing). Reaches net (n + 1) after lines (AtEnd b)) is reached))
node_stands net n bound b box boxes line lines (Some node) after named (inr (why, (reason, is))) reached behind =
    absurd (never_ends net (n + 1) n why lines b (subst (λ (after : Standing). Reaches net (n + 1) after lines (AtEnd b)) is reached))
node_stands net n bound b box boxes line lines (Some node) after named (inl (good, is)) reached behind =
    let rest : AreLines net bound (boxes_below box node ++ boxes) lines b =
    behind (boxes_below box node ++ boxes) (subst (λ (after : Standing). Reaches net (n + 1) after lines (AtEnd b)) is reached) in
    let spells : (line ≡ node_line node) × IsSpelled node = node_spells_line line node named in
    record {
      kept = rest.kept;
      nodes = node ∷ rest.nodes;
      grow = grown net bound box boxes node rest.nodes good rest.grow;
      written = ap (λ line. line ∷ lines) spells.0 ∙ ap (λ lines. node_line node ∷ lines) rest.written;
      spelled = All-cons IsSpelled node rest.nodes spells.1 rest.spelled;
    }

-- all lines behind the bound
nodes_stand : (net : Net) (n : ℕ) (bound b : ℤ) (boxes : List Ranges) (lines : List (List ℕ)) → Reaches net n (AtNodes bound boxes) lines (AtEnd b) → AreLines net bound boxes lines b
nodes_stand net n bound b boxes [] reached = absurd (cc)
nodes_stand net n bound b [] (line ∷ lines) reached =
    end_stands net n bound b line lines (bytes_eq line end_line) refl (subst (λ (after : Standing). Reaches net (n + 1) after lines (AtEnd b)) reached.1.0 reached.1.1)
nodes_stand net n bound b (box ∷ boxes) (line ∷ lines) reached =
    node_stands net n bound b box boxes line lines (node_in line) reached.0 refl reached.1.0 reached.1.1 (λ others there. nodes_stand net (n + 1) bound b others lines there)

-- lines are those of a tree that certifies the bound
record AreOfTree (net : Net) (bound : ℤ) (lines : List (List ℕ)) : Type 0 where
  tree : Tree
  written : lines ≡ certificate_lines bound (nodes_of tree)
  whole : IsWhole bound
  spelled : All IsSpelled (nodes_of tree)
  certifies : Certifies net bound tree

-- where a bound stands behind the first line
tree_of : (net : Net) (bound b : ℤ) (lines : List (List ℕ)) → IsWhole bound → AreLines net bound (root_of net ∷ []) lines b → AreOfTree net b (head_line ∷ bound_line bound ∷ lines)
tree_of net bound b lines whole are =
    let tree : Tree = are.grow.0 in
    let nodes : are.nodes ≡ nodes_of tree = are.grow.2.1 ∙ ap (λ rest. nodes_of tree ++ rest) are.grow.2.2 ∙ append-nil (nodes_of tree) in
    let own : AreOfTree net bound (head_line ∷ bound_line bound ∷ lines) = record {
      tree = tree;
      written = ap (λ lines. head_line ∷ bound_line bound ∷ lines) (are.written ∙ ap (λ (nodes : List Node). map node_line nodes ++ end_line ∷ []) nodes);
      whole = whole;
      spelled = subst (All IsSpelled) nodes are.spelled;
      certifies = are.grow.2.0;
    } in
    subst (λ b. AreOfTree net b (head_line ∷ bound_line bound ∷ lines)) (sym are.kept) own

-- the line where the bound has to be
bound_stands : (net : Net) (n : ℕ) (b : ℤ) (line : List ℕ) (lines : List (List ℕ)) (bound : Option ℤ) → bound_in line ≡ bound →
    Reaches net (n + 1) (after_bound net n bound) lines (AtEnd b) → AreOfTree net b (head_line ∷ line ∷ lines)
bound_stands net n b line lines None named reached = absurd (never_ends net (n + 1) n Form lines b reached)
bound_stands net n b line lines (Some bound) named reached =
    let spells : (line ≡ bound_line bound) × IsWhole bound = bound_spells_line line bound named in
    rw spells.0 (tree_of net bound b lines spells.1 (nodes_stand net (n + 1) bound b (root_of net ∷ []) lines reached))

-- all lines behind the first
after_head_stands : (net : Net) (n : ℕ) (b : ℤ) (lines : List (List ℕ)) → Reaches net n AtBound lines (AtEnd b) → AreOfTree net b (head_line ∷ lines)
after_head_stands net n b [] reached = absurd (cc)
after_head_stands net n b (line ∷ lines) reached =
    bound_stands net n b line lines (bound_in line) refl (subst (λ (after : Standing). Reaches net (n + 1) after lines (AtEnd b)) reached.1.0 reached.1.1)

-- the first line
head_stands : (net : Net) (n : ℕ) (b : ℤ) (line : List ℕ) (lines : List (List ℕ)) (is_head : Bool) → bytes_eq line head_line ≡ is_head →
    Reaches net (n + 1) (if is_head then AtBound else Broken n Form) lines (AtEnd b) → AreOfTree net b (line ∷ lines)
head_stands net n b line lines false is reached = absurd (never_ends net (n + 1) n Form lines b reached)
head_stands net n b line lines true is reached =
    let same : line ≡ head_line = (bytes_eq-Decides line head_line).0 is in
    rw same (after_head_stands net (n + 1) b lines reached)

-- all lines
lines_stand : (net : Net) (n : ℕ) (b : ℤ) (lines : List (List ℕ)) → Reaches net n AtHead lines (AtEnd b) → AreOfTree net b lines
lines_stand net n b [] reached = absurd (cc)
lines_stand net n b (line ∷ lines) reached =
    head_stands net n b line lines (bytes_eq line head_line) refl (subst (λ (after : Standing). Reaches net (n + 1) after lines (AtEnd b)) reached.1.0 reached.1.1)

-- a verdict that accepts comes where the last line stands and no byte behind it
accepted_at_end : (last : Standing) (number : ℕ) (behind : List ℕ) (b : ℤ) → Accepted b ≡ verdict_at last number behind → (last ≡ AtEnd b) × (behind ≡ [])
accepted_at_end AtHead number behind b is = absurd (cc)
accepted_at_end AtBound number behind b is = absurd (cc)
accepted_at_end (AtNodes bound boxes) number behind b is = absurd (cc)
accepted_at_end (AtEnd bound) number [] b is = (cc, refl)
accepted_at_end (AtEnd bound) number (byte ∷ bytes) b is = absurd (cc)
accepted_at_end (Broken line why) number behind b is = absurd (cc)

-- an accepted text is that of the bound and a tree that certifies it
pub accepted_is : (net : Net) (text : List ℕ) (b : ℤ) → IsVerdict net text (Accepted b) → Accepts net text b
accepted_is net text b verdict =
    let ends : (verdict.last ≡ AtEnd b) × (behind_lines text ≡ []) = accepted_at_end verdict.last (length (lines_of text) + 1) (behind_lines text) b verdict.is in
    let are : AreOfTree net b (lines_of text) = lines_stand net 1 b (lines_of text) (subst (λ (last : Standing). Reaches net 1 AtHead (lines_of text) last) ends.0 verdict.reached) in
    record {
      tree = are.tree;
      reads = record { written = certificate_text-read text b (nodes_of are.tree) are.written ends.1; bound = are.whole; nodes = are.spelled };
      certifies = are.certifies;
    }

-- ---- and the text of a good tree is accepted

-- nodes with a spelling, before others
spelled_parts : (nodes others : List Node) → All IsSpelled (nodes ++ others) → All IsSpelled nodes × All IsSpelled others
spelled_parts [] others spelled = (All-nil IsSpelled, spelled)
spelled_parts (node ∷ nodes) others spelled =
    let rest : All IsSpelled nodes × All IsSpelled others = spelled_parts nodes others (All-tail IsSpelled node (nodes ++ others) spelled) in
    (All-cons IsSpelled node nodes (All-head IsSpelled node (nodes ++ others) spelled) rest.0, rest.1)

-- what lines come to, whatever number the first of them has
abbrev Leads : Net → Standing → List (List ℕ) → Standing → Type 0
Leads net standing lines last = (n : ℕ) → Reaches net n standing lines last

-- a good node in the first of the boxes
node_leads : (net : Net) (bound : ℤ) (box : Ranges) (boxes : List Ranges) (node : Node) (lines : List (List ℕ)) (last : Standing) → IsGoodNode net bound box node → IsSpelled node →
    Leads net (AtNodes bound (boxes_below box node ++ boxes)) lines last → Leads net (AtNodes bound (box ∷ boxes)) (node_line node ∷ lines) last
node_leads net bound box boxes node lines last good spelled leads n =
    let after : Standing = AtNodes bound (boxes_below box node ++ boxes) in
    let is : AfterNode net bound box boxes n (node_in (node_line node)) after = rw (node_in-line node spelled) (inl (good, refl)) in
    (after, (is, leads (n + 1)))

-- the nodes of a good tree in the first of the boxes
tree_leads : (net : Net) (bound : ℤ) (box : Ranges) (boxes : List Ranges) (tree : Tree) (lines : List (List ℕ)) (last : Standing) → IsGood (IsGoodLeaf net bound) box tree →
    All IsSpelled (nodes_of tree) → Leads net (AtNodes bound boxes) lines last → Leads net (AtNodes bound (box ∷ boxes)) (map node_line (nodes_of tree) ++ lines) last
tree_leads net bound box boxes (AtLeaf leaf) lines last good spelled leads =
    node_leads net bound box boxes (LeafNode leaf) lines last good (All-head IsSpelled (LeafNode leaf) [] spelled) leads
tree_leads net bound box boxes (Split column at left right) lines last good spelled leads =
    let below : List Node = nodes_of left ++ nodes_of right in
    let parts : All IsSpelled (nodes_of left) × All IsSpelled (nodes_of right) = spelled_parts (nodes_of left) (nodes_of right) (All-tail IsSpelled (SplitNode column at) below spelled) in
    let on_right : Leads net (AtNodes bound (right_of box column at ∷ boxes)) (map node_line (nodes_of right) ++ lines) last =
    tree_leads net bound (right_of box column at) boxes right lines last good.2 parts.1 leads in
    let on_left : Leads net (AtNodes bound (left_of box column at ∷ right_of box column at ∷ boxes)) (map node_line (nodes_of left) ++ (map node_line (nodes_of right) ++ lines)) last =
    tree_leads net bound (left_of box column at) (right_of box column at ∷ boxes) left (map node_line (nodes_of right) ++ lines) last good.1 parts.0 on_right in
    let one : map node_line (nodes_of left) ++ (map node_line (nodes_of right) ++ lines) ≡ map node_line below ++ lines =
    sym (append_assoc (map node_line (nodes_of left)) (map node_line (nodes_of right)) lines) ∙ ap (λ begun. begun ++ lines) (sym (map-append node_line (nodes_of left) (nodes_of right))) in
    node_leads net bound box boxes (SplitNode column at) (map node_line below ++ lines) last good.0 (All-head IsSpelled (SplitNode column at) below spelled)
    (subst (λ (lines : List (List ℕ)). Leads net (AtNodes bound (left_of box column at ∷ right_of box column at ∷ boxes)) lines last) one on_left)

-- the lines of a certificate
certificate_leads : (net : Net) (b : ℤ) (tree : Tree) → IsWhole b → All IsSpelled (nodes_of tree) → Certifies net b tree → Leads net AtHead (certificate_lines b (nodes_of tree)) (AtEnd b)
certificate_leads net b tree whole spelled certifies n =
    let nodes : Leads net (AtNodes b (root_of net ∷ [])) (map node_line (nodes_of tree) ++ end_line ∷ []) (AtEnd b) =
    tree_leads net b (root_of net) [] tree (end_line ∷ []) (AtEnd b) certifies spelled (λ n. (AtEnd b, (refl, refl))) in
    let bound : AtNodes b (root_of net ∷ []) ≡ after_bound net (n + 1) (bound_in (bound_line b)) = rw (bound_in-line b whole) refl in
    (AtBound, (refl, (AtNodes b (root_of net ∷ []), (bound, nodes (n + 1 + 1)))))

-- the text of a bound and a tree that certifies it is accepted
pub is_accepted : (net : Net) (text : List ℕ) (b : ℤ) → Accepts net text b → IsVerdict net text (Accepted b)
is_accepted net text b accepts =
    let nodes : List Node = nodes_of accepts.tree in
    let whole : IsWhole b = accepts.reads.bound in
    let spelled : All IsSpelled nodes = accepts.reads.nodes in
    let lines : lines_of text ≡ certificate_lines b nodes = ap lines_of accepts.reads.written ∙ lines_of-certificate b nodes whole spelled in
    let behind : behind_lines text ≡ [] = ap behind_lines accepts.reads.written ∙ behind_lines-certificate b nodes whole spelled in
    record {
      last = AtEnd b;
      reached = subst (λ (lines : List (List ℕ)). Reaches net 1 AtHead lines (AtEnd b)) (sym lines) (certificate_leads net b accepts.tree whole spelled accepts.certifies 1);
      is = rw behind refl;
    }

-- ---- a text has one verdict

-- behind a line where a node has to be comes one
one_after_node : (net : Net) (bound : ℤ) (box : Ranges) (boxes : List Ranges) (n : ℕ) (node : Option Node) (a b : Standing) → IsValid net → AfterNode net bound box boxes n node a → AfterNode net bound box boxes n node b →
    a ≡ b
one_after_node net bound box boxes n None a b valid is too = is ∙ sym too
one_after_node net bound box boxes n (Some node) a b valid (inl is) (inl too) = is.1 ∙ sym too.1
one_after_node net bound box boxes n (Some node) a b valid (inl is) (inr (why, (reason, too))) = absurd (good_has_no_reason net bound box node why valid is.0 reason)
one_after_node net bound box boxes n (Some node) a b valid (inr (why, (reason, is))) (inl too) = absurd (good_has_no_reason net bound box node why valid too.0 reason)
one_after_node net bound box boxes n (Some node) a b valid (inr (why, (reason, is))) (inr (other, (second, too))) =
    is ∙ ap (Broken n) (one_reason net bound box node why other valid reason second) ∙ sym too

-- behind each line
one_after : (net : Net) (n : ℕ) (standing : Standing) (line : List ℕ) (a b : Standing) → IsValid net → After net n standing line a → After net n standing line b → a ≡ b
one_after net n AtHead line a b valid is too = is ∙ sym too
one_after net n AtBound line a b valid is too = is ∙ sym too
one_after net n (AtNodes bound []) line a b valid is too = is ∙ sym too
one_after net n (AtNodes bound (box ∷ boxes)) line a b valid is too = one_after_node net bound box boxes n (node_in line) a b valid is too
one_after net n (AtEnd bound) line a b valid is too = is ∙ sym too
one_after net n (Broken at why) line a b valid is too = is ∙ sym too

-- behind all lines
one_last : (net : Net) (n : ℕ) (standing : Standing) (lines : List (List ℕ)) (a b : Standing) → IsValid net → Reaches net n standing lines a → Reaches net n standing lines b → a ≡ b
one_last net n standing [] a b valid is too = is ∙ sym too
one_last net n standing (line ∷ lines) a b valid (after, (is, reached)) (other, (too, there)) =
    let same : after ≡ other = one_after net n standing line after other valid is too in
    one_last net (n + 1) other lines a b valid (subst (λ (after : Standing). Reaches net (n + 1) after lines a) same reached) there

-- a text has one verdict
pub one_verdict : (net : Net) (text : List ℕ) (v w : Verdict) → IsValid net → IsVerdict net text v → IsVerdict net text w → v ≡ w
one_verdict net text v w valid is too =
    let same : is.last ≡ too.last = one_last net 1 AtHead (lines_of text) is.last too.last valid is.reached too.reached in
    is.is ∙ ap (λ last. verdict_at last (length (lines_of text) + 1) (behind_lines text)) same ∙ sym too.is

-- ---- an accepted bound is safe

-- no admissible plan has a delay below it
pub accepted_is_safe : (net : Net) (text : List ℕ) (b : ℤ) (plan : Plan) → IsValid net → IsVerdict net text (Accepted b) → IsAdmissiblePlan net plan → b ≤ℤ plan_delay net plan
accepted_is_safe net text b plan valid verdict admissible =
    let accepts : Accepts net text b = accepted_is net text b verdict in
    bounds_are_safe net b accepts.tree plan valid accepts.certifies admissible
