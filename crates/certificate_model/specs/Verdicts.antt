-- Which verdict the text of a certificate deserves (docs/certificate.md, "What is accepted"; docs/certificate-file.md, "What is
-- refused"). The lines are judged one after another, each node in its own box: a certificate is refused at the first line that
-- breaks.
use Rattle.std.specs.Prelude.{◌≡◌, ◌⊎◌, ℕ, ◌+◌, if◌then◌else◌, ℤ, List, [], ◌∷◌, ◌++◌, length, Option, Some, None}
use Rattle.std.specs.Str.{bytes_eq}
use Rattle.texts.specs.Lines.{behind_lines, lines_of}
use Rattle.ct_base.specs.declared.net.Net.{Net}
use Rattle.sparse_program.specs.Box.{Ranges}
use Rattle.certificate_model.specs.Certificates.{Certifies, root_of}
use Rattle.certificate_model.specs.Nodes.{Node, boxes_below}
use Rattle.certificate_model.specs.Reasons.{IsGoodNode, NodeReason}
use Rattle.certificate_model.specs.Text.{Reads, bound_in, end_line, head_line, node_in}
use Rattle.certificate_model.specs.Tree.{Tree}
use Rattle.certificate_model.specs.declared.verdict.Verdict.{Verdict}
use Rattle.certificate_model.specs.declared.verdict.Verdict.TheVariants.{Accepted, Rejected}
use Rattle.certificate_model.specs.declared.verdict.Why.{Why}
use Rattle.certificate_model.specs.declared.verdict.Why.TheVariants.{Form, Tail}

-- the text is that of the bound and of a tree that certifies it for the network
pub record Accepts (net : Net) (text : List ℕ) (bound : ℤ) : Type 0 where
  pub tree : Tree
  pub reads : Reads text bound tree
  pub certifies : Certifies net bound tree

-- what has to come next, once some lines stand
pub data Standing : Type 0 where
  -- the first line
  AtHead : Standing
  -- the bound
  AtBound : Standing
  -- a node in each of the boxes in turn, with all that stands below it; then the last line
  AtNodes : (bound : ℤ) (boxes : List Ranges) → Standing
  -- nothing
  AtEnd : (bound : ℤ) → Standing
  -- nothing counts any more: a line broke
  Broken : (line : ℕ) (why : Why) → Standing

-- a line where the first one has to be
abbrev pub after_head : ℕ → List ℕ → Standing
after_head number line = if bytes_eq line head_line then AtBound else Broken number Form

-- a line where the bound has to be
abbrev pub after_bound : Net → ℕ → Option ℤ → Standing
after_bound net number None = Broken number Form
after_bound net number (Some bound) = AtNodes bound (root_of net ∷ [])

-- a line where the last one has to be
abbrev pub after_tree : ℤ → ℕ → List ℕ → Standing
after_tree bound number line = if bytes_eq line end_line then AtEnd bound else Broken number Form

-- a line where a node has to be, in the first of the boxes
abbrev pub AfterNode : Net → ℤ → Ranges → List Ranges → ℕ → Option Node → Standing → Type 0
AfterNode net bound box boxes number None after = after ≡ Broken number Form
AfterNode net bound box boxes number (Some node) after =
    (IsGoodNode net bound box node × (after ≡ AtNodes bound (boxes_below box node ++ boxes)))
    ⊎ ((why : Why) × (NodeReason net bound box node why × (after ≡ Broken number why)))

-- what has to come behind the line with a number
abbrev pub After : Net → ℕ → Standing → List ℕ → Standing → Type 0
After net number AtHead line after = after ≡ after_head number line
After net number AtBound line after = after ≡ after_bound net number (bound_in line)
After net number (AtNodes bound []) line after = after ≡ after_tree bound number line
After net number (AtNodes bound (box ∷ boxes)) line after = AfterNode net bound box boxes number (node_in line) after
After net number (AtEnd bound) line after = after ≡ Broken number Tail
After net number (Broken at why) line after = after ≡ Broken at why

-- what has to come behind some lines, of which the first has a number
abbrev pub Reaches : Net → ℕ → Standing → List (List ℕ) → Standing → Type 0
Reaches net number standing [] last = last ≡ standing
Reaches net number standing (line ∷ lines) last = (after : Standing) × (After net number standing line after × Reaches net (number + 1) after lines last)

-- the verdict where the text ends: the line that would be next has a number, and some bytes of it are there
abbrev pub verdict_at : Standing → ℕ → List ℕ → Verdict
verdict_at (AtEnd bound) number [] = Accepted bound
verdict_at (AtEnd bound) number (byte ∷ bytes) = Rejected number Tail
verdict_at (Broken line why) number behind = Rejected line why
verdict_at _ number behind = Rejected number Form

-- the verdict that a text deserves for a network
pub record IsVerdict (net : Net) (text : List ℕ) (verdict : Verdict) : Type 0 where
  pub last : Standing
  pub reached : Reaches net 1 AtHead (lines_of text) last
  pub is : verdict ≡ verdict_at last (length (lines_of text) + 1) (behind_lines text)
