-- What a text says before its first line that breaks the form of a certificate (docs/certificate-file.md, "The text"): a bound, and the
-- nodes of a tree from the top down. A tree that is not complete has some subtrees that are to come.
use Rattle.std.specs.Prelude.{ℕ, zero, suc, ◌+◌, if◌then◌else◌, ℤ, pos, List, [], ◌∷◌, map, Option, Some, None, Result, Ok, Err}
use Rattle.std.specs.Str.{bytes_eq}
use Rattle.texts.specs.Lines.{behind_lines, lines_of}
use Rattle.certificate_model.specs.Nodes.{LeafNode, Node, SplitNode}
use Rattle.certificate_model.specs.Text.{bound_in, end_line, head_line, node_in}
use Rattle.cert_format.specs.Marks.{node_of}
use Rattle.cert_format.specs.declared.cert.Cert.{Cert}
use Rattle.cert_format.specs.declared.fault.CertFault.{CertFault}
use Rattle.cert_format.specs.declared.fault.CertFault.TheVariants as fault
use Rattle.cert_format.specs.declared.reading.Ending.{Ending}
use Rattle.cert_format.specs.declared.reading.Ending.TheVariants.{Whole, BadForm, Tail}
use Rattle.cert_format.specs.declared.reading.Front.{Front}

-- the nodes of some lines, before the first that breaks the form, and how the lines end
pub record Part : Type 0 where
  pub nodes : List Node
  pub ending : Ending

-- no node, before the line with a number breaks the form
abbrev pub broken : ℕ → Part
broken number = record { nodes = []; ending = BadForm number }

-- a node before others
abbrev pub with_node : Node → Part → Part
with_node node part = record { nodes = node ∷ part.nodes; ending = part.ending }

-- how many subtrees are to come behind a node, where so many are to come besides its own: a split brings two
abbrev pub awaited_behind : Node → ℕ → ℕ
awaited_behind (SplitNode column at) others = suc (suc others)
awaited_behind (LeafNode leaf) others = others

-- what stands behind the line `end`: nothing, or something that begins at the line with a number
abbrev pub ending_behind : ℕ → List (List ℕ) → List ℕ → Ending
ending_behind number [] [] = Whole
ending_behind number lines last = Tail number

-- lines where the tree is complete: the line `end`, which has a number, and nothing behind it
abbrev pub last_ending : ℕ → List (List ℕ) → List ℕ → Ending
last_ending number [] last = BadForm number
last_ending number (line ∷ lines) last = if bytes_eq line end_line then ending_behind (number + 1) lines last else BadForm number

-- a line that names a node where one is to come, and what the lines behind it say for the subtrees that are to come then
abbrev pub node_before : ℕ → Option Node → ℕ → (ℕ → Part) → Part
node_before number None others more = broken number
node_before number (Some node) others more = with_node node (more (awaited_behind node others))

-- lines where so many subtrees are to come, of which the first has a number, before bytes that no line feed follows
abbrev pub part_of : ℕ → ℕ → List (List ℕ) → List ℕ → Part
part_of number zero lines last = record { nodes = []; ending = last_ending number lines last }
part_of number (suc others) [] last = broken number
part_of number (suc others) (line ∷ lines) last = node_before number (node_in line) others (λ awaited. part_of (number + 1) awaited lines last)

-- a bound, the nodes before the first line that breaks the form, and how the text ends
pub record Shown : Type 0 where
  pub bound : ℤ
  pub nodes : List Node
  pub ending : Ending

-- no bound, before the line with a number breaks the form
abbrev pub without_bound : ℕ → Shown
without_bound number = record { bound = pos 0; nodes = []; ending = BadForm number }

-- a bound before the nodes of a tree
abbrev pub with_bound : ℤ → Part → Shown
with_bound bound part = record { bound = bound; nodes = part.nodes; ending = part.ending }

-- a bound and all nodes of a tree
abbrev pub whole_front : ℤ → List Node → Shown
whole_front bound nodes = record { bound = bound; nodes = nodes; ending = Whole }

-- the third line and those behind it, where the second names a bound
abbrev pub front_behind_bound : Option ℤ → List (List ℕ) → List ℕ → Shown
front_behind_bound None lines last = without_bound 2
front_behind_bound (Some bound) lines last = with_bound bound (part_of 3 1 lines last)

-- the second line and those behind it
abbrev pub front_behind_head : List (List ℕ) → List ℕ → Shown
front_behind_head [] last = without_bound 2
front_behind_head (line ∷ lines) last = front_behind_bound (bound_in line) lines last

-- all lines
abbrev pub front_of_lines : List (List ℕ) → List ℕ → Shown
front_of_lines [] last = without_bound 1
front_of_lines (line ∷ lines) last = if bytes_eq line head_line then front_behind_head lines last else without_bound 1

-- what a text says before its first line that breaks the form: bytes that no line feed follows are no line
unfoldable pub front_of : List ℕ → Shown
front_of text = front_of_lines (lines_of text) (behind_lines text)

-- what was read of a text
abbrev pub shown : Front → Shown
shown front = record { bound = front.bound; nodes = map node_of front.nodes; ending = front.ending }

-- a bound and the nodes of a tree
pub record Written : Type 0 where
  pub bound : ℤ
  pub nodes : List Node

-- what a certificate says
abbrev pub written_of : Cert → Written
written_of cert = record { bound = cert.bound; nodes = map node_of cert.nodes }

-- what is spelled where a text ends so
abbrev pub spelled_by : Ending → Written → Result Written CertFault
spelled_by Whole written = Ok written
spelled_by (BadForm line) written = Err (fault.Form line)
spelled_by (Tail line) written = Err (fault.Tail line)

-- the certificate that a text spells, or its first line that breaks the form
abbrev pub spelled : Shown → Result Written CertFault
spelled front = spelled_by front.ending (record { bound = front.bound; nodes = front.nodes })

-- what was read of a text, where something was
abbrev pub read_of : Result Cert CertFault → Result Written CertFault
read_of (Ok cert) = Ok (written_of cert)
read_of (Err fault) = Err fault
