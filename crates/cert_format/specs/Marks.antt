-- Nodes of certificates as the definitions see them.
use Rattle.std.specs.Prelude.{ℕ, ℤ, List, take, Option, Some, None}
use Rattle.certificate_model.specs.Nodes as model
use Rattle.certificate_model.specs.Tree as tree
use Rattle.cert_format.specs.declared.cert.Node.{Node}
use Rattle.cert_format.specs.declared.cert.Node.TheVariants.{Split, Priced, Empty, Fixed}
use Rattle.cert_format.specs.declared.line.Mark.{Mark}
use Rattle.cert_format.specs.declared.line.Mark.TheVariants as mark

-- a node of a certificate as one of a tree
abbrev pub node_of : Node → model.Node
node_of (Split column at) = model.SplitNode column at
node_of (Priced pairs) = model.LeafNode (tree.Priced pairs)
node_of (Empty pairs) = model.LeafNode (tree.Empty pairs)
node_of Fixed = model.LeafNode tree.Fixed

-- the node of a line whose pairs stand apart
abbrev pub marked : Option Mark → List (ℕ × ℤ) → Option model.Node
marked None pairs = None
marked (Some (mark.Split column at)) pairs = Some (model.SplitNode column at)
marked (Some mark.Priced) pairs = Some (model.LeafNode (tree.Priced pairs))
marked (Some mark.Empty) pairs = Some (model.LeafNode (tree.Empty pairs))
marked (Some mark.Fixed) pairs = Some (model.LeafNode tree.Fixed)

-- a node with the first of its pairs alone, so many at most
abbrev pub with_first : ℕ → model.Node → model.Node
with_first most (model.SplitNode column at) = model.SplitNode column at
with_first most (model.LeafNode (tree.Priced pairs)) = model.LeafNode (tree.Priced (take most pairs))
with_first most (model.LeafNode (tree.Empty pairs)) = model.LeafNode (tree.Empty (take most pairs))
with_first most (model.LeafNode tree.Fixed) = model.LeafNode tree.Fixed
