-- Certificates: a bound, and a tree that is good in the box of all points (docs/certificate.md, "What is accepted").
use Rattle.std.specs.Prelude.{ℤ}
use Rattle.ct_base.specs.declared.net.Net.{Net}
use Rattle.sparse_program.specs.Box.{Ranges, ranges_of}
use Rattle.program_model.specs.Points.{program_of}
use Rattle.certificate_model.specs.Leaves.{IsGoodLeaf}
use Rattle.certificate_model.specs.Tree.{IsGood, Tree}

-- the box of all points of a network's program: the bounds of its columns
abbrev pub root_of : Net → Ranges
root_of net = ranges_of (program_of net).columns

-- the tree shows that no admissible plan of the network has a delay below the bound
abbrev pub Certifies : Net → ℤ → Tree → Type 0
Certifies net bound tree = IsGood (IsGoodLeaf net bound) (root_of net) tree
