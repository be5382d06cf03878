-- What a tree keeps while a search grows it (docs/search.md, "The tree").
use Rattle.std.specs.Prelude.{◌≡◌, ◌⊎◌, ℕ, ◌≤◌, ◌^◌, ℤ, pos, ◌≤ℤ◌}
use Rattle.ct_base.specs.declared.net.Net.{Net}
use Rattle.sparse_program.specs.Box.{Ranges}
use Rattle.certificate_model.specs.Certificates.{root_of}
use Rattle.certificate_model.specs.Tree.{Leaf}
use Rattle.branch_tree.specs.Boxes.{AreGood, Growing, IsGrowing}
use Rattle.branch_tree.specs.OpenTree.{size}
use Rattle.search_model.specs.LeafNumbers.{GivesNumber, IsLawfulLeaf}
use Rattle.search_model.specs.Splits.{AreFirstSplits}
use Rattle.solve_core.specs.Earned.{IsEarned}
use Rattle.solve_core.specs.Shapes.{ClosedGives, shape_of}

-- what stands for the least number of leaves while none has given one: more than any delay
abbrev pub no_number : ℤ
no_number = pos (2 ^ 100)

-- a leaf is closed well: it is lawful, the search has earned it, and no number that it gives is below the least
pub record IsClosedWell (net : Net) (delay least : ℤ) (box : Ranges) (leaf : Leaf) : Type 0 where
  pub lawful : IsLawfulLeaf net box leaf
  pub earned : IsEarned net delay box leaf
  pub above : (number : ℤ) → GivesNumber net box leaf number → least ≤ℤ number

-- the tree of a search, with a delay that was reached and the least number that a closed leaf gives
pub record IsTreeOf (net : Net) (budget : ℕ) (delay least : ℤ) (growing : Growing) : Type 0 where
  pub keeps : IsGrowing growing
  pub root : growing.root ≡ root_of net
  pub splits : AreFirstSplits net growing.root (shape_of growing.tree)
  pub few : size growing.tree ≤ budget
  pub closed : AreGood (IsClosedWell net delay least) growing.root growing.tree
  pub given : (least ≡ no_number) ⊎ ClosedGives net growing.root growing.tree least
