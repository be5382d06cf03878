-- What a search keeps from turn to turn.
use Rattle.std.specs.Prelude.{◌≡◌, ℕ, ◌+◌, ◌*◌, ◌≤◌, ℤ, pos, IsTrue, IfSome, Option, Some, None, length}
use Rattle.std.specs.Int.{int_min}
use Rattle.ct_base.specs.Validity.{IsValid}
use Rattle.ct_base.specs.declared.net.Net.{Net}
use Rattle.sparse_program.specs.Program.{Parts}
use Rattle.sparse_program.specs.declared.limits.TheConstants.{MAX_ROWS}
use Rattle.program_model.specs.Points.{program_of}
use Rattle.certificate_model.specs.Tree as model
use Rattle.safe_bound.specs.Costed.{IsCostedOf}
use Rattle.kept_value.specs.Kept.{IsKeptOf}
use Rattle.branch_tree.specs.Boxes.{box_of}
use Rattle.branch_tree.specs.OpenTree.{has, is_open, size}
use Rattle.search_model.specs.LeafNumbers.{GivesNumber}
use Rattle.solve_core.specs.Growth.{IsClosedWell, IsTreeOf}
use Rattle.solve_core.specs.Searched.{IsReached}
use Rattle.solve_core.specs.declared.constants.TheConstants.{MAX_WORK}
use Rattle.solve_core.specs.Shapes.{open_leaves}
use Rattle.solve_core.specs.Solved.{IsFound}
use Rattle.solve_core.specs.declared.search.Search.{Search}

-- what a search is asked: a valid network with its program, and a budget of at least one node that is not too great for it
pub record IsTask (net : Net) (program : Parts) (budget : ℕ) : Type 0 where
  pub valid : IsValid net
  pub program_is : program ≡ program_of net
  pub held : length (program_of net).rows ≤ MAX_ROWS
  pub some : 1 ≤ budget
  pub within : budget * length (program_of net).rows ≤ MAX_WORK
  pub few : budget ≤ MAX_WORK

-- both boxes of a search stand at a node of its tree
pub record Stands (net : Net) (search : Search) : Type 0 where
  pub there : IsTrue (has search.tree.tree search.at)
  pub kept_of : IsKeptOf (program_of net) search.kept
  pub kept_box : search.kept.box ≡ box_of search.tree search.at
  pub costed_of : IsCostedOf (program_of net) search.costed
  pub costed_box : search.costed.box ≡ box_of search.tree search.at

-- what a search keeps
pub record IsSearching (net : Net) (budget : ℕ) (search : Search) : Type 0 where
  pub grown : IsTreeOf net budget (pos search.best.delay) search.least search.tree
  pub reached : IsReached net budget (pos search.best.delay) search.least (size search.tree.tree)
  pub stands : Stands net search
  pub found : IsFound net search.best.delay search.best.plan

-- the lesser of a number and one that a leaf gives, if it gives any
abbrev pub lesser_of : ℤ → Option ℤ → ℤ
lesser_of least None = least
lesser_of least (Some number) = int_min least number

-- an open leaf may be closed so: it is closed well, gives the number, if any, and that reaches the delay unless the budget is spent
pub record CanClose (net : Net) (budget : ℕ) (search : Search) (leaf : ℕ) (how : model.Leaf) (number : Option ℤ) : Type 0 where
  pub waits : IsTrue (is_open search.tree.tree leaf)
  pub well : IsClosedWell net (pos search.best.delay) (lesser_of search.least number) (box_of search.tree leaf) how
  pub gives : IfSome number (GivesNumber net (box_of search.tree leaf) how)
  pub reaches : IfSome number (λ n. IsReached net budget (pos search.best.delay) n (size search.tree.tree))

-- one open leaf was closed, and the best plan is no worse
pub record ClosesOne (before after : Search) : Type 0 where
  pub fewer : open_leaves after.tree.tree + 1 ≡ open_leaves before.tree.tree
  pub as_many : size after.tree.tree ≡ size before.tree.tree
  pub lesser : after.best.delay ≤ before.best.delay

-- two states of a search differ in their prices, their boxes and where these stand, and in nothing else
pub record KeepsTree (before after : Search) : Type 0 where
  pub tree_same : after.tree ≡ before.tree
  pub best_same : after.best ≡ before.best
  pub least_same : after.least ≡ before.least
