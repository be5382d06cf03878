-- Which splits a search makes (docs/search.md, "The tree"): each at 0 on the first plan column that its box leaves open.
use Rattle.std.specs.Prelude.{◌≡◌, ℕ, ◌<◌, ◌≤◌, pos, ◌≤ℤ◌, ◌<ℤ◌, int_lt, length}
use Rattle.listed.specs.Below.{sum_below}
use Rattle.ct_base.specs.declared.net.Net.{Net}
use Rattle.sparse_program.specs.Box.{Ranges, high_of, low_of}
use Rattle.program_model.specs.Numbers.{plan_count}
use Rattle.program_model.specs.Values.{one_where}
use Rattle.certificate_model.specs.Tree.{AtLeaf, Split, Tree, left_of, right_of}

-- how many plan columns a box leaves open, which are those with more than one number in it
abbrev pub unfixed_count : Net → Ranges → ℕ
unfixed_count net box = sum_below (plan_count net) (λ j. one_where (int_lt (low_of box j) (high_of box j)))

-- the column is the first plan column that the box leaves open
pub record IsFirstUnfixed (net : Net) (box : Ranges) (column : ℕ) : Type 0 where
  pub of_plan : column < plan_count net
  pub several : low_of box column <ℤ high_of box column
  pub first : (j : ℕ) → j < column → high_of box j ≤ℤ low_of box j

-- each split of a tree is at 0 on the first plan column that its box leaves open
abbrev pub AreFirstSplits : Net → Ranges → Tree → Type 0
AreFirstSplits net box (AtLeaf leaf) = Unit {0}
AreFirstSplits net box (Split column at left right) =
    IsFirstUnfixed net box column × (at ≡ pos 0) × AreFirstSplits net (left_of box column at) left × AreFirstSplits net (right_of box column at) right

-- a box in which each plan column is between 0 and 1
pub record HasBits (net : Net) (box : Ranges) : Type 0 where
  pub there : plan_count net ≤ length box.lows
  pub same : length box.highs ≡ length box.lows
  pub low : (j : ℕ) → j < plan_count net → pos 0 ≤ℤ low_of box j
  pub high : (j : ℕ) → j < plan_count net → high_of box j ≤ℤ pos 1
