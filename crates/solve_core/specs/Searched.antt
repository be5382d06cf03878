-- What a whole tree shows once a search has ended (docs/search.md, "What open means").
use Rattle.std.specs.Prelude.{◌⊎◌, ℕ, ◌+◌, ◌<◌, ◌≤◌, ◌^◌, ℤ, pos, ◌≤ℤ◌, length}
use Rattle.ct_base.specs.declared.net.Net.{Net}
use Rattle.sparse_program.specs.Box.{Ranges}
use Rattle.certificate_model.specs.Certificates.{Certifies, root_of}
use Rattle.certificate_model.specs.Nodes.{nodes_of}
use Rattle.certificate_model.specs.Text.{Reads, certificate_text}
use Rattle.certificate_model.specs.Tree.{IsLeafOf, Leaf, Tree}
use Rattle.certificate_model.specs.declared.constants.TheConstants.{MAX_CERTIFICATE_BYTES}
use Rattle.search_model.specs.LeafNumbers.{IsLeastGiven}
use Rattle.search_model.specs.Splits.{AreFirstSplits, unfixed_count}
use Rattle.solve_core.specs.Earned.{IsEarned}

-- two more nodes would be above the budget, while some leaf could still be split
pub record IsSpent (net : Net) (budget nodes : ℕ) : Type 0 where
  pub full : budget < nodes + 2
  pub room : nodes + 3 ≤ 2 ^ (unfixed_count net (root_of net) + 1)

-- no closed leaf gives less than the delay, or the budget is spent
abbrev pub IsReached : Net → ℕ → ℤ → ℤ → ℕ → Type 0
IsReached net budget delay least nodes = (delay ≤ℤ least) ⊎ IsSpent net budget nodes

-- a tree certifies a bound, which is the least number that one of its leaves gives and at most a delay that was reached; its text is
-- accepted and no longer than a certificate may be; it was grown within a budget, each split at 0 on the first plan column that its box
-- leaves open; each leaf is earned; and the bound is the delay, or the budget is spent
pub record IsSearched (net : Net) (budget : ℕ) (delay bound : ℤ) (tree : Tree) : Type 0 where
  pub certified : Certifies net bound tree
  pub least : IsLeastGiven net tree bound
  pub from_zero : pos 0 ≤ℤ bound
  pub to_delay : bound ≤ℤ delay
  pub text : Reads (certificate_text bound (nodes_of tree)) bound tree
  pub fits : length (certificate_text bound (nodes_of tree)) ≤ MAX_CERTIFICATE_BYTES
  pub within : length (nodes_of tree) ≤ budget
  pub splits : AreFirstSplits net (root_of net) tree
  pub earned : (inner : Ranges) (leaf : Leaf) → IsLeafOf (root_of net) tree inner leaf → IsEarned net delay inner leaf
  pub reached : IsReached net budget delay bound (length (nodes_of tree))
