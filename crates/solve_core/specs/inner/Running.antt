-- What a search keeps beside its tree: the lists of prices with which leaves begin; and how many turns are left at most.
use Rattle.std.specs.Prelude.{◌≡◌, ℕ, ◌+◌, ◌*◌, ◌-◌, All}
use Rattle.ct_base.specs.declared.net.Net.{Net}
use Rattle.program_model.specs.Points.{program_of}
use Rattle.safe_bound.specs.Prices.{ArePrices}
use Rattle.seed_prices.specs.Seed.{seed_of}
use Rattle.branch_tree.specs.OpenTree.{size}
use Rattle.solve_core.specs.Shapes.{open_leaves}
use Rattle.solve_core.specs.inner.Searching.{IsSearching}
use Rattle.solve_core.specs.declared.lists.Lists.{Lists}
use Rattle.solve_core.specs.declared.running.Running.{Running}

-- the seed of a network, and lists of lawful prices
pub record AreLists (net : Net) (lists : Lists) : Type 0 where
  pub seed_is : lists.seed.items ≡ seed_of net
  pub lawful : All (λ prices. ArePrices (program_of net).rows prices.items) lists.worked.items

-- a search with the lists of its leaves
pub record IsRunning (net : Net) (budget : ℕ) (running : Running) : Type 0 where
  pub searching : IsSearching net budget running.search
  pub of_net : AreLists net running.lists

-- how many turns a search has left at most: a split takes two nodes of the budget and leaves one more leaf open, a leaf that is closed is
-- open no more, and a leaf that goes on waiting has used up one of its refinings
abbrev pub turns_left : ℕ → Running → ℕ
turns_left budget running =
    3 * (budget - size running.search.tree.tree) + open_leaves running.search.tree.tree + running.refinings
