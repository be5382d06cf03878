-- What a search has done for the bound of each leaf (docs/search.md, "How leaves close").
use Rattle.std.specs.Prelude.{◌≡◌, ◌⊎◌, ℕ, ◌<◌, ℤ, pos, ◌-ℤ◌, ◌*ℤ◌, ◌≤ℤ◌, ◌<ℤ◌, true, List, length}
use Rattle.ct_base.specs.declared.net.Net.{Net}
use Rattle.ct_base.specs.declared.plan.Plan.{Plan}
use Rattle.sparse_program.specs.Box.{Ranges}
use Rattle.sparse_program.specs.Terms.{coefficient}
use Rattle.program_model.specs.Points.{program_of}
use Rattle.certificate_model.specs.Leaves.{FixesPlan, plan_delay}
use Rattle.certificate_model.specs.Tree.{Empty, Fixed, Leaf, Priced}
use Rattle.certificate_model.specs.Value.{scale, value}
use Rattle.safe_bound.specs.Prices.{ArePrices, price_at}
use Rattle.dual_prices.specs.Settled.{AreSettled}
use Rattle.dual_prices.specs.Worked.{HasRisen}
use Rattle.seed_prices.specs.Seed.{seed_of}

-- the value of a list of prices, one of each row, over a box
abbrev pub value_in : Net → Ranges → List ℤ → ℤ
value_in net box prices = value (program_of net) true box (price_at prices)

-- a value gives at least a delay: its least whole number of units is not below it
abbrev pub GivesDelay : ℤ → ℤ → Type 0
GivesDelay delay value = (pos scale *ℤ (delay -ℤ pos 1)) <ℤ value

-- work has been done on prices in a box: they are worth no less than the seed there; and they are settled, or give the delay, or have
-- risen above the seed by one unit of delay a row
pub record AreWorked (net : Net) (delay : ℤ) (box : Ranges) (prices : List ℤ) : Type 0 where
  pub lawful : ArePrices (program_of net).rows prices
  pub above_seed : value_in net box (seed_of net) ≤ℤ value_in net box prices
  pub ends : AreSettled (program_of net) box prices
      ⊎ (GivesDelay delay (value_in net box prices)
      ⊎ HasRisen (program_of net) (value_in net box (seed_of net)) (value_in net box prices))

-- the pairs of a priced leaf are those of prices on which work was done
pub record IsPricedByWork (net : Net) (delay : ℤ) (box : Ranges) (pairs : List (ℕ × ℤ)) : Type 0 where
  pub prices : List ℤ
  pub named : (row : ℕ) → row < length (program_of net).rows → coefficient pairs row ≡ price_at prices row
  pub worked : AreWorked net delay box prices

-- the search has earned its leaf: it worked on the prices of a priced one, and took the plan of a fixed one if none is better. An empty
-- one is shown by its value alone
abbrev pub IsEarned : Net → ℤ → Ranges → Leaf → Type 0
IsEarned net delay box (Priced pairs) = IsPricedByWork net delay box pairs
IsEarned net delay box (Empty pairs) = Unit {0}
IsEarned net delay box Fixed = (plan : Plan) → FixesPlan net box plan → delay ≤ℤ plan_delay net plan
