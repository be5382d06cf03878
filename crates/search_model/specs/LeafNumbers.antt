-- The number that a leaf gives in its box, and the bound of a tree (docs/certificate.md, "The leaves"; docs/search.md, "The tree").
use Rattle.std.specs.Prelude.{◌≡◌, ℤ, ◌≤ℤ◌, true}
use Rattle.ct_base.specs.declared.net.Net.{Net}
use Rattle.ct_base.specs.declared.plan.Plan.{Plan}
use Rattle.sparse_program.specs.Box.{Ranges}
use Rattle.program_model.specs.Points.{program_of}
use Rattle.certificate_model.specs.Certificates.{root_of}
use Rattle.certificate_model.specs.Leaves.{FixesPlan, IsCeiling, IsGoodEmpty, plan_delay}
use Rattle.certificate_model.specs.Tree.{Empty, Fixed, IsLeafOf, Leaf, Priced, Tree}
use Rattle.certificate_model.specs.Value.{AreLawful, value_of_pairs}

-- a leaf is lawful in its box, whatever the bound
abbrev pub IsLawfulLeaf : Net → Ranges → Leaf → Type 0
IsLawfulLeaf net box (Priced pairs) = AreLawful (program_of net).rows pairs
IsLawfulLeaf net box (Empty pairs) = IsGoodEmpty net box pairs
IsLawfulLeaf net box Fixed = (plan : Plan) × FixesPlan net box plan

-- the number that a leaf gives: the least whole number of units that its value comes to, or the delay of the plan that its box fixes.
-- An empty leaf gives none
abbrev pub GivesNumber : Net → Ranges → Leaf → ℤ → Type 0
GivesNumber net box (Priced pairs) number = IsCeiling (value_of_pairs (program_of net) true box pairs) number
GivesNumber net box (Empty pairs) number = ⊥
GivesNumber net box Fixed number = (plan : Plan) × (FixesPlan net box plan × (number ≡ plan_delay net plan))

-- a leaf of the tree gives the number
pub record IsGivenIn (net : Net) (tree : Tree) (number : ℤ) : Type 0 where
  pub inner : Ranges
  pub leaf : Leaf
  pub of : IsLeafOf (root_of net) tree inner leaf
  pub gives : GivesNumber net inner leaf number

-- the bound is the least number that a leaf of the tree gives
pub record IsLeastGiven (net : Net) (tree : Tree) (bound : ℤ) : Type 0 where
  pub given : IsGivenIn net tree bound
  pub least : (number : ℤ) → IsGivenIn net tree number → bound ≤ℤ number
