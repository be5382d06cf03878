-- What a replay keeps of a whole plan, and up to which step that is what another plan comes to.
use Rattle.std.specs.Prelude.{◌≡◌, ◌≢◌, ℕ, ◌+◌, ◌*◌, ◌<◌, ◌≤◌, List, length, take, drop, slice_index}
use Rattle.ct_base.specs.declared.net.Net.{Net}
use Rattle.ct_base.specs.declared.plan.Letter.{Letter}
use Rattle.ct_base.specs.declared.plan.Plan.{Plan}
use Rattle.traffic_model.specs.Delay.{delay_of, letters_at}
use Rattle.traffic_model.specs.Occupancy.{occupancies}

-- what is kept: the units of all cells at step 0, then at step 1, and so on; the delay of the steps before each step; and room for
-- what leaves each cell and what each signal shows in a step
pub record Kept : Type 0 where
  pub units : List ℕ
  pub delays : List ℕ
  pub outflows : List ℕ
  pub letters : List Letter

-- what each of so many cells holds at step t
abbrev pub units_at : ℕ → ℕ → List ℕ → List ℕ
units_at cells t units = take cells (drop (t * cells) units)

-- there is room for each step and the end, each cell and each signal of the network
pub record HasRoom (net : Net) (kept : Kept) : Type 0 where
  pub units : length kept.units ≡ (net.steps + 1) * length net.cells
  pub delays : length kept.delays ≡ net.steps + 1
  pub outflows : length kept.outflows ≡ length net.cells
  pub letters : length kept.letters ≡ length net.signals

-- up to step k the units and the delays are those of the plan
pub record KeepsTo (net : Net) (plan : Plan) (k : ℕ) (kept : Kept) : Type 0 where
  pub room : HasRoom net kept
  pub units : (t : ℕ) → t ≤ k → units_at (length net.cells) t kept.units ≡ occupancies net.cells (letters_at plan.words) t
  pub delays : (t : ℕ) → t ≤ k → slice_index kept.delays t ≡ delay_of net.cells (letters_at plan.words) t

-- up to the horizon
abbrev pub Keeps : Net → Plan → Kept → Type 0
Keeps net plan kept = KeepsTo net plan net.steps kept

-- the plans show the same letters in each step before step k
abbrev pub ShowTheSame : Plan → Plan → ℕ → Type 0
ShowTheSame old new k = (t : ℕ) → t < k → letters_at old.words t ≡ letters_at new.words t

-- the first step at which the plans show different letters, or the horizon where there is none
pub record IsFirstChange (net : Net) (old new : Plan) (k : ℕ) : Type 0 where
  pub within : k ≤ net.steps
  pub same : ShowTheSame old new k
  pub changes : k < net.steps → letters_at old.words k ≢ letters_at new.words k
