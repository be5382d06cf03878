-- Delays that were worked by hand (docs/traffic.md, "Worked by hand"), which the definitions compute.
use Rattle.std.proofs.Common.{◌≡◌, ℕ, List, [], ◌∷◌, Some, None, refl}
use Rattle.listed.specs.Below.{sum_below, table_of}
use Rattle.ct_base.specs.declared.cell.Cell.{Cell}
use Rattle.ct_base.specs.declared.cell.Kind.TheVariants.{Queue, Road}
use Rattle.ct_base.specs.declared.cell.Out.{Out}
use Rattle.ct_base.specs.declared.cell.Out.TheVariants.{Exit, To, Turns}
use Rattle.ct_base.specs.declared.plan.Letter.{Letter}
use Rattle.ct_base.specs.declared.plan.Letter.TheVariants.{Green}
use Rattle.traffic_model.specs.Flow.{flow, outflow, inflow, first_least_term}
use Rattle.traffic_model.specs.Occupancy.{initial_units, next_of, next_units, occupancies}
use Rattle.traffic_model.specs.Delay.{step_delay, delay_of, left_of, letters_at}

-- a queue before a cell, and a road cell with no gate
abbrev queue_into : ℕ → ℕ → List ℕ → Cell
queue_into cap b demand = record { kind = Queue; cap = cap; store = 0; wave_p = 1; wave_q = 1; gate = None; out = To b; initial = 0; demand = demand }

abbrev road : ℕ → ℕ → ℕ → ℕ → ℕ → Out → Cell
road cap store p q initial out = record { kind = Road; cap = cap; store = store; wave_p = p; wave_q = q; gate = None; out = out; initial = initial; demand = [] }

-- no signal
abbrev no_letters : ℕ → List Letter
no_letters t = []

-- one link of two cells, into which two units come in each of the steps 0 and 1
abbrev one_link : List Cell
one_link = queue_into 2 1 (2 ∷ 2 ∷ 0 ∷ 0 ∷ 0 ∷ []) ∷ road 2 4 1 1 0 (To 2) ∷ road 2 4 1 1 0 Exit ∷ []

pub one_link_delay : delay_of one_link no_letters 5 ≡ 0
unfolding sum_below table_of flow outflow inflow initial_units next_of next_units occupancies step_delay delay_of
one_link_delay = refl

pub one_link_left : left_of one_link no_letters 5 ≡ 0
unfolding sum_below table_of flow outflow inflow initial_units next_of next_units occupancies left_of
one_link_left = refl

-- two links, of which the second takes one unit a step and sends waves back at half the free-flow speed
abbrev bottleneck : List Cell
bottleneck = queue_into 2 1 (2 ∷ 0 ∷ 0 ∷ 0 ∷ 0 ∷ 0 ∷ []) ∷ road 2 4 1 1 0 (To 2) ∷ road 1 2 1 2 0 Exit ∷ []

pub bottleneck_delay : delay_of bottleneck no_letters 6 ≡ 2
unfolding sum_below table_of flow outflow inflow initial_units next_of next_units occupancies step_delay delay_of
bottleneck_delay = refl

pub bottleneck_delay_of_3_steps : delay_of bottleneck no_letters 3 ≡ 1
unfolding sum_below table_of flow outflow inflow initial_units next_of next_units occupancies step_delay delay_of
bottleneck_delay_of_3_steps = refl

pub bottleneck_left : left_of bottleneck no_letters 6 ≡ 0
unfolding sum_below table_of flow outflow inflow initial_units next_of next_units occupancies left_of
bottleneck_left = refl

-- five units before a diverge, which sends whole parcels of three
abbrev diverge : List Cell
diverge = road 6 9 1 1 5 (Turns ((1, 2) ∷ (2, 1) ∷ [])) ∷ road 6 9 1 1 0 Exit ∷ road 6 9 1 1 0 Exit ∷ []

pub diverge_delay : delay_of diverge no_letters 2 ≡ 4
unfolding sum_below table_of flow outflow inflow initial_units next_of next_units occupancies step_delay delay_of
diverge_delay = refl

pub diverge_left : left_of diverge no_letters 2 ≡ 2
unfolding sum_below table_of flow outflow inflow initial_units next_of next_units occupancies left_of
diverge_left = refl

-- two approaches with one unit each, which a signal lets into one cell in turn
abbrev approach : ℕ → Cell
approach greens = record { kind = Road; cap = 1; store = 2; wave_p = 1; wave_q = 1; gate = Some (record { signal = 0; greens = greens }); out = To 2; initial = 1; demand = [] }

abbrev crossing : List Cell
crossing = approach 1 ∷ approach 2 ∷ road 1 2 1 1 0 Exit ∷ []

-- the letters of one signal
abbrev shown : List Letter → ℕ → List Letter
shown word = letters_at (word ∷ [])

pub crossing_delay_aba : delay_of crossing (shown (Green 0 ∷ Green 1 ∷ Green 0 ∷ [])) 3 ≡ 1
unfolding letters_at sum_below table_of flow outflow inflow initial_units next_of next_units occupancies step_delay delay_of
crossing_delay_aba = refl

pub crossing_delay_abb : delay_of crossing (shown (Green 0 ∷ Green 1 ∷ Green 1 ∷ [])) 3 ≡ 1
unfolding letters_at sum_below table_of flow outflow inflow initial_units next_of next_units occupancies step_delay delay_of
crossing_delay_abb = refl

pub crossing_delay_aab : delay_of crossing (shown (Green 0 ∷ Green 0 ∷ Green 1 ∷ [])) 3 ≡ 2
unfolding letters_at sum_below table_of flow outflow inflow initial_units next_of next_units occupancies step_delay delay_of
crossing_delay_aab = refl

pub crossing_left_aab : left_of crossing (shown (Green 0 ∷ Green 0 ∷ Green 1 ∷ [])) 3 ≡ 1
unfolding letters_at sum_below table_of flow outflow inflow initial_units next_of next_units occupancies left_of
crossing_left_aab = refl

-- at step 0 the cap and the units held are both 1, and the first of them decides
pub crossing_first_least : first_least_term crossing (Green 0 ∷ []) (1 ∷ 1 ∷ 0 ∷ []) 0 ≡ 0
crossing_first_least = refl
