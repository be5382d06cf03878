-- The seeds of small networks, worked by hand (docs/search.md, "The seed").
use Rattle.std.proofs.Common.{◌≡◌, refl, ℕ, [], ◌∷◌, None}
use Rattle.std.specs.Prelude.{pos, negsuc}
use Rattle.listed.specs.Below.{join_below, sum_below, table_of}
use Rattle.ct_base.specs.declared.cell.Cell.{Cell}
use Rattle.ct_base.specs.declared.cell.Kind.TheVariants.{Queue, Road}
use Rattle.ct_base.specs.declared.cell.Out.{Out}
use Rattle.ct_base.specs.declared.cell.Out.TheVariants.{Exit, To, Turns}
use Rattle.ct_base.specs.declared.net.Net.{Net}
use Rattle.program_model.specs.RuleRows.{rule_rows}
use Rattle.seed_prices.specs.Seed.{seed_at, seed_of}

-- a road cell with no gate
abbrev road : ℕ → ℕ → Out → Cell
road wave_q initial out = record { kind = Road; cap = 6; store = 9; wave_p = 1; wave_q = wave_q; gate = None; out = out; initial = initial; demand = [] }

-- a diverge of parcels of two units and one, over one step: its floors, its switches, four lower rows and four upper rows
abbrev diverge : Net
diverge = record { steps = 1; cells = road 1 5 (Turns ((1, 2) ∷ (2, 1) ∷ [])) ∷ road 1 0 Exit ∷ road 1 0 Exit ∷ []; signals = [] }

pub diverge_seed : seed_of diverge ≡
    negsuc 1023 ∷ pos 0 ∷ pos 0 ∷ pos 0 ∷ pos 3072 ∷ pos 0 ∷ pos 0 ∷ pos 0 ∷ pos 0 ∷ pos 0 ∷ pos 0
    ∷ pos 0 ∷ pos 0 ∷ pos 1024 ∷ pos 0 ∷ pos 0
    ∷ pos 0 ∷ pos 0 ∷ pos 1024 ∷ pos 0 ∷ pos 0
    ∷ []
unfolding join_below sum_below table_of rule_rows seed_at seed_of
diverge_seed = refl

-- a queue that leads into a cell whose room is a column, over two steps: the row of that room stands before those of the cell's move
abbrev queue : Cell
queue = record { kind = Queue; cap = 2; store = 0; wave_p = 1; wave_q = 1; gate = None; out = To 1; initial = 0; demand = 2 ∷ 0 ∷ [] }

abbrev narrow : Net
narrow = record { steps = 2; cells = queue ∷ road 2 0 Exit ∷ []; signals = [] }

pub narrow_seed : seed_at narrow 1 0 ≡ pos 0 ∷ pos 0 ∷ pos 1024 ∷ pos 0 ∷ pos 0 ∷ pos 0 ∷ pos 0 ∷ []
unfolding join_below sum_below table_of seed_at
narrow_seed = refl

pub narrow_seed_of_room : seed_at narrow 0 1 ≡ pos 0 ∷ pos 0 ∷ pos 0 ∷ pos 1024 ∷ pos 0 ∷ pos 0 ∷ pos 0 ∷ []
unfolding join_below sum_below table_of seed_at
narrow_seed_of_room = refl
