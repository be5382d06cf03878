-- Demand as it arrives step by step (docs/network-file.md, "Demand").
use Rattle.std.specs.Prelude.{ℕ, Bool, ◌&&◌, ◌||◌, nat_lt, nat_le, if◌then◌else◌, List, ◌++◌, Result, sum_by}
use Rattle.listed.specs.Below.{table_of}
use Rattle.refusals.specs.Faults.{per_item, unless, where_so}
use Rattle.demand.specs.declared.piece.Piece.{Piece}
use Rattle.demand.specs.declared.fault.DemandFault.{DemandFault}
use Rattle.demand.specs.declared.fault.DemandFault.TheVariants.{Range, Heavy}

-- the piece holds step t
abbrev pub holds : Piece → ℕ → Bool
holds piece t = nat_le piece.first t && nat_lt t piece.until

-- what arrives at the end of step t: the rates of all pieces that hold it, added up
abbrev pub rate_at : List Piece → ℕ → ℕ
rate_at pieces t = sum_by (λ (piece : Piece). if holds piece t then piece.rate else 0) pieces

-- the demand of each step
unfoldable pub rates_of : List Piece → ℕ → List ℕ
rates_of pieces steps = table_of steps (rate_at pieces)

-- range: the piece holds no step, or ends past the horizon
abbrev pub range_at : ℕ → ℕ → Piece → List DemandFault
range_at steps j piece = where_so (nat_le piece.until piece.first || nat_lt steps piece.until) (Range j)

-- heavy: more than 1000 units arrive in step t
abbrev pub heavy_at : ℕ → ℕ → List DemandFault
heavy_at t units = where_so (nat_lt 1000 units) (Heavy t)

-- pieces out of range, and then steps of too many units
unfoldable pub faults_of : List Piece → ℕ → List DemandFault
faults_of pieces steps = per_item pieces (range_at steps) ++ per_item (rates_of pieces steps) heavy_at

-- the demand of each step, or the first fault
unfoldable pub spread : List Piece → ℕ → Result (List ℕ) DemandFault
spread pieces steps = unless (faults_of pieces steps) (rates_of pieces steps)
