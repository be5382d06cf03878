-- What the demand of a link tells of its faults.
use Rattle.std.proofs.Common.{◌≡◌, inl, inr, ℕ, ◌<◌, List, [], ◌∷◌, length, get_or, map, Some, None, Ok, Err, refl, ap, ◌∙◌, arith}
use Rattle.demand.specs.declared.piece.Piece.{Piece}
use Rattle.demand.specs.declared.fault.DemandFault.{DemandFault}
use Rattle.demand.specs.declared.fault.DemandFault.TheVariants.{Heavy, Range}
use Rattle.demand.specs.declared.fault.DemandFault.TheVariants as demand
use Rattle.demand.specs.Spread.{faults_of, heavy_at, rates_of, spread}
use Rattle.demand.proofs.DemandLaws.{length-rates_of, slice_index-rates_of}
use Rattle.refusals.specs.Faults.{unless}
use Rattle.refusals.specs.Memory.{OrMemory}
use Rattle.refusals.proofs.Items.{per_item_of_none}
use Rattle.refusals.proofs.Memory.{made_without_fault, refused_as_well}
use Rattle.std.proofs.lemmas.List.{get_or_default}
use Rattle.cell_build.specs.inner.Queues.{fault_of, queue_demand}
use Rattle.cell_build.specs.declared.fault.BuildFault.TheVariants.{Demand, Memory}

-- what is made of pieces without a fault is made of them as a link's
made_of_link : (k : ℕ) (faults : List DemandFault) (units rates : List ℕ) → Ok units ≡ unless faults rates → Ok units ≡ unless (map (Demand k) faults) rates
made_of_link k [] units rates is = ap Ok (cc)
made_of_link k (e ∷ faults) units rates is = absurd (cc)

-- the first fault of pieces is the first of a link with them
refused_of_link : (k : ℕ) (e : DemandFault) (faults : List DemandFault) (rates : List ℕ) → Err e ≡ unless faults rates → Err (Demand k e) ≡ unless (map (Demand k) faults) rates
refused_of_link k e [] rates is = absurd (cc)
refused_of_link k e (first ∷ faults) rates is = let same : e ≡ first = cc in ap (λ e. Err (Demand k e)) same

-- a demand that is given
pub demand_given : (k : ℕ) (pieces : List Piece) (steps : ℕ) (units : List ℕ) → OrMemory demand.Memory (spread pieces steps) (Ok units) → OrMemory Memory (unless (map (Demand k) (faults_of pieces steps)) (rates_of pieces steps)) (Ok units)
unfolding spread
demand_given k pieces steps units (inl is) = inl (made_of_link k (faults_of pieces steps) units (rates_of pieces steps) is)
demand_given k pieces steps units (inr wanting) = absurd (cc)

-- a demand that is refused, and want of memory
pub demand_refused : (k : ℕ) (pieces : List Piece) (steps : ℕ) (e : DemandFault) → OrMemory demand.Memory (spread pieces steps) (Err e) → OrMemory Memory (unless (map (Demand k) (faults_of pieces steps)) (rates_of pieces steps)) (Err (fault_of k e))
unfolding spread
demand_refused k pieces steps demand.Memory refused = inr refl
demand_refused k pieces steps (Range piece) (inl is) = inl (refused_of_link k (Range piece) (faults_of pieces steps) (rates_of pieces steps) is)
demand_refused k pieces steps (Heavy step) (inl is) = inl (refused_of_link k (Heavy step) (faults_of pieces steps) (rates_of pieces steps) is)
demand_refused k pieces steps e (inr wanting) = inr (let same : e ≡ demand.Memory = cc in ap (λ e. Err (fault_of k e)) same)

-- where there is no piece, no step is heavy
none_of_none : (steps : ℕ) → faults_of [] steps ≡ []
unfolding faults_of
none_of_none steps = per_item_of_none (rates_of [] steps) heavy_at (λ t d within.
    let rates = rates_of [] steps in
    let there : t < steps = rw (length-rates_of [] steps) at within in
    let units : get_or rates t d ≡ 0 = get_or_default rates t d 0 within ∙ slice_index-rates_of [] steps t there in
    rw units)

-- no pieces are no demand, and have no fault
pub no_piece_no_demand : (pieces : List Piece) (steps k : ℕ) → length pieces ≡ 0 → Ok None ≡ unless (map (Demand k) (faults_of pieces steps)) (queue_demand steps pieces)
no_piece_no_demand [] steps k none = rw (none_of_none steps)
no_piece_no_demand (piece ∷ pieces) steps k none = absurd (omega arith)

-- the sum of pieces is the demand of the queue
pub sum_is_demand : (k : ℕ) (pieces : List Piece) (steps : ℕ) (units : List ℕ) → 0 < length pieces →
    OrMemory Memory (unless (map (Demand k) (faults_of pieces steps)) (rates_of pieces steps)) (Ok units) → OrMemory Memory (unless (map (Demand k) (faults_of pieces steps)) (queue_demand steps pieces)) (Ok (Some units))
sum_is_demand k [] steps units some sum = absurd (omega arith)
sum_is_demand k (piece ∷ pieces) steps units some sum =
    let made = made_without_fault Memory (map (Demand k) (faults_of (piece ∷ pieces) steps)) (rates_of (piece ∷ pieces) steps) units sum in
    inl (rw (made.0, made.1) refl)

-- what the sum of a link's pieces makes of it
pub ruleset part_steps = (refused_as_well, sum_is_demand)
