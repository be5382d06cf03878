-- Laws of what passes from one cell into others: at most what left, and at a diverge branch by branch.
use Rattle.std.proofs.Common.{◌≡◌, ◌≢◌, ℕ, ◌+◌, ◌*◌, ◌/◌, ◌<◌, ◌≤◌, inl, inr, Bool, true, false, if◌then◌else◌, nat_eq, List, [], ◌∷◌, ◌++◌, length, get_or, set, take, slice_index, refl, ap, ◌∙◌, sym, arith, eq-eqb, ne_eqb, get_or-set_same, get_or-set_other}
use Rattle.std.proofs.Math.Nat.{mul-div-le, mul-le-mul_right}
use Rattle.std.proofs.lemmas.Bool.{cases_eq}
use Rattle.std.proofs.lemmas.List.{take_more}
use Rattle.std.proofs.lemmas.Nat.{mul-le}
use Rattle.std.proofs.lemmas.List.Sums.{sum_by-cons}
use Rattle.ct_base.specs.Access.{parcel}
use Rattle.ct_base.specs.declared.cell.Out.{Out}
use Rattle.ct_base.specs.declared.cell.Out.TheVariants.{Exit, To, Turns}
use Rattle.traffic_model.specs.Flow.{parcel_to, share, units_of_flow}
use Rattle.cell_replay.specs.inner.Moves.{passed}

-- ---- at most what left

-- what a test admits of a number
admitted : (test : Bool) (n : ℕ) → (if test then n else 0) ≤ n
admitted true n = omega arith
admitted false n = omega arith

-- a cell gets at most the whole parcel
parcel_to-le : (j : ℕ) (branches : List (ℕ × ℕ)) → parcel_to j branches ≤ parcel branches
parcel_to-le j [] = omega arith
parcel_to-le j (branch ∷ branches) =
    rw (sum_by-cons (λ (b : ℕ × ℕ). b.1) branch branches) (omega (arith, parcel_to-le j branches, admitted (nat_eq branch.0 j) branch.1))

share-le : (out : Out) (j : ℕ) → share out j ≤ units_of_flow out
share-le Exit j = omega arith
share-le (To b) j = admitted (nat_eq b j) 1
share-le (Turns branches) j = parcel_to-le j branches

pub passed-le : (out : Out) (units j : ℕ) → passed out units j ≤ units
passed-le out units j =
    omega (arith, mul-le-mul_right (units / units_of_flow out) (share-le out j), mul-div-le units (units_of_flow out))

-- ---- branch by branch

-- one branch more
parcel_to-push : (j : ℕ) (branches : List (ℕ × ℕ)) (branch : ℕ × ℕ) →
    parcel_to j (branches ++ branch ∷ []) ≡ parcel_to j branches + (if nat_eq branch.0 j then branch.1 else 0)
parcel_to-push j [] branch = omega arith
parcel_to-push j (b ∷ branches) branch = omega (arith, parcel_to-push j branches branch)

-- what one branch more brings each cell
brought : (units : List ℕ) (target amount parcels j : ℕ) → target < length units →
    get_or (set units target (get_or units target 0 + amount * parcels)) j 0 ≡ get_or units j 0 + (if nat_eq target j then amount else 0) * parcels
brought units target amount parcels j within =
    elim (cases_eq target j) [
      | inl e ↦ rw (← e) (rw (get_or-set_same units target (get_or units target 0 + amount * parcels) 0 within, eq-eqb target target refl) refl)
      | inr ne ↦
          let other : j ≢ target = λ e. ne (sym e) in
          rw (get_or-set_other units target j (get_or units target 0 + amount * parcels) 0 other, ne_eqb target j ne) (omega arith)
    ]

pub spread_more : (units start : List ℕ) (branches : List (ℕ × ℕ)) (i parcels j : ℕ) (branch : ℕ × ℕ) →
    branch ≡ get_or branches i (0, 0) → i < length branches → branch.0 < length units →
    slice_index units j ≡ slice_index start j + parcel_to j (take i branches) * parcels →
    slice_index (set units branch.0 (get_or units branch.0 0 + branch.1 * parcels)) j ≡ slice_index start j + parcel_to j (take (i + 1) branches) * parcels
spread_more units start branches i parcels j branch is within there before =
    let longer : take (i + 1) branches ≡ take i branches ++ branch ∷ [] = take_more branches i (0, 0) within ∙ ap (λ b. take i branches ++ b ∷ []) (sym is) in
    let more : parcel_to j (take (i + 1) branches) ≡ parcel_to j (take i branches) + (if nat_eq branch.0 j then branch.1 else 0) =
    ap (parcel_to j) longer ∙ parcel_to-push j (take i branches) branch in
    let step : slice_index (set units branch.0 (get_or units branch.0 0 + branch.1 * parcels)) j ≡ slice_index units j + (if nat_eq branch.0 j then branch.1 else 0) * parcels =
    brought units branch.0 branch.1 parcels j there in
    rw more (omega arith)

-- a number that was added to, and the others, stay within a bound that is one step more
pub spread_within : (units : List ℕ) (target amount parcels j bound : ℕ) → target < length units →
    amount ≤ 100 → parcels ≤ 1000 → slice_index units j ≤ bound →
    slice_index (set units target (get_or units target 0 + amount * parcels)) j ≤ bound + 100000
spread_within units target amount parcels j bound there few small before =
    let step : slice_index (set units target (get_or units target 0 + amount * parcels)) j ≡ slice_index units j + (if nat_eq target j then amount else 0) * parcels =
    brought units target amount parcels j there in
    let most : (if nat_eq target j then amount else 0) * parcels ≤ amount * parcels = mul-le-mul_right parcels (admitted (nat_eq target j) amount) in
    let product : amount * parcels ≤ 100 * 1000 = mul-le amount parcels 100 1000 few small in
    rw step (omega arith)
