-- Laws of what one move brings into a cell: nothing, unless it leads there, and at most the room.
use Rattle.std.proofs.Common.{◌≡◌, ◌≢◌, ◌⊎◌, inl, inr, ℕ, zero, suc, ◌-◌, ◌*◌, ◌/◌, ◌<◌, ◌≤◌, subst, List, [], ◌∷◌, map, length, get_or, slice_index, AllPairs, All, Contains, refl, ◌∙◌, sym, arith}
use Rattle.std.proofs.Math.Nat.{mul-le-mul_right, div-le_of_le-mul, le_trans}
use Rattle.std.proofs.lemmas.Bool.Decides.{eqb_tells}
use Rattle.std.proofs.lemmas.List.{length-map}
use Rattle.ct_base.specs.Access.{cell_of, targets}
use Rattle.ct_base.specs.Validity.{IsRoad, IsSplit}
use Rattle.ct_base.specs.declared.cell.Cell.{Cell}
use Rattle.ct_base.specs.declared.cell.Out.{Out}
use Rattle.ct_base.specs.declared.cell.Out.TheVariants.{Exit, To, Turns}
use Rattle.traffic_model.specs.Flow.{receiving, further_terms, parcel_to, share}
use Rattle.traffic_model.proofs.FlowLaws.{times_quotient}

-- ---- the room of a road cell

-- a part of the free storage is at most all of it
receiving_within : (p q free : ℕ) → 1 ≤ q → p ≤ q → p * free / q ≤ free
receiving_within p q free some part = div-le_of_le-mul q (mul-le-mul_right free part)

-- a valid road cell receives at most its free storage
pub receiving-le : (cell : Cell) (held : ℕ) → IsRoad cell → receiving cell held ≤ cell.store - held
receiving-le cell held road = receiving_within cell.wave_p cell.wave_q (cell.store - held) (omega arith) road.wave_p.1

-- ---- the parts of a parcel

-- a cell that no branch leads into gets nothing of a parcel
parcel_to-none : (j : ℕ) (branches : List (ℕ × ℕ)) → All (λ k. k ≢ j) (targets (Turns branches)) → parcel_to j branches ≡ 0
parcel_to-none j [] other = refl
parcel_to-none j (branch ∷ branches) other =
    elim (eqb_tells branch.0 j) [
      | inl same ↦ absurd (other 0 0 (omega arith) same.1)
      | inr differs ↦ rw (differs.0, parcel_to-none j branches (λ k d within. other (suc k) d (omega arith))) refl
    ]

-- what the branches of a diverge bring into a cell fits where each branch's part fits
parcel_to-fits : (j amount room : ℕ) (branches : List (ℕ × ℕ)) →
    AllPairs (λ k m. k ≢ m) (targets (Turns branches)) →
    ((branch : ℕ × ℕ) → branch.0 ≡ j → Contains branches branch → branch.1 * amount ≤ room) →
    parcel_to j branches * amount ≤ room
parcel_to-fits j amount room [] apart each = omega arith
parcel_to-fits j amount room (branch ∷ branches) apart each =
    elim (eqb_tells branch.0 j) [
      | inl same ↦
          let others : parcel_to j branches ≡ 0 = parcel_to-none j branches (λ k d within e. apart 0 (suc k) d (omega arith) (omega arith) (same.1 ∙ sym e)) in
          let here : branch.1 * amount ≤ room = each branch same.1 (0, omega arith, refl) in
          rw (same.0, others) (omega arith)
      | inr differs ↦
          let others : parcel_to j branches * amount ≤ room =
          parcel_to-fits j amount room branches (λ k m d before within. apart (suc k) (suc m) d (omega arith) (omega arith))
          (λ b to at. each b to (suc at.0, omega arith, at.2)) in
          rw differs.0 (omega arith)
    ]

-- ---- what one move brings into a cell

-- an element of a mapped list
get_or_map : (f : ℕ × ℕ → ℕ) (xs : List (ℕ × ℕ)) (k d : ℕ) (e : ℕ × ℕ) → k < length xs → get_or (map f xs) k d ≡ f (get_or xs k e)
get_or_map f [] k d e within = absurd (omega arith)
get_or_map f (x ∷ xs) zero d e within = refl
get_or_map f (x ∷ xs) (suc k) d e within = get_or_map f xs k d e (omega arith)

-- a number that is at most each term brings at most the room into a cell
pub brings_within : (cells : List Cell) (units : List ℕ) (i j : ℕ) (out : Out) (amount room : ℕ) → IsSplit out →
    receiving (cell_of cells j) (slice_index units j) ≤ room →
    ((k : ℕ) → k < length (further_terms cells units i out) → amount ≤ get_or (further_terms cells units i out) k 0) →
    share out j * amount ≤ room
brings_within cells units i j Exit amount room split fits each = omega arith
brings_within cells units i j (To b) amount room split fits each =
    elim (eqb_tells b j) [
      | inl same ↦
          let there : amount ≤ receiving (cell_of cells b) (slice_index units b) = each 1 (omega arith) in
          let here : amount ≤ receiving (cell_of cells j) (slice_index units j) = subst (λ m. amount ≤ receiving (cell_of cells m) (slice_index units m)) same.1 there in
          rw same.0 (omega arith)
      | inr differs ↦ rw differs.0 (omega arith)
    ]
brings_within cells units i j (Turns branches) amount room split fits each =
    let part = λ (branch : ℕ × ℕ). receiving (cell_of cells branch.0) (slice_index units branch.0) / branch.1 in
    parcel_to-fits j amount room branches split.1
    (λ branch to at.
    let there : amount ≤ get_or (map part branches) at.0 0 = each (suc at.0) (omega (arith, at.1, length-map branches part)) in
    let below : amount ≤ part branch = rw (get_or_map part branches at.0 0 branch at.1, at.2) at there in
    let here : amount ≤ receiving (cell_of cells j) (slice_index units j) / branch.1 = subst (λ m. amount ≤ receiving (cell_of cells m) (slice_index units m) / branch.1) to below in
    le_trans (times_quotient amount branch.1 (receiving (cell_of cells j) (slice_index units j)) here) fits)

-- ---- which moves lead into a cell

-- a parcel has nothing for a cell, or a branch leads into it
parcel_to_cases : (j : ℕ) (branches : List (ℕ × ℕ)) → (parcel_to j branches ≡ 0) ⊎ Contains (targets (Turns branches)) j
parcel_to_cases j [] = inl refl
parcel_to_cases j (branch ∷ branches) =
    elim (eqb_tells branch.0 j) [
      | inl same ↦ inr (0, omega arith, same.1)
      | inr differs ↦
          elim (parcel_to_cases j branches) [
            | inl none ↦ inl (rw (differs.0, none) refl)
            | inr at ↦ inr (suc at.0, omega (arith, at.1), at.2)
          ]
    ]

-- a move brings nothing into a cell, or it leads into it
pub share_cases : (out : Out) (j : ℕ) → (share out j ≡ 0) ⊎ Contains (targets out) j
share_cases Exit j = inl refl
share_cases (To b) j =
    elim (eqb_tells b j) [
      | inl same ↦ inr (0, omega arith, same.1)
      | inr differs ↦ inl (rw differs.0 refl)
    ]
share_cases (Turns branches) j = parcel_to_cases j branches
