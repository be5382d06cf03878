-- Laws of the flow out of a cell as the code computes it: the gate's bit, and the least of the terms.
use Rattle.std.proofs.Common.{◌≡◌, ℕ, zero, suc, ◌*◌, ◌/◌, ◌^◌, ◌<◌, ◌≤◌, inl, inr, min, Bool, true, false, if◌then◌else◌, nat_eq, List, [], ◌∷◌, map, fold, length, slice_index, All, bit_and, refl, ap, subst, ◌∙◌, sym, arith}
use Rattle.std.specs.Int.{bit_at}
use Rattle.std.proofs.Math.Nat.{div-mul-le_self, div-zero}
use Rattle.std.proofs.lemmas.Nat.{le-div}
use Rattle.std.proofs.lemmas.Bool.{cases_lt}
use Rattle.std.proofs.lemmas.List.{get_or-map, length-map}
use Rattle.std.proofs.lemmas.Nat.Bits.{shr_and_one, bit_at_above}
use Rattle.ct_base.specs.Access.{cell_of, parcel, targets}
use Rattle.ct_base.specs.declared.cell.Cell.{Cell}
use Rattle.ct_base.specs.declared.cell.Kind.TheVariants.{Road}
use Rattle.ct_base.specs.declared.cell.Out.{Out}
use Rattle.ct_base.specs.declared.cell.Out.TheVariants.{Exit, To, Turns}
use Rattle.ct_base.specs.declared.plan.Letter.{Letter}
use Rattle.traffic_model.specs.Flow.{is_open, least, receiving, cap_of, further_terms, flow, units_of_flow, outflow}
use Rattle.cell_replay.specs.Asked.{LeadToRoads}
use Rattle.cell_replay.specs.inner.Moves.{parcels_up_to, sent_by}

-- ---- the gate's bit

-- a set of eight has no member from 8 on
pub no_bit_past_eight : (n p : ℕ) → n < 2 ^ 8 → 8 ≤ p → nat_eq (bit_at n p) 1 ≡ false
no_bit_past_eight n p small past = rw (bit_at_above n 8 p small past) refl

-- the test of one bit by a shift
pub bit_by_shift : (n p : ℕ) → nat_eq (bit_and (n / 2 ^ p) 1) 1 ≡ nat_eq (bit_at n p) 1
bit_by_shift n p = rw shr_and_one refl

-- ---- the least of some numbers

-- a part of the least is the least of the parts
div-le : (a b c : ℕ) → a ≤ b → a / c ≤ b / c
div-le a b zero le = rw (div-zero a, div-zero b) (omega arith)
div-le a b (suc c) le = le-div (a / suc c) b (suc c) (omega arith) (omega (arith, div-mul-le_self a (suc c)))

min-div : (a b c : ℕ) → min a b / c ≡ min (a / c) (b / c)
min-div a b c =
    elim (cases_lt a b) [
      | inl lt ↦
          let e : min a b ≡ a = omega arith in
          let below : a / c ≤ b / c = div-le a b c (omega arith) in
          rw e (omega arith)
      | inr le ↦
          let e : min a b ≡ b = omega arith in
          let below : b / c ≤ a / c = div-le b a c le in
          rw e (omega arith)
    ]

-- a first number goes before the least of the others
fold_min-min : (xs : List ℕ) (a b : ℕ) → fold min (min a b) xs ≡ min a (fold min b xs)
fold_min-min [] a b = refl
fold_min-min (x ∷ xs) a b =
    let regroup : min (min a b) x ≡ min a (min b x) = omega arith in
    ap (λ m. fold min m xs) regroup ∙ fold_min-min xs a (min b x)

-- the least of pairs of terms is the least of the first terms and of the second ones
parcels-split : (cells : List Cell) (units : List ℕ) (branches : List (ℕ × ℕ)) (a b : ℕ) →
    parcels_up_to cells units branches (min a b)
    ≡ min
    (fold min a (map (λ (branch : ℕ × ℕ). (cell_of cells branch.0).cap / branch.1) branches))
    (fold min b (map (λ (branch : ℕ × ℕ). receiving (cell_of cells branch.0) (slice_index units branch.0) / branch.1) branches))
parcels-split cells units [] a b = refl
parcels-split cells units (branch ∷ branches) a b =
    let most : ℕ = (cell_of cells branch.0).cap in
    let room : ℕ = receiving (cell_of cells branch.0) (slice_index units branch.0) in
    let each : min most room / branch.1 ≡ min (most / branch.1) (room / branch.1) = min-div most room branch.1 in
    let regroup : min (min a b) (min most room / branch.1) ≡ min (min a (most / branch.1)) (min b (room / branch.1)) = omega arith in
    ap (λ m. parcels_up_to cells units branches m) regroup ∙ parcels-split cells units branches (min a (most / branch.1)) (min b (room / branch.1))

-- ---- what leaves a cell

-- the units that leave a cell by its out, where it is open or not
abbrev sent : List Cell → Cell → List ℕ → ℕ → Bool → Out → ℕ
sent cells cell units i may_leave out = units_of_flow out * least ((if may_leave then cap_of cells cell out else 0) ∷ further_terms cells units i out)

outflow-sent : (cells : List Cell) (letters : List Letter) (units : List ℕ) (i : ℕ) (cell : Cell) (out : Out) →
    cell ≡ cell_of cells i → is_open letters cell.gate ≡ true → cell.out ≡ out → outflow cells letters units i ≡ sent cells cell units i true out
unfolding flow outflow
outflow-sent cells letters units i cell out is may_leave leads =
    ap (λ (x : Cell). sent cells x units i (is_open letters x.gate) x.out) (sym is)
    ∙ ap (λ b. sent cells cell units i b cell.out) may_leave
    ∙ ap (λ o. sent cells cell units i true o) leads

-- by cases
sent_by-is : (cells : List Cell) (units : List ℕ) (i : ℕ) (cell : Cell) (out : Out) → sent cells cell units i true out ≡ sent_by cells units (min cell.cap (slice_index units i)) out
sent_by-is cells units i cell Exit = omega arith
sent_by-is cells units i cell (To b) = omega arith
sent_by-is cells units i cell (Turns branches) =
    let most : ℕ = cell.cap / parcel branches in
    let held : ℕ = slice_index units i / parcel branches in
    let caps : List ℕ = map (λ (branch : ℕ × ℕ). (cell_of cells branch.0).cap / branch.1) branches in
    let rooms : List ℕ = map (λ (branch : ℕ × ℕ). receiving (cell_of cells branch.0) (slice_index units branch.0) / branch.1) branches in
    let apart : fold min (min (fold min most caps) held) rooms ≡ min (fold min most caps) (fold min held rooms) = fold_min-min rooms (fold min most caps) held in
    let together : parcels_up_to cells units branches (min most held) ≡ min (fold min most caps) (fold min held rooms) = parcels-split cells units branches most held in
    ap (λ n. parcel branches * n) (apart ∙ sym together ∙ ap (λ m. parcels_up_to cells units branches m) (sym (min-div cell.cap (slice_index units i) (parcel branches))))

-- the outflow of an open cell, by its out
pub outflow-sent_by : (cells : List Cell) (letters : List Letter) (units : List ℕ) (i : ℕ) (cell : Cell) (out : Out) →
    cell ≡ cell_of cells i → is_open letters cell.gate ≡ true → cell.out ≡ out → outflow cells letters units i ≡ sent_by cells units (min cell.cap (slice_index units i)) out
outflow-sent_by cells letters units i cell out is may_leave leads = outflow-sent cells letters units i cell out is may_leave leads ∙ sent_by-is cells units i cell out

-- ---- where the branches of a diverge lead

pub lead_to_roads : (cells : List Cell) (branches : List (ℕ × ℕ)) (out : Out) → out ≡ Turns branches →
    All (λ k. (k < length cells) × ((cell_of cells k).kind ≡ Road)) (targets out) → LeadToRoads cells branches
lead_to_roads cells branches out leads each =
    λ k d below.
    let among : All (λ b. (b < length cells) × ((cell_of cells b).kind ≡ Road)) (targets (Turns branches)) =
    subst (λ (o : Out). All (λ b. (b < length cells) × ((cell_of cells b).kind ≡ Road)) (targets o)) leads each in
    subst (λ b. (b < length cells) × ((cell_of cells b).kind ≡ Road)) (get_or-map (λ (branch : ℕ × ℕ). branch.0) branches k d d.0 below) (among k d.0 (rw length-map below))
