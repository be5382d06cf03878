-- The rows of floors that are added are the network's, and they fit into a program.
use Rattle.std.proofs.Common.{◌≡◌, inl, inr, ℕ, suc, ◌+◌, ◌*◌, ◌<◌, ◌≤◌, List, [], ◌∷◌, ◌++◌, length, map, All, get_or, ap, subst, ◌∙◌, sym, add-one, arith, rules, w64}
use Rattle.std.specs.Prelude.{ℤ, pos, neg_ℤ, ◌*ℤ◌, unsigned_abs, slice_index_or}
use Rattle.std.proofs.lemmas.Bool.{cases_Bool}
use Rattle.std.proofs.lemmas.Int.{ints, to_z-of_z}
use Rattle.std.proofs.lemmas.List.Elements.{All-cons, All-nil}
use Rattle.std.proofs.lemmas.List.{get_or_default}
use Rattle.std.proofs.lemmas.Nat.{mul-le}
use Rattle.listed.specs.Below.{join_below}
use Rattle.listed.proofs.JoinLaws.{join_below-cons, join_below-same, join_below-zero}
use Rattle.ct_base.specs.Access.{cell_of, parcel}
use Rattle.ct_base.specs.Validity.{IsOfKind, IsSplit, IsValid}
use Rattle.ct_base.specs.declared.cell.Cell.{Cell}
use Rattle.ct_base.specs.declared.cell.Kind.{Kind}
use Rattle.ct_base.specs.declared.cell.Kind.TheVariants.{Queue, Road}
use Rattle.ct_base.specs.declared.cell.Out.{Out}
use Rattle.ct_base.specs.declared.cell.Out.TheVariants.{Turns}
use Rattle.ct_base.specs.declared.net.Net.{Net}
use Rattle.traffic_model.specs.Flow.{units_of_flow}
use Rattle.sparse_program.specs.Program.{Begun}
use Rattle.sparse_program.specs.Terms.{IsSmall, weight}
use Rattle.sparse_program.specs.declared.row.Linear.{Linear}
use Rattle.sparse_program.specs.declared.row.Row.{Row}
use Rattle.flow_switches.specs.Conditions.{FloorFits}
use Rattle.flow_switches.specs.Sums.{held, sum_of}
use Rattle.program_model.specs.Columns.{Column, Units, has_room}
use Rattle.program_model.specs.FlowRows.{branch_rows, branches_rows, room}
use Rattle.program_model.specs.Numbers.{number_of}
use Rattle.program_model.specs.Rows.{Sum, SumRow, column}
use Rattle.program_model.specs.Sparse.{by_number, sparse}
use Rattle.program_model.specs.SwitchRows.{floor_row}
use Rattle.program_model.proofs.PlanMoves.{IsLedInto, turn_is_led_into}
use Rattle.lo_program.specs.inner.Adding.{Adds, Below, Fits}
use Rattle.lo_program.specs.inner.Floors.{free_storage}
use Rattle.lo_program.proofs.ConservationLaws.{units_small}
use Rattle.lo_program.proofs.Numbered.{numbered, numbered-floor}
use mir.Val.{SFits, of_z, to_z}

-- ---- one floor

-- an expression is a sum by the numbers of its columns
sum_is : (net : Net) (of : Sum Column) (linear : Linear) → linear.constant ≡ of.constant → linear.terms ≡ by_number (number_of net) of.terms → sum_of linear ≡ numbered (number_of net) of
sum_is net of linear constant terms =
    ap (λ (z : ℤ). (let sum : Sum ℕ = record { constant = z; terms = linear.terms } in sum)) constant
    ∙ ap (λ (xs : List (ℕ × ℤ)). (let sum : Sum ℕ = record { constant = of.constant; terms = xs } in sum)) terms

-- the row of such an expression is the network's
pub floor_added : (net : Net) (old new : Begun) (whole rest : Column) (divisor : ℕ) (of : Sum Column) (w r : ℕ) (z : ℤ) (linear : Linear) → w ≡ number_of net whole → r ≡ number_of net rest → z ≡ pos divisor →
    linear.constant ≡ of.constant → linear.terms ≡ by_number (number_of net) of.terms →
    new ≡ record old { rows = old.rows ++ held (floor_row w r (unsigned_abs z) (sum_of linear)) ∷ [] } → Adds net old new (floor_row whole rest divisor of ∷ [])
floor_added net old new whole rest divisor of w r z linear is_whole is_rest is_divisor constant terms added =
    let row : held (floor_row w r (unsigned_abs z) (sum_of linear)) ≡ sparse (number_of net) (floor_row whole rest divisor of) =
    ap (λ (sum : Sum ℕ). held (floor_row w r (unsigned_abs z) sum)) (sum_is net of linear constant terms)
    ∙ ap (λ (k : ℤ). held (floor_row w r (unsigned_abs k) (numbered (number_of net) of))) is_divisor
    ∙ ap (λ (c : ℕ). held (floor_row c r divisor (numbered (number_of net) of))) is_whole
    ∙ ap (λ (c : ℕ). held (floor_row (number_of net whole) c divisor (numbered (number_of net) of))) is_rest
    ∙ sym (numbered-floor (number_of net) whole rest divisor of) in
    record { all = added ∙ ap (λ (one : Row). record old { rows = old.rows ++ one ∷ [] }) row }

-- the columns of a sum that is taken away so many times
times_there : (net : Net) (count : ℕ) (k : ℤ) (terms : List (Column × ℤ)) → Below net count (map (λ (term : Column × ℤ). (term.0, k *ℤ term.1)) terms) →
    All (λ (term : ℕ × ℤ). term.0 < count) (by_number (number_of net) terms)
times_there net count k [] each = All-nil (λ (term : ℕ × ℤ). term.0 < count)
times_there net count k (term ∷ terms) each =
    All-cons (λ (other : ℕ × ℤ). other.0 < count) (number_of net term.0, term.1) (by_number (number_of net) terms) each.0 (times_there net count k terms each.1)

-- a sum of one column that weighs little, and whose constant is small
pub record IsLight (net : Net) (of : Sum Column) : Type 0 where
  pub few : length (by_number (number_of net) of.terms) ≤ 1
  pub light : weight (by_number (number_of net) of.terms) ≤ 100
  pub constant : IsSmall of.constant

-- the row of such a sum fits
pub floor_fits : (net : Net) (program : Begun) (whole rest : Column) (divisor : ℕ) (of : Sum Column) (w r : ℕ) (z : ℤ) (linear : Linear) → Fits net program (floor_row whole rest divisor of ∷ []) →
    w ≡ number_of net whole → r ≡ number_of net rest → z ≡ pos divisor → linear.constant ≡ of.constant → linear.terms ≡ by_number (number_of net) of.terms →
    divisor ≤ 400 → IsLight net of → FloorFits program w r z linear
floor_fits net program whole rest divisor of w r z linear fits is_whole is_rest is_divisor constant terms small light =
    record {
      whole_there = omega (arith, is_whole, fits.there.0.0);
      rest_there = omega (arith, is_rest, fits.there.0.1.0);
      there = rw terms (times_there net (length program.columns) (neg_ℤ (pos 1)) of.terms fits.there.0.1.1);
      not_negative = rw is_divisor (omega (arith, ints));
      few = rw terms (omega (arith, light.few));
      light = rw (terms, is_divisor) (omega (arith, light.light, small));
      constant = rw constant light.constant;
      room = omega (arith, fits.few);
    }

-- the rest's number is small
pub rest_below : (net : Net) (program : Begun) (whole rest : Column) (divisor : ℕ) (of : Sum Column) → Fits net program (floor_row whole rest divisor of ∷ []) → number_of net rest < length program.columns
rest_below net program whole rest divisor of fits = fits.there.0.1.0

-- a small number as the machine holds it
pub as_held : (z : ℤ) (n : ℕ) → z ≡ pos n → n ≤ 400 → to_z w64 (of_z w64 z) ≡ pos n
as_held z n is small =
    let range : SFits w64 (pos n) = search (rules, small) in
    ap (λ (y : ℤ). to_z w64 (of_z w64 y)) is ∙ to_z-of_z w64 (pos n) range

-- ---- the sums

-- the storage and the wave ratio of a cell
pub record IsSmallCell (cell : Cell) : Type 0 where
  pub store : cell.store ≤ 10000
  pub wave_p : cell.wave_p ≤ 100
  pub wave_q : cell.wave_q ≤ 100

small_of_kind : (steps : ℕ) (kind : Kind) (cell : Cell) → IsOfKind kind steps cell → IsSmallCell cell
small_of_kind steps Queue cell valid = record { store = omega (arith, valid.store); wave_p = omega (arith, valid.wave_p); wave_q = omega (arith, valid.wave_q) }
small_of_kind steps Road cell valid = record { store = omega (arith, valid.store); wave_p = omega (arith, valid.wave_p, valid.wave_q); wave_q = omega (arith, valid.wave_q) }

pub small_cell : (net : Net) (i : ℕ) → IsValid net → i < length net.cells → IsSmallCell (cell_of net.cells i)
small_cell net i valid inside = small_of_kind net.steps (cell_of net.cells i).kind (cell_of net.cells i) (valid.each_cell i inside).kind

-- a parcel
pub small_parcel : (net : Net) (i : ℕ) (branches : List (ℕ × ℕ)) → IsValid net → i < length net.cells → (cell_of net.cells i).out ≡ Turns branches → parcel branches ≤ 400
small_parcel net i branches valid inside is =
    subst (λ (out : Out). units_of_flow out ≤ 400) is (units_small (cell_of net.cells i).out (valid.each_cell i inside).split)

-- a branch leads into a cell, and takes few units of a parcel
pub record IsBranch (net : Net) (branch : ℕ × ℕ) : Type 0 where
  pub there : branch.0 < length net.cells
  pub few : branch.1 ≤ 400

pub is_branch : (net : Net) (i : ℕ) (branches : List (ℕ × ℕ)) (k : ℕ) → IsValid net → i < length net.cells → (cell_of net.cells i).out ≡ Turns branches → k < length branches → IsBranch net (slice_index_or branches k (0, 0))
is_branch net i branches k valid inside is within =
    let split : IsSplit (Turns branches) = subst IsSplit is (valid.each_cell i inside).split in
    let led : IsLedInto net (get_or branches k (0, 1)).0 = turn_is_led_into net i branches k valid inside is within in
    let same : get_or branches k (0, 1) ≡ get_or branches k (0, 0) = get_or_default branches k (0, 1) (0, 0) within in
    record {
      there = subst (λ (branch : ℕ × ℕ). branch.0 < length net.cells) same led.within;
      few = omega (arith, (split.2 k (0, 0) within).1);
    }

-- the free storage
pub free_light : (net : Net) (t i : ℕ) → IsValid net → i < length net.cells → IsLight net (free_storage net.cells t i)
free_light net t i valid inside =
    let cell : Cell = cell_of net.cells i in
    let small : IsSmallCell cell = small_cell net i valid inside in
    let most : cell.wave_p * (cell.store + 0) ≤ 100 * 10000 = mul-le cell.wave_p (cell.store + 0) 100 10000 small.wave_p (omega (arith, small.store)) in
    record {
      few = omega arith;
      light = omega (arith, ints, small.wave_p);
      constant = omega (arith, most);
    }

-- the units
pub units_light : (net : Net) (t i : ℕ) → IsLight net (column (Units t i))
units_light net t i = record { few = omega arith; light = omega arith; constant = omega arith }

-- the room
pub room_light : (net : Net) (t b : ℕ) → IsValid net → b < length net.cells → IsLight net (room net.cells t b)
room_light net t b valid inside =
    let small : IsSmallCell (cell_of net.cells b) = small_cell net b valid inside in
    elim (cases_Bool (has_room net.cells b)) [
      | inl has ↦ rw has (record { few = omega arith; light = omega arith; constant = omega arith })
      | inr none ↦ rw none (record { few = omega arith; light = omega (arith, ints); constant = omega (arith, ints, small.store) })
    ]

-- ---- branches

-- the rows of branch k
abbrev pub rows_of_branch : List Cell → ℕ → ℕ → List (ℕ × ℕ) → ℕ → List (SumRow Column)
rows_of_branch cells t i branches k = branch_rows cells t i k (slice_index_or branches k (0, 0))

-- those of branches, of which the first has number m
branches_from : (cells : List Cell) (t i m : ℕ) (branches : List (ℕ × ℕ)) → branches_rows cells t i m branches ≡ join_below (length branches) (λ k. branch_rows cells t i (m + k) (slice_index_or branches k (0, 0)))
branches_from cells t i m [] = sym (join_below-zero (λ k. branch_rows cells t i (m + k) (slice_index_or [] k (0, 0))))
branches_from cells t i m (branch ∷ branches) =
    let n : ℕ = length branches in
    let f : ℕ → List (SumRow Column) = λ k. branch_rows cells t i (m + k) (slice_index_or (branch ∷ branches) k (0, 0)) in
    let first : m ≡ m + 0 = omega arith in
    let later : join_below n (λ k. branch_rows cells t i (m + 1 + k) (slice_index_or branches k (0, 0))) ≡ join_below n (λ k. f (k + 1)) =
    join_below-same n (λ k. branch_rows cells t i (m + 1 + k) (slice_index_or branches k (0, 0))) (λ k. f (k + 1))
    (λ k inside.
    let at : m + 1 + k ≡ m + suc k = omega arith in
    let next : suc k ≡ k + 1 = omega arith in
    ap (λ j. branch_rows cells t i j (slice_index_or branches k (0, 0))) at ∙ ap f next) in
    ap (λ (rows : List (SumRow Column)). branch_rows cells t i m branch ++ rows) (branches_from cells t i (m + 1) branches ∙ later)
    ∙ ap (λ j. branch_rows cells t i j branch ++ join_below n (λ k. f (k + 1))) first
    ∙ sym (join_below-cons n f) ∙ ap (λ j. join_below j f) (add-one n)

-- branch by branch
pub branches_are : (cells : List Cell) (t i : ℕ) (branches : List (ℕ × ℕ)) → branches_rows cells t i 0 branches ≡ join_below (length branches) (rows_of_branch cells t i branches)
branches_are cells t i branches =
    branches_from cells t i 0 branches
    ∙ join_below-same (length branches) (λ k. branch_rows cells t i (0 + k) (slice_index_or branches k (0, 0))) (rows_of_branch cells t i branches)
    (λ k inside. let at : 0 + k ≡ k = omega arith in ap (λ j. branch_rows cells t i j (slice_index_or branches k (0, 0))) at)
