-- Each column of a program stands in the list of columns at its number: the whole law.
use Rattle.std.proofs.Common.{◌≡◌, inl, inr, ℕ, zero, suc, ◌+◌, ◌<◌, true, List, [], ◌∷◌, length, get_or, slice_index_or, refl, ap, ◌∙◌, sym, arith}
use Rattle.std.specs.Prelude.{if◌then◌else◌, nat_lt}
use Rattle.std.proofs.lemmas.Bool.{cases_Bool, lt-ltb}
use Rattle.std.proofs.lemmas.List.{get_or-append-add, get_or_append_left, length-append}
use Rattle.listed.specs.Below.{sum_below}
use Rattle.listed.proofs.TableLaws.{get_or-table_of}
use Rattle.ct_base.specs.Access.{cell_of}
use Rattle.ct_base.specs.declared.cell.Cell.{Cell}
use Rattle.ct_base.specs.declared.cell.Out.{Out}
use Rattle.ct_base.specs.declared.cell.Out.TheVariants.{Exit, To, Turns}
use Rattle.ct_base.specs.declared.net.Net.{Net}
use Rattle.program_model.specs.Columns.{BranchRest, BranchRoom, Bit, Column, Flow, Parcels, ParcelsRest, Room, RoomRest, Switch, Units, columns, columns_of_branch, columns_of_branches, columns_of_cell, columns_of_split, has_room, plan_columns, term_count}
use Rattle.program_model.specs.Existence.{HasFloor, IsColumn, IsDiverge, IsPlace}
use Rattle.program_model.specs.Numbers.{after_room, branches_before, branches_of, first_column, number_of, place_of_flow}
use Rattle.program_model.proofs.NumberLaws.{bit_stands, cell_stands, in_first, in_last, in_split, length-branch, length-cell, length-columns, length-plan_columns, length-split, units_and_room}

-- the first term of a sum, and the others
sum_below-first : (n : ℕ) (f : ℕ → ℕ) → sum_below (suc n) f ≡ f 0 + sum_below n (λ k. f (suc k))
unfolding sum_below
sum_below-first zero f = omega arith
sum_below-first (suc n) f = omega (arith, sum_below-first n f)

-- no term yet
sum_below-none_yet : (f : ℕ → ℕ) → sum_below 0 f ≡ 0
unfolding sum_below
sum_below-none_yet f = refl

-- how many columns branches have, of which the first has so many units
abbrev columns_by : List (ℕ × ℕ) → ℕ → ℕ
columns_by branches j = if nat_lt 1 (slice_index_or branches j (0, 0)).1 then 2 else 0

-- the columns of branch k, where the first of the branches has number m
branch_stands : (t i m k : ℕ) (branches : List (ℕ × ℕ)) (d : Column) → k < length branches → 1 < (slice_index_or branches k (0, 0)).1 →
    (branches_before branches k + 1 < length (columns_of_branches t i m branches))
    × (get_or (columns_of_branches t i m branches) (branches_before branches k) d ≡ BranchRoom t i (m + k))
    × (get_or (columns_of_branches t i m branches) (branches_before branches k + 1) d ≡ BranchRest t i (m + k))
branch_stands t i m k [] d inside many = absurd (omega (arith, inside))
branch_stands t i m zero (branch ∷ branches) d inside many =
    let at : m ≡ m + 0 = omega arith in
    let two : length (columns_of_branch t i m branch.1) ≡ 2 = length-branch t i m branch.1 ∙ (rw (lt-ltb 1 branch.1 many) refl) in
    let none : branches_before (branch ∷ branches) 0 ≡ 0 = sum_below-none_yet (columns_by (branch ∷ branches)) in (
      omega (arith, none, two, length-append (columns_of_branch t i m branch.1) (columns_of_branches t i (m + 1) branches)),
      rw (none, lt-ltb 1 branch.1 many) (ap (BranchRoom t i) at),
      rw (none, lt-ltb 1 branch.1 many) (ap (BranchRest t i) at),
    )
branch_stands t i m (suc k) (branch ∷ branches) d inside many =
    let later = branch_stands t i (m + 1) k branches d (omega (arith, inside)) many in
    let at : m + 1 + k ≡ m + suc k = omega arith in
    let before : branches_before (branch ∷ branches) (suc k) ≡ length (columns_of_branch t i m branch.1) + branches_before branches k =
    sum_below-first k (columns_by (branch ∷ branches)) ∙ ap (λ n. n + branches_before branches k) (sym (length-branch t i m branch.1)) in
    let next : branches_before (branch ∷ branches) (suc k) + 1 ≡ length (columns_of_branch t i m branch.1) + (branches_before branches k + 1) = omega (arith, before) in (
      omega (arith, before, later.0, length-append (columns_of_branch t i m branch.1) (columns_of_branches t i (m + 1) branches)),
      ap (λ n. get_or (columns_of_branches t i m (branch ∷ branches)) n d) before
          ∙ get_or-append-add (columns_of_branch t i m branch.1) (columns_of_branches t i (m + 1) branches) (branches_before branches k) d ∙ later.1 ∙ ap (BranchRoom t i) at,
      ap (λ n. get_or (columns_of_branches t i m (branch ∷ branches)) n d) next
          ∙ get_or-append-add (columns_of_branch t i m branch.1) (columns_of_branches t i (m + 1) branches) (branches_before branches k + 1) d ∙ later.2 ∙ ap (BranchRest t i) at,
    )

-- the columns of a branch among those of a split
split_stands : (t i k : ℕ) (out : Out) (d : Column) → HasFloor out k →
    (2 + branches_before (branches_of out) k + 1 < length (columns_of_split t i out))
    × (get_or (columns_of_split t i out) (2 + branches_before (branches_of out) k) d ≡ BranchRoom t i k)
    × (get_or (columns_of_split t i out) (3 + branches_before (branches_of out) k) d ≡ BranchRest t i k)
split_stands t i k Exit d floor = absurd (omega (arith, floor.inside))
split_stands t i k (To b) d floor = absurd (omega (arith, floor.inside))
split_stands t i k (Turns branches) d floor =
    let stands = branch_stands t i 0 k branches d floor.inside floor.many in
    let at : 0 + k ≡ k = omega arith in
    let whole : List Column = columns_of_split t i (Turns branches) in
    let room : 2 + branches_before branches k ≡ suc (suc (branches_before branches k)) = omega arith in
    let rest : 3 + branches_before branches k ≡ suc (suc (branches_before branches k + 1)) = omega arith in (
      omega (arith, stands.0),
      ap (λ n. get_or whole n d) room ∙ stands.1 ∙ ap (BranchRoom t i) at,
      ap (λ n. get_or whole n d) rest ∙ stands.2 ∙ ap (BranchRest t i) at,
    )

-- a column among those of its cell, at step t
abbrev StandsAt : Net → Column → Column → Type 0
StandsAt net d c = (number_of net c < length (columns net)) × (get_or (columns net) (number_of net c) d ≡ c)

-- a column that stands in its cell's list stands in the whole
stands : (net : Net) (t i r : ℕ) (c d : Column) → IsPlace net t i → r < length (columns_of_cell net.cells 0 i) → number_of net c ≡ first_column net t i + r →
    get_or (columns_of_cell net.cells t i) r d ≡ c → StandsAt net d c
stands net t i r c d place within number is =
    let there = cell_stands net t i r d place within in
    (omega (arith, there.0, number), ap (λ n. get_or (columns net) n d) number ∙ there.1 ∙ is)

-- the room of a cell is the second of its columns, where it is one
room_in_first : (net : Net) (t i : ℕ) (d : Column) → has_room net.cells i ≡ true →
    (after_room net.cells i ≡ 3) × (get_or (units_and_room net.cells t i) 1 d ≡ Room t i) × (get_or (units_and_room net.cells t i) 2 d ≡ RoomRest t i)
room_in_first net t i d has = (rw has refl, rw has refl, rw has refl)

-- a diverge has its parcels first
parcels_in_split : (t i : ℕ) (out : Out) (d : Column) → IsDiverge out →
    (1 < length (columns_of_split t i out)) × (get_or (columns_of_split t i out) 0 d ≡ Parcels t i) × (get_or (columns_of_split t i out) 1 d ≡ ParcelsRest t i)
parcels_in_split t i Exit d diverge = absurd diverge
parcels_in_split t i (To b) d diverge = absurd diverge
parcels_in_split t i (Turns branches) d diverge = (omega arith, refl, refl)

-- ---- the whole law

-- the units of a cell come before anything else
some_room : (cells : List Cell) (i : ℕ) → 0 < after_room cells i
some_room cells i = elim (cases_Bool (has_room cells i)) [ inl has ↦ rw has (omega arith) | inr none ↦ rw none (omega arith) ]

-- a place among a cell's columns, before its flow or behind it
before_flow : (net : Net) (i r : ℕ) → r < place_of_flow net.cells i → r < length (columns_of_cell net.cells 0 i)
before_flow net i r inside = omega (arith, inside, length-cell net.cells 0 i)

-- each column stands at its number
pub column_stands : (net : Net) (c d : Column) → IsColumn net c → StandsAt net d c
unfolding columns
column_stands net (Bit t s letter) d is =
    let there = bit_stands net t s letter d is.0 is.1 is.2 in (
      omega (arith, there.0, length-columns net),
      get_or_append_left (plan_columns net) _ d (number_of net (Bit t s letter)) (omega (arith, there.0, length-plan_columns net)) ∙ there.1,
    )
column_stands net (Units t i) d place =
    stands net t i 0 (Units t i) d place (omega (arith, length-cell net.cells 0 i)) (omega arith)
    (in_first net.cells t i 0 d (some_room net.cells i))
column_stands net (Room t i) d is =
    let room = room_in_first net t i d is.1 in
    stands net t i 1 (Room t i) d is.0 (before_flow net i 1 (omega (arith, room.0))) refl (in_first net.cells t i 1 d (omega (arith, room.0)) ∙ room.1)
column_stands net (RoomRest t i) d is =
    let room = room_in_first net t i d is.1 in
    stands net t i 2 (RoomRest t i) d is.0 (before_flow net i 2 (omega (arith, room.0))) refl (in_first net.cells t i 2 d (omega (arith, room.0)) ∙ room.2)
column_stands net (Parcels t i) d is =
    let out : Out = (cell_of net.cells i).out in
    let parcels = parcels_in_split t i out d is.1 in
    stands net t i (after_room net.cells i + 0) (Parcels t i) d is.0 (before_flow net i (after_room net.cells i + 0) (omega (arith, parcels.0, length-split t i 0 0 out))) (omega arith)
    (in_split net.cells t i 0 d (omega (arith, parcels.0)) ∙ parcels.1)
column_stands net (ParcelsRest t i) d is =
    let out : Out = (cell_of net.cells i).out in
    let parcels = parcels_in_split t i out d is.1 in
    stands net t i (after_room net.cells i + 1) (ParcelsRest t i) d is.0 (before_flow net i (after_room net.cells i + 1) (omega (arith, parcels.0, length-split t i 0 0 out))) (omega arith)
    (in_split net.cells t i 1 d parcels.0 ∙ parcels.2)
column_stands net (BranchRoom t i k) d is =
    let out : Out = (cell_of net.cells i).out in
    let branch = split_stands t i k out d is.1 in
    let place : ℕ = 2 + branches_before (branches_of out) k in
    stands net t i (after_room net.cells i + place) (BranchRoom t i k) d is.0
    (before_flow net i (after_room net.cells i + place) (omega (arith, branch.0, length-split t i 0 0 out))) (omega arith)
    (in_split net.cells t i place d (omega (arith, branch.0)) ∙ branch.1)
column_stands net (BranchRest t i k) d is =
    let out : Out = (cell_of net.cells i).out in
    let branch = split_stands t i k out d is.1 in
    let place : ℕ = 3 + branches_before (branches_of out) k in
    stands net t i (after_room net.cells i + place) (BranchRest t i k) d is.0
    (before_flow net i (after_room net.cells i + place) (omega (arith, branch.0, length-split t i 0 0 out))) (omega arith)
    (in_split net.cells t i place d (omega (arith, branch.0)) ∙ branch.2)
column_stands net (Flow t i) d place =
    stands net t i (place_of_flow net.cells i + 0) (Flow t i) d place (omega (arith, length-cell net.cells 0 i)) (omega arith) (in_last net.cells t i 0 d)
column_stands net (Switch t i m) d is =
    let count : ℕ = term_count (cell_of net.cells i).out in
    stands net t i (place_of_flow net.cells i + suc m) (Switch t i m) d is.0 (omega (arith, is.1, length-cell net.cells 0 i)) (omega arith)
    (in_last net.cells t i (suc m) d ∙ get_or-table_of count (Switch t i) m d is.1)
