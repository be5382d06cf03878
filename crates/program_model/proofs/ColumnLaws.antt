-- What is in the list of columns is a column of the network, and counts no less than its least value and no more than its
-- greatest.
use Rattle.std.proofs.Common.{◌≡◌, inl, inr, ℕ, zero, suc, ◌+◌, ◌<◌, List, [], ◌∷◌, ◌++◌, length, map, get_or, refl, subst, arith}
use Rattle.std.specs.Prelude.{if◌then◌else◌, nat_lt}
use Rattle.std.proofs.lemmas.Bool.{cases_Bool, ltb-true}
use Rattle.listed.specs.Below.{join_below, table_of}
use Rattle.ct_base.specs.Access.{cell_of, phase_of, signal_of}
use Rattle.ct_base.specs.declared.cell.Out.{Out}
use Rattle.ct_base.specs.declared.cell.Out.TheVariants.{Exit, To, Turns}
use Rattle.ct_base.specs.declared.net.Net.{Net}
use Rattle.ct_base.specs.declared.plan.Letter.{Letter}
use Rattle.ct_base.specs.declared.signal.Signal.{Signal}
use Rattle.program_model.specs.Columns.{Bit, Column, Flow, Room, RoomRest, Switch, Units, bits_at, columns, columns_of_branch, columns_of_branches, columns_of_cell, columns_of_cells, columns_of_split, has_room, letters_by, letters_of, plan_columns, term_count}
use Rattle.program_model.specs.Existence.{HasFloor, IsColumn, IsDiverge, IsLetterOf, IsPlace}

-- a fact of each element
abbrev pub Each : {X : Type 0} → (X → Type 0) → List X → Type 0
Each P [] = Unit {0}
Each P (x ∷ xs) = P x × Each P xs

pub Each-append : {X : Type 0} (P : X → Type 0) (xs ys : List X) → Each P xs → Each P ys → Each P (xs ++ ys)
Each-append P [] ys left right = right
Each-append P (x ∷ xs) ys left right = (left.0, Each-append P xs ys left.1 right)

pub Each-join_below : {X : Type 0} (P : X → Type 0) (n : ℕ) (parts : ℕ → List X) → ((k : ℕ) → k < n → Each P (parts k)) → Each P (join_below n parts)
unfolding join_below
Each-join_below P zero parts each = tt
Each-join_below P (suc n) parts each = Each-append P (join_below n parts) (parts n) (Each-join_below P n parts (λ k inside. each k (omega arith))) (each n (omega arith))

pub Each-table_of : {X : Type 0} (P : X → Type 0) (n : ℕ) (f : ℕ → X) → ((k : ℕ) → k < n → P (f k)) → Each P (table_of n f)
unfolding table_of
Each-table_of P zero f each = tt
Each-table_of P (suc n) f each = Each-append P (table_of n f) (f n ∷ []) (Each-table_of P n f (λ k inside. each k (omega arith))) (each n (omega arith), tt)

pub Each-map : {X Y : Type 0} (P : Y → Type 0) (f : X → Y) (xs : List X) → Each (λ x. P (f x)) xs → Each P (map f xs)
Each-map P f [] each = tt
Each-map P f (x ∷ xs) each = (each.0, Each-map P f xs each.1)

pub Each-at : {X : Type 0} (P : X → Type 0) (xs : List X) (i : ℕ) (d : X) → Each P xs → i < length xs → P (get_or xs i d)
Each-at P [] i d each inside = absurd (omega (arith, inside))
Each-at P (x ∷ xs) zero d each inside = each.0
Each-at P (x ∷ xs) (suc i) d each inside = Each-at P xs i d each.1 (omega (arith, inside))

-- ---- what is in the list is a column

letters_by_are : (signal : Signal) (p clear : ℕ) → p < length signal.phases → (phase_of signal p).clear ≡ clear → Each (IsLetterOf signal) (letters_by p clear)
letters_by_are signal p zero inside is = (inside, tt)
letters_by_are signal p (suc clear) inside is = (inside, ((inside, omega (arith, is)), tt))

pub letters_are : (signal : Signal) → Each (IsLetterOf signal) (letters_of signal)
unfolding letters_of
letters_are signal = Each-join_below (IsLetterOf signal) (length signal.phases) _ (λ p inside. letters_by_are signal p (phase_of signal p).clear inside refl)

each_bit : (net : Net) (t s : ℕ) → t < net.steps → s < length net.signals → (letters : List Letter) → Each (IsLetterOf (signal_of net.signals s)) letters → Each (IsColumn net) (map (Bit t s) letters)
each_bit net t s before inside [] are = tt
each_bit net t s before inside (letter ∷ letters) are = ((before, inside, are.0), each_bit net t s before inside letters are.1)

bits_are_columns : (net : Net) → Each (IsColumn net) (plan_columns net)
unfolding plan_columns bits_at
bits_are_columns net =
    Each-join_below (IsColumn net) net.steps _ (λ t before. Each-join_below (IsColumn net) (length net.signals) _
    (λ s inside. each_bit net t s before inside (letters_of (signal_of net.signals s)) (letters_are (signal_of net.signals s))))

-- the columns of branches, of which the first has number m and the others follow
branches_are_columns : (net : Net) (t i m : ℕ) (branches : List (ℕ × ℕ)) → IsPlace net t i →
    ((k : ℕ) → k < length branches → 1 < (get_or branches k (0, 0)).1 → HasFloor (cell_of net.cells i).out (m + k)) → Each (IsColumn net) (columns_of_branches t i m branches)
branches_are_columns net t i m [] place floors = tt
branches_are_columns net t i m (branch ∷ branches) place floors =
    let first : m + 0 ≡ m = omega arith in
    Each-append (IsColumn net) (columns_of_branch t i m branch.1) (columns_of_branches t i (m + 1) branches)
    (elim (cases_Bool (nat_lt 1 branch.1)) [
      | inl many ↦
          let floor : HasFloor (cell_of net.cells i).out m = subst (HasFloor (cell_of net.cells i).out) first (floors 0 (omega arith) (ltb-true 1 branch.1 many)) in
          rw many ((place, floor), ((place, floor), tt))
      | inr one ↦ rw one tt
    ])
    (branches_are_columns net t i (m + 1) branches place
    (λ k inside many. let next : m + suc k ≡ m + 1 + k = omega arith in subst (HasFloor (cell_of net.cells i).out) next (floors (suc k) (omega (arith, inside)) many)))

split_is_columns : (net : Net) (t i : ℕ) (out : Out) → IsPlace net t i → (cell_of net.cells i).out ≡ out → Each (IsColumn net) (columns_of_split t i out)
split_is_columns net t i Exit place is = tt
split_is_columns net t i (To b) place is = tt
split_is_columns net t i (Turns branches) place is =
    let diverge : IsDiverge (cell_of net.cells i).out = rw is tt in (
      (place, diverge),
      (
        (place, diverge),
        branches_are_columns net t i 0 branches place
            (λ k inside many. let at : 0 + k ≡ k = omega arith in rw (at, is) (record { inside = inside; many = many })),
      ),
    )

cell_is_columns : (net : Net) (t i : ℕ) → IsPlace net t i → Each (IsColumn net) (columns_of_cell net.cells t i)
unfolding columns_of_cell
cell_is_columns net t i place =
    let out : Out = (cell_of net.cells i).out in
    let first : List Column = Units t i ∷ (if has_room net.cells i then Room t i ∷ RoomRest t i ∷ [] else []) in
    let first_are : Each (IsColumn net) first =
    (place, elim (cases_Bool (has_room net.cells i)) [ inl has ↦ rw has ((place, has), ((place, has), tt)) | inr none ↦ rw none tt ]) in
    let last_are : Each (IsColumn net) (Flow t i ∷ table_of (term_count out) (Switch t i)) =
    (place, Each-table_of (IsColumn net) (term_count out) (Switch t i) (λ m inside. (place, inside))) in
    Each-append (IsColumn net) (first ++ columns_of_split t i out) (Flow t i ∷ table_of (term_count out) (Switch t i))
    (Each-append (IsColumn net) first (columns_of_split t i out) first_are (split_is_columns net t i out place refl)) last_are

-- each is a column of the network
pub columns_are : (net : Net) → Each (IsColumn net) (columns net)
unfolding columns columns_of_cells
columns_are net =
    Each-append (IsColumn net) (plan_columns net) _ (bits_are_columns net)
    (Each-join_below (IsColumn net) net.steps _ (λ t before. Each-join_below (IsColumn net) (length net.cells) (columns_of_cell net.cells t)
    (λ i inside. cell_is_columns net t i (record { before = before; inside = inside }))))
