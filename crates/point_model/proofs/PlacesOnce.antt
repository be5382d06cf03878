-- Each place in the list of columns is the number of the column that stands there, so no column stands twice.
use Rattle.std.proofs.Common.{◌≡◌, inl, inr, ℕ, zero, suc, ◌+◌, ◌*◌, ◌<◌, List, [], ◌∷◌, ◌++◌, length, map, get_or, refl, ap, subst, ◌∙◌, sym, arith}
use Rattle.std.specs.Prelude.{if◌then◌else◌, nat_lt}
use Rattle.std.proofs.lemmas.Bool.{cases_Bool}
use Rattle.std.proofs.lemmas.List.{length-append, length-map}
use Rattle.listed.specs.Below.{join_below, sum_below, table_of}
use Rattle.listed.proofs.JoinLaws.{length-join_below}
use Rattle.listed.proofs.SumLaws.{sum_below-suc}
use Rattle.listed.proofs.TableLaws.{length-table_of}
use Rattle.ct_base.specs.Access.{cell_of, phase_of, signal_of}
use Rattle.ct_base.specs.declared.cell.Cell.{Cell}
use Rattle.ct_base.specs.declared.cell.Out.{Out}
use Rattle.ct_base.specs.declared.cell.Out.TheVariants.{Exit, To, Turns}
use Rattle.ct_base.specs.declared.net.Net.{Net}
use Rattle.ct_base.specs.declared.signal.Signal.{Signal}
use Rattle.program_model.specs.Columns.{Bit, Column, Switch, bits_at, columns, columns_of_branch, columns_of_branches, columns_of_cell, columns_of_cells, columns_of_split, has_room, letters_by, letters_of, plan_columns, term_count}
use Rattle.program_model.specs.Numbers.{after_room, bits_before, bits_of_step, branches_before, branches_of, cells_before, first_column, letters_before, number_of, place_of_flow, place_of_letter, plan_count}
use Rattle.program_model.proofs.NumberLaws.{flow_and_switches, length-branch, length-cell, length-plan_columns, length-split, units_and_room}

-- ---- lists whose elements have numbers that follow each other

-- the elements have the numbers from a first one on
abbrev Counts : {X : Type 0} → (X → ℕ) → ℕ → List X → Type 0
Counts number first [] = Unit {0}
Counts number first (x ∷ xs) = (number x ≡ first) × Counts number (suc first) xs

counts-append : {X : Type 0} (number : X → ℕ) (first : ℕ) (xs ys : List X) → Counts number first xs → Counts number (first + length xs) ys → Counts number first (xs ++ ys)
counts-append number first [] ys left right = let at : first + 0 ≡ first = omega arith in subst (λ (n : ℕ). Counts number n ys) at right
counts-append number first (x ∷ xs) ys left right =
    let at : first + suc (length xs) ≡ suc first + length xs = omega arith in
    (left.0, counts-append number (suc first) xs ys left.1 (subst (λ (n : ℕ). Counts number n ys) at right))

counts-join : {X : Type 0} (number : X → ℕ) (first n : ℕ) (f : ℕ → List X) (count : ℕ → ℕ) → ((k : ℕ) → length (f k) ≡ count k) →
    ((k : ℕ) → k < n → Counts number (first + sum_below k count) (f k)) → Counts number first (join_below n f)
unfolding join_below
counts-join number first zero f count long each = tt
counts-join number first (suc n) f count long each =
    counts-append number first (join_below n f) (f n) (counts-join number first n f count long (λ k inside. each k (omega arith)))
    (subst (λ (m : ℕ). Counts number (first + m) (f n)) (sym (length-join_below n f count long)) (each n (omega arith)))

counts-table : {X : Type 0} (number : X → ℕ) (first n : ℕ) (f : ℕ → X) → ((k : ℕ) → k < n → number (f k) ≡ first + k) → Counts number first (table_of n f)
unfolding table_of
counts-table number first zero f each = tt
counts-table number first (suc n) f each =
    counts-append number first (table_of n f) (f n ∷ []) (counts-table number first n f (λ k inside. each k (omega arith)))
    (each n (omega arith) ∙ (omega (arith, length-table_of n f)), tt)

counts-map : {X Y : Type 0} (number : Y → ℕ) (f : X → Y) (place : X → ℕ) (offset first : ℕ) (xs : List X) → ((x : X) → number (f x) ≡ offset + place x) → Counts place first xs → Counts number (offset + first) (map f xs)
counts-map number f place offset first [] is counts = tt
counts-map number f place offset first (x ∷ xs) is counts =
    let at : offset + suc first ≡ suc (offset + first) = omega arith in
    (is x ∙ ap (λ n. offset + n) counts.0, subst (λ (n : ℕ). Counts number n (map f xs)) at (counts-map number f place offset (suc first) xs is counts.1))

counts-at : {X : Type 0} (number : X → ℕ) (first : ℕ) (xs : List X) (i : ℕ) (d : X) → Counts number first xs → i < length xs → number (get_or xs i d) ≡ first + i
counts-at number first [] i d counts inside = absurd (omega (arith, inside))
counts-at number first (x ∷ xs) zero d counts inside = omega (arith, counts.0)
counts-at number first (x ∷ xs) (suc i) d counts inside = omega (arith, counts-at number (suc first) xs i d counts.1 (omega (arith, inside)))

-- equal parts add up to a product
sum_below-equal : (n w : ℕ) → sum_below n (λ k. w) ≡ n * w
unfolding sum_below
sum_below-equal zero w = omega arith
sum_below-equal (suc n) w = omega (arith, sum_below-equal n w)

-- ---- the plan columns

letters_by_count : (signal : Signal) (p clear : ℕ) → Counts (place_of_letter signal) (letters_before signal p) (letters_by p clear)
letters_by_count signal p zero = (refl, tt)
letters_by_count signal p (suc clear) = (refl, (omega arith, tt))

letters_count : (signal : Signal) → Counts (place_of_letter signal) 0 (letters_of signal)
unfolding letters_of
letters_count signal =
    counts-join (place_of_letter signal) 0 (length signal.phases) (λ p. letters_by p (phase_of signal p).clear) (λ p. length (letters_by p (phase_of signal p).clear)) (λ p. refl)
    (λ p inside.
    let at : letters_before signal p ≡ 0 + letters_before signal p = omega arith in
    subst (λ (n : ℕ). Counts (place_of_letter signal) n (letters_by p (phase_of signal p).clear)) at (letters_by_count signal p (phase_of signal p).clear))

length-bits_at : (signals : List Signal) (t : ℕ) → length (bits_at signals t) ≡ bits_of_step signals
unfolding bits_at
length-bits_at signals t =
    length-join_below (length signals) (λ s. map (Bit t s) (letters_of (signal_of signals s))) (λ s. length (letters_of (signal_of signals s))) (λ s. length-map (letters_of (signal_of signals s)) (Bit t s))

bits_count : (net : Net) (t : ℕ) → Counts (number_of net) (t * bits_of_step net.signals) (bits_at net.signals t)
unfolding bits_at
bits_count net t =
    counts-join (number_of net) (t * bits_of_step net.signals) (length net.signals) (λ s. map (Bit t s) (letters_of (signal_of net.signals s))) (λ s. length (letters_of (signal_of net.signals s)))
    (λ s. length-map (letters_of (signal_of net.signals s)) (Bit t s))
    (λ s inside.
    let offset : ℕ = t * bits_of_step net.signals + bits_before net.signals s in
    let at : offset + 0 ≡ offset = omega arith in
    subst (λ (n : ℕ). Counts (number_of net) n (map (Bit t s) (letters_of (signal_of net.signals s)))) at
    (counts-map (number_of net) (Bit t s) (place_of_letter (signal_of net.signals s)) offset 0 (letters_of (signal_of net.signals s)) (λ letter. refl) (letters_count (signal_of net.signals s))))

plan_columns_count : (net : Net) → Counts (number_of net) 0 (plan_columns net)
unfolding plan_columns
plan_columns_count net =
    counts-join (number_of net) 0 net.steps (bits_at net.signals) (λ t. bits_of_step net.signals) (length-bits_at net.signals)
    (λ t before.
    let at : t * bits_of_step net.signals ≡ 0 + sum_below t (λ k. bits_of_step net.signals) = omega (arith, sum_below-equal t (bits_of_step net.signals)) in
    subst (λ (n : ℕ). Counts (number_of net) n (bits_at net.signals t)) at (bits_count net t))

-- ---- the columns of a cell

-- those of branches, of which the first has number m
branches_count : (net : Net) (t i m : ℕ) (branches : List (ℕ × ℕ)) →
    ((k : ℕ) → k < length branches → get_or (branches_of (cell_of net.cells i).out) (m + k) (0, 0) ≡ get_or branches k (0, 0)) →
    Counts (number_of net) (first_column net t i + after_room net.cells i + 2 + branches_before (branches_of (cell_of net.cells i).out) m) (columns_of_branches t i m branches)
branches_count net t i m [] are = tt
branches_count net t i m (branch ∷ branches) are =
    let all : List (ℕ × ℕ) = branches_of (cell_of net.cells i).out in
    let first : ℕ = first_column net t i + after_room net.cells i + 2 + branches_before all m in
    let at : m ≡ m + 0 = omega arith in
    let here : get_or all m (0, 0) ≡ branch = ap (λ n. get_or all n (0, 0)) at ∙ are 0 (omega arith) in
    let wide : length (columns_of_branch t i m branch.1) ≡ (if nat_lt 1 (get_or all m (0, 0)).1 then 2 else 0) =
    length-branch t i m branch.1 ∙ ap (λ (b : ℕ × ℕ). if nat_lt 1 b.1 then 2 else 0) (sym here) in
    let behind : first_column net t i + after_room net.cells i + 2 + branches_before all (m + 1) ≡ first + length (columns_of_branch t i m branch.1) =
    omega (arith, wide, sum_below-suc m (λ j. if nat_lt 1 (get_or all j (0, 0)).1 then 2 else 0)) in
    counts-append (number_of net) first (columns_of_branch t i m branch.1) (columns_of_branches t i (m + 1) branches)
    (elim (cases_Bool (nat_lt 1 branch.1)) [ inl many ↦ rw many (refl, (omega arith, tt)) | inr one ↦ rw one tt ])
    (subst (λ (n : ℕ). Counts (number_of net) n (columns_of_branches t i (m + 1) branches)) behind
    (branches_count net t i (m + 1) branches (λ k inside. let next : m + 1 + k ≡ m + suc k = omega arith in ap (λ n. get_or all n (0, 0)) next ∙ are (suc k) (omega (arith, inside)))))

-- those of a diverge
split_count : (net : Net) (t i : ℕ) (out : Out) → (cell_of net.cells i).out ≡ out → Counts (number_of net) (first_column net t i + after_room net.cells i) (columns_of_split t i out)
unfolding sum_below
split_count net t i Exit is = tt
split_count net t i (To b) is = tt
split_count net t i (Turns branches) is =
    let same : branches_of (cell_of net.cells i).out ≡ branches = ap branches_of is in
    let first : ℕ = first_column net t i + after_room net.cells i in
    let at : first + 2 + branches_before (branches_of (cell_of net.cells i).out) 0 ≡ suc (suc first) = omega arith in (
      refl,
      (
        omega arith,
        subst (λ (n : ℕ). Counts (number_of net) n (columns_of_branches t i 0 branches)) at
            (branches_count net t i 0 branches (λ k inside. let here : 0 + k ≡ k = omega arith in ap (λ n. get_or (branches_of (cell_of net.cells i).out) n (0, 0)) here ∙ ap (λ (all : List (ℕ × ℕ)). get_or all k (0, 0)) same)),
      ),
    )

-- its units, and its room
units_count : (net : Net) (t i : ℕ) → Counts (number_of net) (first_column net t i) (units_and_room net.cells t i)
units_count net t i = (refl, elim (cases_Bool (has_room net.cells i)) [ inl has ↦ rw has (omega arith, (omega arith, tt)) | inr none ↦ rw none tt ])

length-units_and_room : (cells : List Cell) (t i : ℕ) → length (units_and_room cells t i) ≡ after_room cells i
length-units_and_room cells t i = elim (cases_Bool (has_room cells i)) [ inl has ↦ rw has refl | inr none ↦ rw none refl ]

-- all of a cell
cell_count : (net : Net) (t i : ℕ) → Counts (number_of net) (first_column net t i) (columns_of_cell net.cells t i)
unfolding columns_of_cell
cell_count net t i =
    let out : Out = (cell_of net.cells i).out in
    let first : ℕ = first_column net t i in
    let units : List Column = units_and_room net.cells t i in
    let split : List Column = columns_of_split t i out in
    let behind : first + after_room net.cells i ≡ first + length units = omega (arith, length-units_and_room net.cells t i) in
    let last : first + place_of_flow net.cells i ≡ first + length (units ++ split) =
    omega (arith, length-append units split, length-units_and_room net.cells t i, length-split t i 0 0 out) in
    counts-append (number_of net) first (units ++ split) (flow_and_switches t i (term_count out))
    (counts-append (number_of net) first units split (units_count net t i) (subst (λ (n : ℕ). Counts (number_of net) n split) behind (split_count net t i out refl)))
    (subst (λ (n : ℕ). Counts (number_of net) n (flow_and_switches t i (term_count out))) last
    (refl, counts-table (number_of net) (suc (first + place_of_flow net.cells i)) (term_count out) (Switch t i) (λ m inside. omega arith)))

-- ---- all columns

same_count : (cells : List Cell) (t i : ℕ) → length (columns_of_cell cells t i) ≡ length (columns_of_cell cells 0 i)
same_count cells t i = length-cell cells t i ∙ sym (length-cell cells 0 i)

length-cells : (cells : List Cell) (t : ℕ) → length (columns_of_cells cells t) ≡ cells_before cells (length cells)
unfolding columns_of_cells
length-cells cells t = length-join_below (length cells) (columns_of_cell cells t) (λ j. length (columns_of_cell cells 0 j)) (same_count cells t)

cells_count : (net : Net) (t : ℕ) → Counts (number_of net) (plan_count net + t * cells_before net.cells (length net.cells)) (columns_of_cells net.cells t)
unfolding columns_of_cells first_column
cells_count net t =
    counts-join (number_of net) (plan_count net + t * cells_before net.cells (length net.cells)) (length net.cells) (columns_of_cell net.cells t) (λ j. length (columns_of_cell net.cells 0 j))
    (same_count net.cells t) (λ i inside. cell_count net t i)

columns_count : (net : Net) → Counts (number_of net) 0 (columns net)
unfolding columns
columns_count net =
    let width : ℕ = cells_before net.cells (length net.cells) in
    let behind : plan_count net ≡ 0 + length (plan_columns net) = omega (arith, length-plan_columns net) in
    counts-append (number_of net) 0 (plan_columns net) (join_below net.steps (columns_of_cells net.cells)) (plan_columns_count net)
    (subst (λ (n : ℕ). Counts (number_of net) n (join_below net.steps (columns_of_cells net.cells))) behind
    (counts-join (number_of net) (plan_count net) net.steps (columns_of_cells net.cells) (λ t. width) (length-cells net.cells)
    (λ t before. subst (λ (n : ℕ). Counts (number_of net) (plan_count net + n) (columns_of_cells net.cells t)) (sym (sum_below-equal t width)) (cells_count net t))))

-- each place is the number of its column
pub place_once : (net : Net) (j : ℕ) (d : Column) → j < length (columns net) → number_of net (get_or (columns net) j d) ≡ j
place_once net j d inside = omega (arith, counts-at (number_of net) 0 (columns net) j d (columns_count net) inside)
