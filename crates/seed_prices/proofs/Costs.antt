-- What columns cost by their numbers: the units of each cell at each step, less what its flow gives back.
use Rattle.std.proofs.Common.{◌≡◌, inl, inr, ℕ, zero, suc, ◌+◌, ◌*◌, List, [], ◌∷◌, ◌++◌, length, map, get_or, refl, ap, ◌∙◌, sym, arith}
use Rattle.std.specs.Prelude.{if◌then◌else◌, nat_lt, ℤ, pos, neg_ℤ, ◌+ℤ◌, ◌-ℤ◌, ◌*ℤ◌}
use Rattle.std.proofs.Math.IntN.{zero-*ℤ}
use Rattle.std.proofs.lemmas.Bool.{cases_Bool}
use Rattle.std.proofs.lemmas.Int.{ints}
use Rattle.std.proofs.lemmas.List.{length-append}
use Rattle.listed.specs.Below.{join_below, sum_below, table_of, whole_sum_below}
use Rattle.listed.proofs.JoinLaws.{length-join_below}
use Rattle.listed.proofs.WholeSums.{whole_sum_below-same}
use Rattle.ct_base.specs.Access.{cell_of, signal_of}
use Rattle.ct_base.specs.declared.cell.Cell.{Cell}
use Rattle.ct_base.specs.declared.cell.Out.{Out}
use Rattle.ct_base.specs.declared.cell.Out.TheVariants.{Exit, To, Turns}
use Rattle.ct_base.specs.declared.net.Net.{Net}
use Rattle.ct_base.specs.declared.plan.Letter.{Letter}
use Rattle.traffic_model.specs.Flow.{units_of_flow}
use Rattle.program_model.specs.Columns.{Bit, Column, Flow, Room, RoomRest, Switch, Units, bits_at, columns, columns_of_branch, columns_of_branches, columns_of_cell, columns_of_cells, columns_of_split, has_room, letters_of, plan_columns, term_count}
use Rattle.program_model.specs.Numbers.{after_room, cells_before, first_column, number_of, place_of_flow, plan_count}
use Rattle.program_model.specs.Values.{cost_of}
use Rattle.program_model.proofs.ColumnLaws.{Each, Each-append, Each-join_below, Each-table_of}
use Rattle.program_model.proofs.NumberLaws.{length-cell, length-plan_columns, length-split, units_and_room}
use Rattle.sparse_program.proofs.TermLaws.{sum_times}
use Rattle.seed_prices.proofs.Paid.{first_term}

-- what columns cost that stand one after another from a place on, where each place has a value
abbrev pub costs_from : Net → (ℕ → ℤ) → ℕ → List Column → ℤ
costs_from net x first [] = pos 0
costs_from net x first (c ∷ some) = cost_of net c *ℤ x first +ℤ costs_from net x (suc first) some

-- by places
pub costs_from-places : (net : Net) (x : ℕ → ℤ) (first : ℕ) (some : List Column) (d : Column) →
    whole_sum_below (length some) (λ j. cost_of net (get_or some j d) *ℤ x (first + j)) ≡ costs_from net x first some
unfolding whole_sum_below
costs_from-places net x first [] d = refl
costs_from-places net x first (c ∷ some) d =
    let here : first + 0 ≡ first = omega arith in
    first_term (length some) (λ j. cost_of net (get_or (c ∷ some) j d) *ℤ x (first + j))
    ∙ ap (λ n. cost_of net c *ℤ x n +ℤ whole_sum_below (length some) (λ j. cost_of net (get_or some j d) *ℤ x (first + suc j))) here
    ∙ ap (λ (z : ℤ). cost_of net c *ℤ x first +ℤ z)
    (whole_sum_below-same (length some) (λ j. cost_of net (get_or some j d) *ℤ x (first + suc j)) (λ j. cost_of net (get_or some j d) *ℤ x (suc first + j))
    (λ j inside. ap (λ n. cost_of net (get_or some j d) *ℤ x n) (omega arith))
    ∙ costs_from-places net x (suc first) some d)

-- of two lists together
costs_from-append : (net : Net) (x : ℕ → ℤ) (first : ℕ) (some more : List Column) →
    costs_from net x first (some ++ more) ≡ costs_from net x first some +ℤ costs_from net x (first + length some) more
costs_from-append net x first [] more =
    let here : first + 0 ≡ first = omega arith in
    rw here (omega (arith, ints))
costs_from-append net x first (c ∷ some) more =
    let later : suc first + length some ≡ first + suc (length some) = omega arith in
    let rest : costs_from net x (suc first) (some ++ more) ≡ costs_from net x (suc first) some +ℤ costs_from net x (first + suc (length some)) more =
    costs_from-append net x (suc first) some more ∙ ap (λ n. costs_from net x (suc first) some +ℤ costs_from net x n more) later in
    omega (arith, ints, rest)

-- of joins, whose parts have so many columns
costs_from-join_below : (net : Net) (x : ℕ → ℤ) (first n : ℕ) (parts : ℕ → List Column) (count : ℕ → ℕ) → ((k : ℕ) → length (parts k) ≡ count k) →
    costs_from net x first (join_below n parts) ≡ whole_sum_below n (λ k. costs_from net x (first + sum_below k count) (parts k))
unfolding join_below whole_sum_below
costs_from-join_below net x first zero parts count long = refl
costs_from-join_below net x first (suc n) parts count long =
    costs_from-append net x first (join_below n parts) (parts n)
    ∙ ap (λ k. costs_from net x first (join_below n parts) +ℤ costs_from net x (first + k) (parts n)) (length-join_below n parts count long)
    ∙ ap (λ (z : ℤ). z +ℤ costs_from net x (first + sum_below n count) (parts n)) (costs_from-join_below net x first n parts count long)

-- ---- columns that cost nothing

-- a column costs nothing
abbrev IsFree : Net → Column → Type 0
IsFree net c = cost_of net c ≡ pos 0

free_from : (net : Net) (x : ℕ → ℤ) (first : ℕ) (some : List Column) → Each (IsFree net) some → costs_from net x first some ≡ pos 0
free_from net x first [] free = refl
free_from net x first (c ∷ some) free =
    let here : cost_of net c *ℤ x first ≡ pos 0 = ap (λ (z : ℤ). z *ℤ x first) free.0 ∙ zero-*ℤ (x first) in
    omega (arith, ints, here, free_from net x (suc first) some free.1)

bits_free : (net : Net) (t s : ℕ) (letters : List Letter) → Each (IsFree net) (map (Bit t s) letters)
bits_free net t s [] = tt
bits_free net t s (letter ∷ letters) = (refl, bits_free net t s letters)

plan_free : (net : Net) → Each (IsFree net) (plan_columns net)
unfolding plan_columns bits_at
plan_free net =
    Each-join_below (IsFree net) net.steps _ (λ t before. Each-join_below (IsFree net) (length net.signals) _ (λ s inside. bits_free net t s (letters_of (signal_of net.signals s))))

room_free : (net : Net) (t i : ℕ) → Each (IsFree net) (if has_room net.cells i then Room t i ∷ RoomRest t i ∷ [] else [])
room_free net t i = elim (cases_Bool (has_room net.cells i)) [ inl has ↦ rw has (refl, (refl, tt)) | inr none ↦ rw none tt ]

branches_free : (net : Net) (t i k : ℕ) (branches : List (ℕ × ℕ)) → Each (IsFree net) (columns_of_branches t i k branches)
branches_free net t i k [] = tt
branches_free net t i k (branch ∷ branches) =
    Each-append (IsFree net) (columns_of_branch t i k branch.1) (columns_of_branches t i (k + 1) branches)
    (elim (cases_Bool (nat_lt 1 branch.1)) [ inl many ↦ rw many (refl, (refl, tt)) | inr one ↦ rw one tt ]) (branches_free net t i (k + 1) branches)

split_free : (net : Net) (t i : ℕ) (out : Out) → Each (IsFree net) (columns_of_split t i out)
split_free net t i Exit = tt
split_free net t i (To b) = tt
split_free net t i (Turns branches) = (refl, (refl, branches_free net t i 0 branches))

-- ---- the columns of a cell

-- what a cell holds less what leaves it, by the numbers of these columns
abbrev pub kept_units : Net → (ℕ → ℤ) → ℕ → ℕ → ℤ
kept_units net x t i = x (number_of net (Units t i)) -ℤ pos (units_of_flow (cell_of net.cells i).out) *ℤ x (number_of net (Flow t i))

-- the place of the flow among them
units_and_room_long : (cells : List Cell) (t i : ℕ) → length (units_and_room cells t i) ≡ after_room cells i
units_and_room_long cells t i = elim (cases_Bool (has_room cells i)) [ inl has ↦ rw has refl | inr none ↦ rw none refl ]

flow_place : (cells : List Cell) (t i : ℕ) → length (units_and_room cells t i ++ columns_of_split t i (cell_of cells i).out) ≡ place_of_flow cells i
flow_place cells t i =
    let out : Out = (cell_of cells i).out in
    length-append (units_and_room cells t i) (columns_of_split t i out)
    ∙ (omega (arith, length-split t i 0 0 out, units_and_room_long cells t i))

-- the negative of a product
negative_times : (a b : ℤ) → neg_ℤ a *ℤ b ≡ neg_ℤ (a *ℤ b)
negative_times a b =
    let whole : (neg_ℤ a +ℤ a) *ℤ b ≡ neg_ℤ a *ℤ b +ℤ a *ℤ b = sum_times (neg_ℤ a) a b in
    let cancels : neg_ℤ a +ℤ a ≡ pos 0 = omega (arith, ints) in
    let none : (neg_ℤ a +ℤ a) *ℤ b ≡ pos 0 = ap (λ (z : ℤ). z *ℤ b) cancels ∙ zero-*ℤ b in
    omega (arith, ints, whole, none)

-- what they cost
cell_costs : (net : Net) (x : ℕ → ℤ) (t i : ℕ) → costs_from net x (first_column net t i) (columns_of_cell net.cells t i) ≡ kept_units net x t i
unfolding columns_of_cell
cell_costs net x t i =
    let out : Out = (cell_of net.cells i).out in
    let first : ℕ = first_column net t i in
    let before : List Column = units_and_room net.cells t i ++ columns_of_split t i out in
    let flow : ℕ = first + place_of_flow net.cells i in
    let switches : List Column = table_of (term_count out) (Switch t i) in
    let of_before : costs_from net x first before ≡ pos 1 *ℤ x first =
    (let rest : costs_from net x (suc first) ((if has_room net.cells i then Room t i ∷ RoomRest t i ∷ [] else []) ++ columns_of_split t i out) ≡ pos 0 =
    free_from net x (suc first) _ (Each-append (IsFree net) (if has_room net.cells i then Room t i ∷ RoomRest t i ∷ [] else []) (columns_of_split t i out) (room_free net t i) (split_free net t i out)) in
    omega (arith, ints, rest)) in
    let of_switches : costs_from net x (suc flow) switches ≡ pos 0 =
    free_from net x (suc flow) switches (Each-table_of (IsFree net) (term_count out) (Switch t i) (λ m inside. refl)) in
    let of_flow : costs_from net x (first + length before) (Flow t i ∷ switches) ≡ neg_ℤ (pos (units_of_flow out)) *ℤ x flow =
    ap (λ n. costs_from net x (first + n) (Flow t i ∷ switches)) (flow_place net.cells t i) ∙ (omega (arith, ints, of_switches)) in
    let back : neg_ℤ (pos (units_of_flow out)) *ℤ x flow ≡ neg_ℤ (pos (units_of_flow out) *ℤ x flow) = negative_times (pos (units_of_flow out)) (x flow) in
    costs_from-append net x first before (Flow t i ∷ switches) ∙ (omega (arith, ints, of_before, of_flow, back))

-- ---- all columns

-- as many columns of a cell at each step
cell_long : (cells : List Cell) (t i : ℕ) → length (columns_of_cell cells t i) ≡ length (columns_of_cell cells 0 i)
cell_long cells t i = length-cell cells t i ∙ sym (length-cell cells 0 i)

cells_long : (cells : List Cell) (t : ℕ) → length (columns_of_cells cells t) ≡ cells_before cells (length cells)
unfolding columns_of_cells
cells_long cells t = length-join_below (length cells) (columns_of_cell cells t) (λ j. length (columns_of_cell cells 0 j)) (cell_long cells t)

equal_parts : (n w : ℕ) → sum_below n (λ k. w) ≡ n * w
unfolding sum_below
equal_parts zero w = omega arith
equal_parts (suc n) w = omega (arith, equal_parts n w)

-- at a step
step_costs : (net : Net) (x : ℕ → ℤ) (t : ℕ) →
    costs_from net x (plan_count net + t * cells_before net.cells (length net.cells)) (columns_of_cells net.cells t) ≡ whole_sum_below (length net.cells) (kept_units net x t)
unfolding columns_of_cells first_column
step_costs net x t =
    let first : ℕ = plan_count net + t * cells_before net.cells (length net.cells) in
    costs_from-join_below net x first (length net.cells) (columns_of_cell net.cells t) (λ j. length (columns_of_cell net.cells 0 j)) (cell_long net.cells t)
    ∙ whole_sum_below-same (length net.cells) (λ i. costs_from net x (first + cells_before net.cells i) (columns_of_cell net.cells t i)) (kept_units net x t) (λ i inside. cell_costs net x t i)

-- at all steps
pub all_costs : (net : Net) (x : ℕ → ℤ) → costs_from net x 0 (columns net) ≡ whole_sum_below net.steps (λ t. whole_sum_below (length net.cells) (kept_units net x t))
unfolding columns
all_costs net x =
    let width : ℕ = cells_before net.cells (length net.cells) in
    let steps : List Column = join_below net.steps (columns_of_cells net.cells) in
    let behind : 0 + length (plan_columns net) ≡ plan_count net = omega (arith, length-plan_columns net) in
    costs_from-append net x 0 (plan_columns net) steps
    ∙ ap (λ (z : ℤ). z +ℤ costs_from net x (0 + length (plan_columns net)) steps) (free_from net x 0 (plan_columns net) (plan_free net))
    ∙ ap (λ n. pos 0 +ℤ costs_from net x n steps) behind
    ∙ (omega (arith, ints))
    ∙ costs_from-join_below net x (plan_count net) net.steps (columns_of_cells net.cells) (λ t. width) (cells_long net.cells)
    ∙ whole_sum_below-same net.steps (λ t. costs_from net x (plan_count net + sum_below t (λ k. width)) (columns_of_cells net.cells t)) (λ t. whole_sum_below (length net.cells) (kept_units net x t))
    (λ t before. ap (λ n. costs_from net x (plan_count net + n) (columns_of_cells net.cells t)) (equal_parts t width) ∙ step_costs net x t)
