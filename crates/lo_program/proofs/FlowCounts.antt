-- How many flow rows there are: of floors, of a move, of a cell at a step, and of all cells and steps.
use Rattle.std.proofs.Common.{◌≡◌, inl, inr, ℕ, zero, suc, ◌+◌, ◌-◌, ◌*◌, ◌<◌, ◌≤◌, List, [], ◌∷◌, ◌++◌, length, refl, ap, ◌∙◌, arith}
use Rattle.std.specs.Prelude.{if◌then◌else◌, nat_lt}
use Rattle.std.proofs.lemmas.Bool.{cases_Bool, lt-ltb, le-ltb}
use Rattle.std.proofs.lemmas.List.{length-append}
use Rattle.listed.specs.Below.{join_below, sum_below}
use Rattle.listed.proofs.JoinLaws.{length-join_below}
use Rattle.ct_base.specs.Access.{cell_of}
use Rattle.ct_base.specs.declared.cell.Cell.{Cell}
use Rattle.ct_base.specs.declared.cell.Out.{Out}
use Rattle.ct_base.specs.declared.cell.Out.TheVariants.{Exit, To, Turns}
use Rattle.ct_base.specs.declared.net.Net.{Net}
use Rattle.program_model.specs.Columns.{Column, Flow, Switch, columns_of_branch, columns_of_branches, columns_of_split, has_room, term_count}
use Rattle.program_model.specs.FlowRows.{branch_rows, branch_terms, branches_rows, conservation_rows, flow_rows, flow_rows_at, further_terms, move_terms, room_rows, split_rows}
use Rattle.program_model.specs.Rows.{SumRow}
use Rattle.program_model.specs.SwitchRows.{Term, least_rows, lower_rows, upper_rows}
use Rattle.program_model.proofs.NumberLaws.{length-split}
use Rattle.lo_program.specs.inner.Counts.{moving_rows, next_row}

-- ---- floors: each is one row, and has two columns

half_of_branch : (cells : List Cell) (t i k : ℕ) (branch : ℕ × ℕ) → 2 * length (branch_rows cells t i k branch) ≡ length (columns_of_branch t i k branch.1)
half_of_branch cells t i k branch = elim (cases_Bool (nat_lt 1 branch.1)) [ inl many ↦ rw many refl | inr one ↦ rw one refl ]

half_of_branches : (cells : List Cell) (t i k : ℕ) (branches : List (ℕ × ℕ)) → 2 * length (branches_rows cells t i k branches) ≡ length (columns_of_branches t i k branches)
half_of_branches cells t i k [] = refl
half_of_branches cells t i k (branch ∷ branches) =
    omega (
      arith,
      half_of_branch cells t i k branch,
      half_of_branches cells t i (k + 1) branches,
      length-append (branch_rows cells t i k branch) (branches_rows cells t i (k + 1) branches),
      length-append (columns_of_branch t i k branch.1) (columns_of_branches t i (k + 1) branches),
    )

pub half_of_split : (cells : List Cell) (t i : ℕ) (out : Out) → 2 * length (split_rows cells t i out) ≡ length (columns_of_split t i out)
half_of_split cells t i Exit = refl
half_of_split cells t i (To b) = refl
half_of_split cells t i (Turns branches) = omega (arith, half_of_branches cells t i 0 branches)

-- as many in each cell and at each step
length_floors : (cells : List Cell) (t i : ℕ) (out : Out) → length (split_rows cells t i out) ≡ length (split_rows [] 0 0 out)
length_floors cells t i out = omega (arith, half_of_split cells t i out, half_of_split [] 0 0 out, length-split t i 0 0 out)

-- ---- a move: a row for its switches, and two for each term

length_lowers : {C : Type 0} (flow : C) (switch : ℕ → C) (count m : ℕ) (terms : List (Term C)) → length (lower_rows flow switch count m terms) ≡ length terms
length_lowers flow switch count m [] = refl
length_lowers flow switch count m (term ∷ terms) = ap suc (length_lowers flow switch count (m + 1) terms)

length_uppers : {C : Type 0} (flow : C) (switch : ℕ → C) (m : ℕ) (terms : List (Term C)) → length (upper_rows flow switch m terms) ≡ length terms
length_uppers flow switch m [] = refl
length_uppers flow switch m (term ∷ terms) = ap suc (length_uppers flow switch (m + 1) terms)

length_least : {C : Type 0} (flow : C) (terms : List (Term C)) (switch : ℕ → C) → length (least_rows flow terms switch) ≡ 1 + 2 * length terms
unfolding least_rows
length_least flow terms switch =
    omega (
      arith,
      length-append (lower_rows flow switch (length terms) 0 terms) (upper_rows flow switch 0 terms),
      length_lowers flow switch (length terms) 0 terms,
      length_uppers flow switch 0 terms,
    )

length_branch_terms : (cells : List Cell) (t i k : ℕ) (branches : List (ℕ × ℕ)) → length (branch_terms cells t i k branches) ≡ length branches
length_branch_terms cells t i k [] = refl
length_branch_terms cells t i k (branch ∷ branches) = ap suc (length_branch_terms cells t i (k + 1) branches)

length_further : (cells : List Cell) (t i : ℕ) (out : Out) → 1 + length (further_terms cells t i out) ≡ term_count out
length_further cells t i Exit = refl
length_further cells t i (To b) = refl
length_further cells t i (Turns branches) = omega (arith, length_branch_terms cells t i 0 branches)

-- ---- a cell at a step

length_room : (cells : List Cell) (t i : ℕ) → length (room_rows cells t i) ≡ (if has_room cells i then 1 else 0)
length_room cells t i = elim (cases_Bool (has_room cells i)) [ inl has ↦ rw has refl | inr none ↦ rw none refl ]

length_next : (cells : List Cell) (steps t i : ℕ) → length (conservation_rows cells steps t i) ≡ next_row steps t
length_next cells steps t i = elim (cases_Bool (nat_lt (t + 1) steps)) [ inl before ↦ rw before refl | inr last ↦ rw last refl ]

length_at : (net : Net) (t i : ℕ) → length (flow_rows_at net t i) ≡ moving_rows net.cells i + next_row net.steps t
unfolding flow_rows_at
length_at net t i =
    let out : Out = (cell_of net.cells i).out in
    let room : List (SumRow Column) = room_rows net.cells t i in
    let floors : List (SumRow Column) = split_rows net.cells t i out in
    let move : List (SumRow Column) = least_rows (Flow t i) (move_terms net t i) (Switch t i) in
    omega (
      arith,
      length-append room floors,
      length-append (room ++ floors) move,
      length-append (room ++ floors ++ move) (conservation_rows net.cells net.steps t i),
      length_room net.cells t i,
      length_floors net.cells t i out,
      length_least (Flow t i) (move_terms net t i) (Switch t i),
      length_further net.cells t i out,
      length_next net.cells net.steps t i,
    )

-- ---- all cells, and all steps

-- the same more for each
sum_with_each : (n more : ℕ) (f : ℕ → ℕ) → sum_below n (λ k. f k + more) ≡ sum_below n f + n * more
unfolding sum_below
sum_with_each zero more f = omega arith
sum_with_each (suc n) more f = omega (arith, sum_with_each n more f)

length_at_step : (net : Net) (t : ℕ) → length (join_below (length net.cells) (flow_rows_at net t)) ≡ sum_below (length net.cells) (moving_rows net.cells) + length net.cells * next_row net.steps t
length_at_step net t =
    length-join_below (length net.cells) (flow_rows_at net t) (λ i. moving_rows net.cells i + next_row net.steps t) (length_at net t)
    ∙ sum_with_each (length net.cells) (next_row net.steps t) (moving_rows net.cells)

-- parts of one length
length_of_equal : {X : Type 0} (n width more : ℕ) (f : ℕ → List X) → ((k : ℕ) → k < n → length (f k) ≡ width + more) → length (join_below n f) ≡ n * width + n * more
unfolding join_below
length_of_equal zero width more f long = omega arith
length_of_equal (suc n) width more f long =
    omega (arith, length-append (join_below n f) (f n), length_of_equal n width more f (λ k inside. long k (omega (arith, inside))), long n (omega arith))

-- every step but the last has more
length_of_steps : {X : Type 0} (steps width more : ℕ) (f : ℕ → List X) → 1 ≤ steps → ((t : ℕ) → length (f t) ≡ width + more * next_row steps t) → length (join_below steps f) ≡ steps * width + (steps - 1) * more
unfolding join_below
length_of_steps zero width more f some long = absurd (omega (arith, some))
length_of_steps (suc n) width more f some long =
    let before : (t : ℕ) → t < n → length (f t) ≡ width + more =
    (λ t inside.
    let next : next_row (suc n) t ≡ 1 = rw (lt-ltb (t + 1) (suc n) (omega (arith, inside))) refl in
    long t ∙ rw next (omega arith)) in
    let last : next_row (suc n) n ≡ 0 = rw (le-ltb (n + 1) (suc n) (omega arith)) refl in
    let end : length (f n) ≡ width = long n ∙ rw last (omega arith) in
    let fewer : suc n - 1 ≡ n = omega arith in
    rw fewer (omega (arith, length-append (join_below n f) (f n), length_of_equal n width more f before, end))

pub length_flows : (net : Net) → 1 ≤ net.steps → length (flow_rows net) ≡ net.steps * sum_below (length net.cells) (moving_rows net.cells) + (net.steps - 1) * length net.cells
unfolding flow_rows
length_flows net some =
    length_of_steps net.steps (sum_below (length net.cells) (moving_rows net.cells)) (length net.cells) (λ t. join_below (length net.cells) (flow_rows_at net t)) some (length_at_step net)
