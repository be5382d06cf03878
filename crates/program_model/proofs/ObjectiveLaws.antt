-- The costs of what the columns count under a plan add up to the plan's delay.
use Rattle.std.proofs.Common.{◌≡◌, inl, inr, ℕ, zero, suc, ◌+◌, ◌*◌, ◌<◌, List, [], ◌∷◌, ◌++◌, length, map, get_or, refl, ap, ◌∙◌, arith}
use Rattle.std.specs.Prelude.{if◌then◌else◌, nat_lt, ℤ, pos, ◌+ℤ◌, ◌*ℤ◌, neg_ℤ}
use Rattle.std.proofs.lemmas.Int.{ints}
use Rattle.std.proofs.lemmas.Bool.{cases_Bool}
use Rattle.listed.specs.Below.{join_below, sum_below, table_of, whole_sum_below}
use Rattle.listed.proofs.WholeSums.{whole_sum_below-pos, whole_sum_below-same}
use Rattle.ct_base.specs.Access.{cell_of, signal_of}
use Rattle.ct_base.specs.declared.cell.Out.{Out}
use Rattle.ct_base.specs.declared.cell.Out.TheVariants.{Exit, To, Turns}
use Rattle.ct_base.specs.declared.net.Net.{Net}
use Rattle.ct_base.specs.declared.plan.Letter.{Letter}
use Rattle.traffic_model.specs.Delay.{cell_delay, delay_of, letters_at, step_delay}
use Rattle.traffic_model.specs.Flow.{flow, outflow, units_of_flow}
use Rattle.traffic_model.specs.Occupancy.{occupancies}
use Rattle.traffic_model.proofs.TrafficLaws.{outflow-le}
use Rattle.program_model.specs.Columns.{Bit, Column, Flow, Room, RoomRest, Switch, Units, bits_at, columns, columns_of_branch, columns_of_branches, columns_of_cell, columns_of_cells, columns_of_split, has_room, letters_of, plan_columns, term_count}
use Rattle.program_model.specs.Values.{cost_of, units_at}
use Rattle.program_model.proofs.PlanFloors.{counted}

-- the sum over the elements of a list
abbrev pub sum_over : {X : Type 0} → (X → ℤ) → List X → ℤ
sum_over f [] = pos 0
sum_over f (x ∷ xs) = f x +ℤ sum_over f xs

-- of two lists together
sum_over-append : {X : Type 0} (f : X → ℤ) (xs ys : List X) → sum_over f (xs ++ ys) ≡ sum_over f xs +ℤ sum_over f ys
sum_over-append f [] ys = omega (arith, ints)
sum_over-append f (x ∷ xs) ys = omega (arith, ints, sum_over-append f xs ys)

-- of a join
sum_over-join_below : {X : Type 0} (f : X → ℤ) (n : ℕ) (parts : ℕ → List X) → sum_over f (join_below n parts) ≡ whole_sum_below n (λ k. sum_over f (parts k))
unfolding join_below whole_sum_below
sum_over-join_below f zero parts = refl
sum_over-join_below f (suc n) parts = sum_over-append f (join_below n parts) (parts n) ∙ ap (λ (z : ℤ). z +ℤ sum_over f (parts n)) (sum_over-join_below f n parts)

-- what costs nothing
costs_nothing : {X : Type 0} (f : X → ℤ) (xs ys : List X) → sum_over f xs ≡ pos 0 → sum_over f (xs ++ ys) ≡ sum_over f ys
costs_nothing f xs ys none = omega (arith, ints, sum_over-append f xs ys, none)

table_costs_nothing : {X : Type 0} (f : X → ℤ) (n : ℕ) (g : ℕ → X) → ((k : ℕ) → f (g k) ≡ pos 0) → sum_over f (table_of n g) ≡ pos 0
unfolding table_of
table_costs_nothing f zero g none = refl
table_costs_nothing f (suc n) g none = omega (arith, ints, sum_over-append f (table_of n g) (g n ∷ []), table_costs_nothing f n g none, none n)

join_costs_nothing : {X : Type 0} (f : X → ℤ) (n : ℕ) (parts : ℕ → List X) → ((k : ℕ) → sum_over f (parts k) ≡ pos 0) → sum_over f (join_below n parts) ≡ pos 0
unfolding join_below
join_costs_nothing f zero parts none = refl
join_costs_nothing f (suc n) parts none = omega (arith, ints, sum_over-append f (join_below n parts) (parts n), join_costs_nothing f n parts none, none n)

-- the first term of a sum, and the others
first_term : (n : ℕ) (g : ℕ → ℤ) → whole_sum_below (suc n) g ≡ g 0 +ℤ whole_sum_below n (λ k. g (suc k))
unfolding whole_sum_below
first_term zero g = omega (arith, ints)
first_term (suc n) g = omega (arith, ints, first_term n g)

-- by the places of a list
from_first : {X : Type 0} (f : X → ℤ) (d : X) (g : ℕ → ℤ) (xs : List X) → ((j : ℕ) → j < length xs → g j ≡ f (get_or xs j d)) → whole_sum_below (length xs) g ≡ sum_over f xs
unfolding whole_sum_below
from_first f d g [] same = refl
from_first f d g (x ∷ xs) same =
    first_term (length xs) g ∙ ap (λ (z : ℤ). z +ℤ whole_sum_below (length xs) (λ k. g (suc k))) (same 0 (omega arith))
    ∙ ap (λ (z : ℤ). f x +ℤ z) (from_first f d (λ k. g (suc k)) xs (λ j inside. same (suc j) (omega (arith, inside))))

pub sum_over-places : {X : Type 0} (f : X → ℤ) (xs : List X) (d : X) → whole_sum_below (length xs) (λ j. f (get_or xs j d)) ≡ sum_over f xs
sum_over-places f xs d = from_first f d (λ j. f (get_or xs j d)) xs (λ j inside. refl)

-- ---- what the columns cost

-- what a column costs under the words of a plan
abbrev pub cost_at : Net → List (List Letter) → Column → ℤ
cost_at net words c = cost_of net c *ℤ counted net words c

bits_cost_nothing : (net : Net) (words : List (List Letter)) (t s : ℕ) (letters : List Letter) → sum_over (cost_at net words) (map (Bit t s) letters) ≡ pos 0
bits_cost_nothing net words t s [] = refl
bits_cost_nothing net words t s (letter ∷ letters) = omega (arith, ints, bits_cost_nothing net words t s letters)

plan_costs_nothing : (net : Net) (words : List (List Letter)) → sum_over (cost_at net words) (plan_columns net) ≡ pos 0
unfolding plan_columns bits_at
plan_costs_nothing net words =
    join_costs_nothing (cost_at net words) net.steps _ (λ t. join_costs_nothing (cost_at net words) (length net.signals) _ (λ s. bits_cost_nothing net words t s (letters_of (signal_of net.signals s))))

branches_cost_nothing : (net : Net) (words : List (List Letter)) (t i k : ℕ) (branches : List (ℕ × ℕ)) → sum_over (cost_at net words) (columns_of_branches t i k branches) ≡ pos 0
branches_cost_nothing net words t i k [] = refl
branches_cost_nothing net words t i k (branch ∷ branches) =
    let here : sum_over (cost_at net words) (columns_of_branch t i k branch.1) ≡ pos 0 = elim (cases_Bool (nat_lt 1 branch.1)) [ inl many ↦ rw many (omega (arith, ints)) | inr one ↦ rw one refl ] in
    costs_nothing (cost_at net words) (columns_of_branch t i k branch.1) (columns_of_branches t i (k + 1) branches) here ∙ branches_cost_nothing net words t i (k + 1) branches

split_costs_nothing : (net : Net) (words : List (List Letter)) (t i : ℕ) (out : Out) → sum_over (cost_at net words) (columns_of_split t i out) ≡ pos 0
split_costs_nothing net words t i Exit = refl
split_costs_nothing net words t i (To b) = refl
split_costs_nothing net words t i (Turns branches) = omega (arith, ints, branches_cost_nothing net words t i 0 branches)

-- what a flow gives back
given_back : (a y : ℕ) (rest : ℤ) → rest ≡ pos 0 → neg_ℤ (pos a) *ℤ pos y +ℤ rest ≡ neg_ℤ (pos (a * y))
given_back zero y rest none = omega (arith, ints, none)
given_back (suc a) y rest none = omega (arith, ints, none)

-- the columns of a cell cost what it holds less what leaves it
cell_costs : (net : Net) (words : List (List Letter)) (t i : ℕ) → sum_over (cost_at net words) (columns_of_cell net.cells t i) ≡ pos (cell_delay net.cells (letters_at words t) (occupancies net.cells (letters_at words) t) i)
unfolding columns_of_cell outflow
cell_costs net words t i =
    let f : Column → ℤ = cost_at net words in
    let out : Out = (cell_of net.cells i).out in
    let units : List ℕ = occupancies net.cells (letters_at words) t in
    let first : List Column = Units t i ∷ (if has_room net.cells i then Room t i ∷ RoomRest t i ∷ [] else []) in
    let held : sum_over f first ≡ pos (units_at net words t i) =
    elim (cases_Bool (has_room net.cells i)) [ inl has ↦ rw has (omega (arith, ints)) | inr none ↦ rw none (omega (arith, ints)) ] in
    let switches : sum_over f (table_of (term_count out) (Switch t i)) ≡ pos 0 = table_costs_nothing f (term_count out) (Switch t i) (λ k. omega (arith, ints)) in
    let last : List Column = Flow t i ∷ table_of (term_count out) (Switch t i) in
    let back : sum_over f last ≡ neg_ℤ (pos (units_of_flow out * flow net.cells (letters_at words t) units i)) =
    given_back (units_of_flow out) (flow net.cells (letters_at words t) units i) (sum_over f (table_of (term_count out) (Switch t i))) switches in
    sum_over-append f (first ++ columns_of_split t i out) last
    ∙ (omega (arith, ints, sum_over-append f first (columns_of_split t i out), held, split_costs_nothing net words t i out, back, outflow-le net.cells (letters_at words t) units i))

-- all columns cost the delay
pub columns_cost_the_delay : (net : Net) (words : List (List Letter)) → sum_over (cost_at net words) (columns net) ≡ pos (delay_of net.cells (letters_at words) net.steps)
unfolding columns columns_of_cells delay_of step_delay
columns_cost_the_delay net words =
    let f : Column → ℤ = cost_at net words in
    let delay : ℕ → ℕ → ℕ = λ t i. cell_delay net.cells (letters_at words t) (occupancies net.cells (letters_at words) t) i in
    costs_nothing f (plan_columns net) (join_below net.steps (columns_of_cells net.cells)) (plan_costs_nothing net words)
    ∙ sum_over-join_below f net.steps (columns_of_cells net.cells)
    ∙ whole_sum_below-same net.steps (λ t. sum_over f (columns_of_cells net.cells t)) (λ t. pos (sum_below (length net.cells) (delay t)))
    (λ t before. sum_over-join_below f (length net.cells) (columns_of_cell net.cells t)
    ∙ whole_sum_below-same (length net.cells) (λ i. sum_over f (columns_of_cell net.cells t i)) (λ i. pos (delay t i)) (λ i inside. cell_costs net words t i)
    ∙ whole_sum_below-pos (length net.cells) (delay t))
    ∙ whole_sum_below-pos net.steps (λ t. sum_below (length net.cells) (delay t))
