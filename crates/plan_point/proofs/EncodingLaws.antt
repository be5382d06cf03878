-- The parts of a point, as they are added one after the other, are what the columns count.
use Rattle.std.proofs.Common.{◌≡◌, inl, inr, ℕ, zero, suc, ◌+◌, ◌<◌, ◌≢◌, Bool, true, List, [], ◌∷◌, ◌++◌, length, map, get_or, slice_index, refl, ap, ◌∙◌, sym, arith, append-nil, append_assoc}
use Rattle.std.specs.Prelude.{◌==◌, if◌then◌else◌, nat_lt, flat_map, position, unwrap_or, ℤ, pos}
use Rattle.std.specs.List.{position_or_len}
use Rattle.std.proofs.lemmas.Bool.{and_parts, cases_Bool, eq-eqb, le-ltb, lt-ltb, ltb-true, ne_eqb}
use Rattle.std.proofs.lemmas.List.Sums.{position_or_len_is}
use Rattle.std.proofs.lemmas.List.{length-map, map-append}
use Rattle.listed.specs.Below.{join_below, table_of}
use Rattle.listed.proofs.JoinLaws.{join_below-same, join_below-suc}
use Rattle.ct_base.specs.Access.{cell_of, signal_of}
use Rattle.ct_base.specs.Validity.{IsOfKind, IsValid}
use Rattle.ct_base.specs.declared.cell.Cell.{Cell}
use Rattle.ct_base.specs.declared.cell.Kind.{Kind}
use Rattle.ct_base.specs.declared.cell.Kind.TheVariants.{Queue, Road}
use Rattle.ct_base.specs.declared.cell.Out.{Out}
use Rattle.ct_base.specs.declared.cell.Out.TheVariants.{Exit, To, Turns}
use Rattle.ct_base.specs.declared.net.Net.{Net}
use Rattle.ct_base.specs.declared.plan.Letter.{Letter}
use Rattle.ct_base.specs.declared.plan.Letter.TheVariants.{Clear}
use Rattle.traffic_model.proofs.LetterLaws.{letters_at-signal}
use Rattle.traffic_model.specs.Delay.{letters_at}
use Rattle.traffic_model.specs.Flow.{first_least, flow, further_terms, least, letter_of, terms}
use Rattle.traffic_model.specs.Occupancy.{occupancies}
use Rattle.program_model.specs.Columns.{Bit, Column, Flow, Room, RoomRest, Switch, Units, bits_at, columns, columns_of_branch, columns_of_branches, columns_of_cell, columns_of_cells, columns_of_split, has_room, letters_of, plan_columns, term_count}
use Rattle.program_model.specs.Points.{point_of}
use Rattle.program_model.specs.Values.{branch_of, one_where, value_of}
use Rattle.plan_point.specs.inner.Points.{bit_count, branch_counts, cell_counts, counts, move_counts, split_counts, unit_counts}

-- ---- lists that are added to

-- nothing has been added yet
pub none_added : {X : Type 0} (before nothing : List X) → nothing ≡ [] → before ≡ before ++ nothing
none_added before nothing none = sym (ap (λ list. before ++ list) none ∙ append-nil before)

-- one part more has been added
pub part_added : {X : Type 0} (before so_far part values after whole : List X) → values ≡ before ++ so_far → after ≡ values ++ part → whole ≡ so_far ++ part → after ≡ before ++ whole
part_added before so_far part values after whole was added is =
    added ∙ ap (λ list. list ++ part) was ∙ append_assoc before so_far part ∙ ap (λ list. before ++ list) (sym is)

-- what the lists below one more count
pub map-join_below-suc : {X Y : Type 0} (f : X → Y) (n : ℕ) (parts : ℕ → List X) → map f (join_below (n + 1) parts) ≡ map f (join_below n parts) ++ map f (parts n)
map-join_below-suc f n parts = ap (map f) (join_below-suc n parts) ∙ map-append f (join_below n parts) (parts n)

-- what joined lists count is joined
pub map-join_below : {X Y : Type 0} (f : X → Y) (n : ℕ) (parts : ℕ → List X) → map f (join_below n parts) ≡ join_below n (λ k. map f (parts k))
unfolding join_below
map-join_below f zero parts = refl
map-join_below f (suc n) parts = map-append f (join_below n parts) (parts n) ∙ ap (λ list. list ++ map f (parts n)) (map-join_below f n parts)

-- what a table counts is a table
pub map-table_of : {X Y : Type 0} (f : X → Y) (n : ℕ) (g : ℕ → X) → map f (table_of n g) ≡ table_of n (λ k. f (g k))
unfolding table_of
map-table_of f zero g = refl
map-table_of f (suc n) g = map-append f (table_of n g) (g n ∷ []) ∙ ap (λ list. list ++ f (g n) ∷ []) (map-table_of f n g)

-- ---- bits

-- the bits of a signal that shows a letter
bits_of_letters : (net : Net) (words : List (List Letter)) (t s : ℕ) (shown : Letter) (letters : List Letter) → shown ≡ letter_of (letters_at words t) s →
    map (bit_count shown) letters ≡ counts net words (map (Bit t s) letters)
bits_of_letters net words t s shown [] is = refl
bits_of_letters net words t s shown (letter ∷ letters) is =
    ap (λ (other : Letter). bit_count other letter ∷ map (bit_count shown) letters) is
    ∙ ap (λ list. bit_count (letter_of (letters_at words t) s) letter ∷ list) (bits_of_letters net words t s shown letters is)

-- the bits of a step
pub bits_of_step_count : (net : Net) (words : List (List Letter)) (t : ℕ) → length words ≡ length net.signals →
    join_below (length words) (λ s. map (bit_count (get_or (get_or words s []) t (Clear 0))) (letters_of (signal_of net.signals s))) ≡ counts net words (bits_at net.signals t)
unfolding bits_at
bits_of_step_count net words t long =
    join_below-same (length words) (λ s. map (bit_count (get_or (get_or words s []) t (Clear 0))) (letters_of (signal_of net.signals s)))
    (λ s. counts net words (map (Bit t s) (letters_of (signal_of net.signals s))))
    (λ s inside. bits_of_letters net words t s (get_or (get_or words s []) t (Clear 0)) (letters_of (signal_of net.signals s)) (sym (letters_at-signal words t s inside)))
    ∙ ap (λ n. join_below n (λ s. counts net words (map (Bit t s) (letters_of (signal_of net.signals s))))) long
    ∙ sym (map-join_below (λ (c : Column). pos (value_of net words c)) (length net.signals) (λ s. map (Bit t s) (letters_of (signal_of net.signals s))))

-- ---- cells

-- the units that a cell has room for are a column for road cells alone
wide_is_road : (kind : Kind) (steps : ℕ) (cell : Cell) → IsOfKind kind steps cell → 1 < cell.wave_q → kind ≡ Road
wide_is_road Queue steps cell is wide = absurd (omega (arith, is.wave_q, wide))
wide_is_road Road steps cell is wide = refl

pub room_is_road : (net : Net) (i : ℕ) → IsValid net → i < length net.cells → has_room net.cells i ≡ true → (cell_of net.cells i).kind ≡ Road
room_is_road net i valid inside has =
    wide_is_road (cell_of net.cells i).kind net.steps (cell_of net.cells i) (valid.each_cell i inside).kind
    (ltb-true 1 (cell_of net.cells i).wave_q (and_parts (nat_lt 1 (cell_of net.cells i).wave_q) _ has).0)

-- the units of a cell, and its room
units_count : (net : Net) (words : List (List Letter)) (t i : ℕ) →
    counts net words (Units t i ∷ (if has_room net.cells i then Room t i ∷ RoomRest t i ∷ [] else [])) ≡ unit_counts net.cells (occupancies net.cells (letters_at words) t) i
units_count net words t i =
    elim (cases_Bool (has_room net.cells i)) [ inl has ↦ rw has refl | inr none ↦ rw none refl ]

-- the branches of a diverge, of which the first has number m
branches_count : (net : Net) (words : List (List Letter)) (t i m : ℕ) (branches : List (ℕ × ℕ)) →
    ((k : ℕ) → k < length branches → branch_of (cell_of net.cells i).out (m + k) ≡ get_or branches k (0, 1)) →
    counts net words (columns_of_branches t i m branches) ≡ flat_map (branch_counts net.cells (occupancies net.cells (letters_at words) t)) branches
branches_count net words t i m [] are = refl
branches_count net words t i m (branch ∷ branches) are =
    let units : List ℕ = occupancies net.cells (letters_at words) t in
    let at : m + 0 ≡ m = omega arith in
    let here : branch_of (cell_of net.cells i).out m ≡ branch = ap (branch_of (cell_of net.cells i).out) (sym at) ∙ are 0 (omega arith) in
    let first : counts net words (columns_of_branch t i m branch.1) ≡ branch_counts net.cells units branch =
    elim (cases_Bool (nat_lt 1 branch.1)) [
      | inl many ↦ rw (many, here) refl
      | inr one ↦ rw one refl
    ] in
    let rest : counts net words (columns_of_branches t i (m + 1) branches) ≡ flat_map (branch_counts net.cells units) branches =
    branches_count net words t i (m + 1) branches
    (λ k inside. let next : m + 1 + k ≡ m + suc k = omega arith in ap (branch_of (cell_of net.cells i).out) next ∙ are (suc k) (omega (arith, inside))) in
    map-append (λ (c : Column). pos (value_of net words c)) (columns_of_branch t i m branch.1) (columns_of_branches t i (m + 1) branches)
    ∙ ap (λ list. list ++ counts net words (columns_of_branches t i (m + 1) branches)) first
    ∙ ap (λ list. branch_counts net.cells units branch ++ list) rest

-- a diverge
split_count : (net : Net) (words : List (List Letter)) (t i : ℕ) (out : Out) → (cell_of net.cells i).out ≡ out →
    counts net words (columns_of_split t i out)
    ≡ split_counts net.cells (occupancies net.cells (letters_at words) t) (slice_index (occupancies net.cells (letters_at words) t) i) out
split_count net words t i Exit is = refl
split_count net words t i (To b) is = refl
split_count net words t i (Turns branches) is =
    let units : List ℕ = occupancies net.cells (letters_at words) t in
    let rest : counts net words (columns_of_branches t i 0 branches) ≡ flat_map (branch_counts net.cells units) branches =
    branches_count net words t i 0 branches
    (λ k inside. let at : 0 + k ≡ k = omega arith in ap (branch_of (cell_of net.cells i).out) at ∙ ap (λ (o : Out). branch_of o k) is) in
    rw (is, rest) refl

-- as many terms as there are switches
further_count : (cells : List Cell) (units : List ℕ) (i : ℕ) (out : Out) → 1 + length (further_terms cells units i out) ≡ term_count out
further_count cells units i Exit = refl
further_count cells units i (To b) = refl
further_count cells units i (Turns branches) = simp length-map (omega arith)

-- the flow of a move, and its switches
move_count : (net : Net) (words : List (List Letter)) (t i : ℕ) →
    counts net words (Flow t i ∷ table_of (term_count (cell_of net.cells i).out) (Switch t i))
    ≡ move_counts (terms net.cells (letters_at words t) (occupancies net.cells (letters_at words) t) i)
unfolding flow
move_count net words t i =
    let units : List ℕ = occupancies net.cells (letters_at words) t in
    let all : List ℕ = terms net.cells (letters_at words t) units i in
    let long : term_count (cell_of net.cells i).out ≡ length all =
    sym (further_count net.cells units i (cell_of net.cells i).out) ∙ (omega arith) in
    ap (λ list. pos (least all) ∷ list)
    (map-table_of (λ (c : Column). pos (value_of net words c)) (term_count (cell_of net.cells i).out) (Switch t i)
    ∙ ap (λ n. table_of n (λ m. pos (value_of net words (Switch t i m)))) long)

-- the columns of a cell
pub cell_count : (net : Net) (words : List (List Letter)) (t i : ℕ) →
    counts net words (columns_of_cell net.cells t i) ≡ cell_counts net.cells (letters_at words t) (occupancies net.cells (letters_at words) t) i
unfolding columns_of_cell cell_counts
cell_count net words t i =
    let units : List ℕ = occupancies net.cells (letters_at words) t in
    let count : Column → ℤ = λ c. pos (value_of net words c) in
    let out : Out = (cell_of net.cells i).out in
    let first : List Column = Units t i ∷ (if has_room net.cells i then Room t i ∷ RoomRest t i ∷ [] else []) in
    let middle : List Column = columns_of_split t i out in
    let last : List Column = Flow t i ∷ table_of (term_count out) (Switch t i) in
    map-append count (first ++ middle) last
    ∙ ap (λ list. list ++ map count last) (map-append count first middle)
    ∙ ap (λ list. (list ++ map count middle) ++ map count last) (units_count net words t i)
    ∙ ap (λ list. (unit_counts net.cells units i ++ list) ++ map count last) (split_count net words t i out refl)
    ∙ ap (λ list. (unit_counts net.cells units i ++ split_counts net.cells units (slice_index units i) out) ++ list) (move_count net words t i)

-- the columns of all cells at a step
pub cells_count : (net : Net) (words : List (List Letter)) (t : ℕ) (letters : List Letter) (units : List ℕ) → letters ≡ letters_at words t → units ≡ occupancies net.cells (letters_at words) t →
    join_below (length net.cells) (cell_counts net.cells letters units) ≡ counts net words (columns_of_cells net.cells t)
unfolding columns_of_cells
cells_count net words t letters units shows holds =
    ap (λ (list : List Letter). join_below (length net.cells) (cell_counts net.cells list units)) shows
    ∙ ap (λ (list : List ℕ). join_below (length net.cells) (cell_counts net.cells (letters_at words t) list)) holds
    ∙ join_below-same (length net.cells) (cell_counts net.cells (letters_at words t) (occupancies net.cells (letters_at words) t)) (λ i. counts net words (columns_of_cell net.cells t i))
    (λ i inside. sym (cell_count net words t i))
    ∙ sym (map-join_below (λ (c : Column). pos (value_of net words c)) (length net.cells) (columns_of_cell net.cells t))

-- ---- the whole point

-- bits first, and then the columns of the cells step by step
pub point_of-parts : (net : Net) (words : List (List Letter)) →
    point_of net words ≡ counts net words (plan_columns net) ++ counts net words (join_below net.steps (columns_of_cells net.cells))
unfolding point_of columns
point_of-parts net words = map-append (λ (c : Column). pos (value_of net words c)) (plan_columns net) (join_below net.steps (columns_of_cells net.cells))

-- the point is whole where all steps have been added
pub point_added : (net : Net) (words : List (List Letter)) (empty bits all : List ℤ) → empty ≡ [] → bits ≡ empty ++ counts net words (plan_columns net) →
    all ≡ bits ++ counts net words (join_below net.steps (columns_of_cells net.cells)) → all ≡ point_of net words
point_added net words empty bits all none first last =
    last
    ∙ ap (λ list. list ++ counts net words (join_below net.steps (columns_of_cells net.cells))) (first ∙ ap (λ list. list ++ counts net words (plan_columns net)) none)
    ∙ sym (point_of-parts net words)

-- ---- what is added of a cell

-- the first of some terms that is the least of them
pub first_place_is : (terms : List ℕ) (least i : ℕ) → i < length terms → ((k : ℕ) → k < i → get_or terms k 0 ≢ least) → get_or terms i 0 ≡ least →
    i ≡ unwrap_or (position (λ term. term == least) terms) 0
first_place_is terms least i inside before here =
    let test : ℕ → Bool = λ term. term == least in
    let place : position_or_len test terms ≡ i =
    position_or_len_is test terms i 0 (omega arith) (λ k below. ne_eqb (get_or terms k 0) least (before k below)) (λ within. eq-eqb (get_or terms i 0) least here) in
    rw (place, lt-ltb i (length terms) inside) refl

-- none of them is
pub no_place_is : (terms : List ℕ) (least : ℕ) → ((k : ℕ) → k < length terms → get_or terms k 0 ≢ least) → 0 ≡ unwrap_or (position (λ term. term == least) terms) 0
no_place_is terms least none =
    let test : ℕ → Bool = λ term. term == least in
    let place : position_or_len test terms ≡ length terms =
    position_or_len_is test terms (length terms) 0 (omega arith) (λ k below. ne_eqb (get_or terms k 0) least (none k below)) (λ within. absurd (omega arith)) in
    rw (place, le-ltb (length terms) (length terms) (omega arith)) refl

-- the flow of a move, and its switches
pub move_added : (before values after : List ℤ) (terms : List ℕ) (flow place count : ℕ) → flow ≡ least terms → place ≡ unwrap_or (position (λ term. term == flow) terms) 0 → count ≡ length terms →
    values ≡ before ++ pos flow ∷ [] → after ≡ values ++ table_of count (λ m. pos (one_where (m == place))) → after ≡ before ++ move_counts terms
move_added before values after terms flow place count is at long was added =
    let first : place ≡ first_least terms = at ∙ ap (λ n. unwrap_or (position (λ term. term == n) terms) 0) is in
    part_added before (pos flow ∷ []) (table_of count (λ m. pos (one_where (m == place)))) values after (pos flow ∷ table_of count (λ m. pos (one_where (m == place)))) was added refl
    ∙ ap (λ n. before ++ pos n ∷ table_of count (λ m. pos (one_where (m == place)))) is
    ∙ ap (λ n. before ++ pos (least terms) ∷ table_of n (λ m. pos (one_where (m == place)))) long
    ∙ ap (λ n. before ++ pos (least terms) ∷ table_of (length terms) (λ m. pos (one_where (m == n)))) first

-- the units of a cell, its split and its move
pub cell_added : (cells : List Cell) (letters : List Letter) (units found : List ℕ) (i : ℕ) (before first second third : List ℤ) →
    first ≡ before ++ unit_counts cells units i → second ≡ first ++ split_counts cells units (slice_index units i) (cell_of cells i).out →
    found ≡ terms cells letters units i → third ≡ second ++ move_counts found → third ≡ before ++ cell_counts cells letters units i
unfolding cell_counts
cell_added cells letters units found i before first second third one two is three =
    let split : List ℤ = split_counts cells units (slice_index units i) (cell_of cells i).out in
    let both : second ≡ before ++ (unit_counts cells units i ++ split) = part_added before (unit_counts cells units i) split first second (unit_counts cells units i ++ split) one two refl in
    part_added before (unit_counts cells units i ++ split) (move_counts (terms cells letters units i)) second third ((unit_counts cells units i ++ split) ++ move_counts (terms cells letters units i)) both
    (three ∙ ap (λ list. second ++ move_counts list) is) refl
