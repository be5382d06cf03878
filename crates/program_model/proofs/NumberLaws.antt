-- Each column of a program stands in the list of columns at its number.
use Rattle.std.proofs.Common.{◌≡◌, inl, inr, ℕ, zero, suc, ◌+◌, ◌*◌, ◌<◌, List, [], ◌∷◌, ◌++◌, length, map, get_or, refl, ap, ◌∙◌, sym, arith}
use Rattle.std.specs.Prelude.{if◌then◌else◌, nat_lt}
use Rattle.std.proofs.lemmas.Bool.{cases_Bool}
use Rattle.std.proofs.lemmas.List.{get_or-append-add, get_or_append_left, get_or-map, length-append, length-map}
use Rattle.listed.specs.Below.{join_below, sum_below, table_of}
use Rattle.listed.proofs.JoinLaws.{get_or-join_below, length-join_below}
use Rattle.listed.proofs.SumLaws.{sum_below-fewer, sum_below-suc}
use Rattle.listed.proofs.TableLaws.{length-table_of}
use Rattle.ct_base.specs.Access.{cell_of, phase_of, signal_of}
use Rattle.ct_base.specs.declared.cell.Cell.{Cell}
use Rattle.ct_base.specs.declared.cell.Out.{Out}
use Rattle.ct_base.specs.declared.cell.Out.TheVariants.{Exit, To, Turns}
use Rattle.ct_base.specs.declared.net.Net.{Net}
use Rattle.ct_base.specs.declared.plan.Letter.{Letter}
use Rattle.ct_base.specs.declared.plan.Letter.TheVariants.{Green, Clear}
use Rattle.ct_base.specs.declared.signal.Signal.{Signal}
use Rattle.program_model.specs.Columns.{Bit, Column, Flow, Room, RoomRest, Switch, Units, bits_at, columns, columns_of_branch, columns_of_branches, columns_of_cell, columns_of_cells, columns_of_split, has_room, letters_by, letters_of, plan_columns, term_count}
use Rattle.program_model.specs.Existence.{IsLetterOf, IsPlace}
use Rattle.program_model.specs.Numbers.{after_room, bits_before, bits_of_step, cells_before, first_column, letters_before, number_of, place_of_flow, place_of_letter, plan_count}

-- equal parts add up to a product
sum_below-equal : (n w : ℕ) → sum_below n (λ k. w) ≡ n * w
unfolding sum_below
sum_below-equal zero w = omega arith
sum_below-equal (suc n) w = omega (arith, sum_below-equal n w)

-- a place in part k of a join lies within the whole
part_within : (n k r : ℕ) (count : ℕ → ℕ) → k < n → r < count k → sum_below k count + r < sum_below n count
part_within n k r count inside within = omega (arith, sum_below-fewer (k + 1) n count (omega (arith, inside)), sum_below-suc k count, within)

-- ---- the letters of a signal

letters_at_place : (signal : Signal) (p r : ℕ) (d : Letter) → p < length signal.phases → r < length (letters_by p (phase_of signal p).clear) →
    get_or (letters_of signal) (letters_before signal p + r) d ≡ get_or (letters_by p (phase_of signal p).clear) r d
unfolding letters_of
letters_at_place signal p r d inside within =
    get_or-join_below (length signal.phases) (λ q. letters_by q (phase_of signal q).clear) (λ q. length (letters_by q (phase_of signal q).clear)) p r d (λ q. refl) inside within

green_first : (p clear : ℕ) (d : Letter) → get_or (letters_by p clear) 0 d ≡ Green p
green_first p zero d = refl
green_first p (suc clear) d = refl

some_letter : (p clear : ℕ) → 0 < length (letters_by p clear)
some_letter p zero = omega arith
some_letter p (suc clear) = omega arith

clear_second : (p clear : ℕ) (d : Letter) → 0 < clear → (1 < length (letters_by p clear)) × (get_or (letters_by p clear) 1 d ≡ Clear p)
clear_second p zero d some = absurd (omega (arith, some))
clear_second p (suc clear) d some = (omega arith, refl)

length-letters_of : (signal : Signal) → length (letters_of signal) ≡ letters_before signal (length signal.phases)
unfolding letters_of
length-letters_of signal = length-join_below (length signal.phases) (λ q. letters_by q (phase_of signal q).clear) (λ q. length (letters_by q (phase_of signal q).clear)) (λ q. refl)

-- a letter stands at its place
letter_stands : (signal : Signal) (letter : Letter) (d : Letter) → IsLetterOf signal letter →
    (place_of_letter signal letter < length (letters_of signal)) × (get_or (letters_of signal) (place_of_letter signal letter) d ≡ letter)
letter_stands signal (Green p) d of =
    let some : 0 < length (letters_by p (phase_of signal p).clear) = some_letter p (phase_of signal p).clear in
    let at : letters_before signal p + 0 ≡ letters_before signal p = omega arith in (
      omega (arith, length-letters_of signal, part_within (length signal.phases) p 0 (λ q. length (letters_by q (phase_of signal q).clear)) of some),
      ap (λ n. get_or (letters_of signal) n d) (sym at) ∙ letters_at_place signal p 0 d of some ∙ green_first p (phase_of signal p).clear d,
    )
letter_stands signal (Clear p) d of =
    let second : (1 < length (letters_by p (phase_of signal p).clear)) × (get_or (letters_by p (phase_of signal p).clear) 1 d ≡ Clear p) = clear_second p (phase_of signal p).clear d of.1 in (
      omega (arith, length-letters_of signal, part_within (length signal.phases) p 1 (λ q. length (letters_by q (phase_of signal q).clear)) of.0 second.0),
      letters_at_place signal p 1 d of.0 second.0 ∙ second.1,
    )

-- ---- the plan columns

length-bits_at : (signals : List Signal) (t : ℕ) → length (bits_at signals t) ≡ bits_of_step signals
unfolding bits_at
length-bits_at signals t =
    length-join_below (length signals) (λ s. map (Bit t s) (letters_of (signal_of signals s))) (λ s. length (letters_of (signal_of signals s))) (λ s. length-map (letters_of (signal_of signals s)) (Bit t s))

pub length-plan_columns : (net : Net) → length (plan_columns net) ≡ plan_count net
unfolding plan_columns
length-plan_columns net =
    length-join_below net.steps (bits_at net.signals) (λ t. bits_of_step net.signals) (length-bits_at net.signals) ∙ sum_below-equal net.steps (bits_of_step net.signals)

-- a bit stands at its number
pub bit_stands : (net : Net) (t s : ℕ) (letter : Letter) (d : Column) → t < net.steps → s < length net.signals → IsLetterOf (signal_of net.signals s) letter →
    (number_of net (Bit t s letter) < plan_count net) × (get_or (plan_columns net) (number_of net (Bit t s letter)) d ≡ Bit t s letter)
unfolding plan_columns bits_at
bit_stands net t s letter d before inside of =
    let signal : Signal = signal_of net.signals s in
    let place : ℕ = place_of_letter signal letter in
    let stands : (place < length (letters_of signal)) × (get_or (letters_of signal) place (Clear 0) ≡ letter) = letter_stands signal letter (Clear 0) of in
    let counts : ℕ → ℕ = λ r. length (letters_of (signal_of net.signals r)) in
    let within : bits_before net.signals s + place < bits_of_step net.signals = part_within (length net.signals) s place counts inside stands.0 in
    let steps : sum_below t (λ k. bits_of_step net.signals) ≡ t * bits_of_step net.signals = sum_below-equal t (bits_of_step net.signals) in
    let all : sum_below net.steps (λ k. bits_of_step net.signals) ≡ plan_count net = sum_below-equal net.steps (bits_of_step net.signals) in
    let at : number_of net (Bit t s letter) ≡ sum_below t (λ k. bits_of_step net.signals) + (bits_before net.signals s + place) = omega (arith, steps) in (
      omega (arith, at, all, part_within net.steps t (bits_before net.signals s + place) (λ k. bits_of_step net.signals) before within),
      ap (λ n. get_or (plan_columns net) n d) at
          ∙ get_or-join_below net.steps (bits_at net.signals) (λ k. bits_of_step net.signals) t (bits_before net.signals s + place) d (length-bits_at net.signals) before within
          ∙ get_or-join_below (length net.signals) (λ r. map (Bit t r) (letters_of (signal_of net.signals r))) counts s place d
          (λ r. length-map (letters_of (signal_of net.signals r)) (Bit t r)) inside stands.0
          ∙ get_or-map (Bit t s) (letters_of signal) place (Clear 0) d stands.0
          ∙ ap (Bit t s) stands.1,
    )

-- ---- the columns of a cell

-- the columns of a cell before its flow: its units, and its room
abbrev pub units_and_room : List Cell → ℕ → ℕ → List Column
units_and_room cells t i = Units t i ∷ (if has_room cells i then Room t i ∷ RoomRest t i ∷ [] else [])

-- its flow, and the switches of its move
abbrev pub flow_and_switches : ℕ → ℕ → ℕ → List Column
flow_and_switches t i count = Flow t i ∷ table_of count (Switch t i)

length-units_and_room : (cells : List Cell) (t i : ℕ) → length (units_and_room cells t i) ≡ after_room cells i
length-units_and_room cells t i = elim (cases_Bool (has_room cells i)) [ inl has ↦ rw has | inr none ↦ rw none ]

-- a branch has two columns or none
pub length-branch : (t i k units : ℕ) → length (columns_of_branch t i k units) ≡ (if nat_lt 1 units then 2 else 0)
length-branch t i k units = elim (cases_Bool (nat_lt 1 units)) [ inl many ↦ rw many | inr one ↦ rw one ]

-- as many at each step
length-branches : (t i k u j m : ℕ) (branches : List (ℕ × ℕ)) → length (columns_of_branches t i k branches) ≡ length (columns_of_branches u j m branches)
length-branches t i k u j m [] = refl
length-branches t i k u j m (branch ∷ branches) =
    length-append (columns_of_branch t i k branch.1) (columns_of_branches t i (k + 1) branches)
    ∙ (omega (arith, length-branch t i k branch.1, length-branch u j m branch.1, length-branches t i (k + 1) u j (m + 1) branches))
    ∙ sym (length-append (columns_of_branch u j m branch.1) (columns_of_branches u j (m + 1) branches))

pub length-split : (t i u j : ℕ) (out : Out) → length (columns_of_split t i out) ≡ length (columns_of_split u j out)
length-split t i u j Exit = refl
length-split t i u j (To b) = refl
length-split t i u j (Turns branches) = ap (λ n. suc (suc n)) (length-branches t i 0 u j 0 branches)

-- how many columns a cell has
pub length-cell : (cells : List Cell) (t i : ℕ) → length (columns_of_cell cells t i) ≡ place_of_flow cells i + 1 + term_count (cell_of cells i).out
unfolding columns_of_cell
length-cell cells t i =
    let out : Out = (cell_of cells i).out in
    length-append (units_and_room cells t i ++ columns_of_split t i out) (flow_and_switches t i (term_count out))
    ∙ (omega (arith, length-append (units_and_room cells t i) (columns_of_split t i out), length-units_and_room cells t i, length-split t i 0 0 out, length-table_of (term_count out) (Switch t i)))

same_count : (cells : List Cell) (t i : ℕ) → length (columns_of_cell cells t i) ≡ length (columns_of_cell cells 0 i)
same_count cells t i = length-cell cells t i ∙ sym (length-cell cells 0 i)

-- a column of the first part of a cell's
pub in_first : (cells : List Cell) (t i r : ℕ) (d : Column) → r < after_room cells i → get_or (columns_of_cell cells t i) r d ≡ get_or (units_and_room cells t i) r d
unfolding columns_of_cell
in_first cells t i r d inside =
    let out : Out = (cell_of cells i).out in
    let first : r < length (units_and_room cells t i) = omega (arith, inside, length-units_and_room cells t i) in
    get_or_append_left (units_and_room cells t i ++ columns_of_split t i out) (flow_and_switches t i (term_count out)) d r
    (omega (arith, first, length-append (units_and_room cells t i) (columns_of_split t i out)))
    ∙ get_or_append_left (units_and_room cells t i) (columns_of_split t i out) d r first

-- one of its split
pub in_split : (cells : List Cell) (t i r : ℕ) (d : Column) → r < length (columns_of_split t i (cell_of cells i).out) →
    get_or (columns_of_cell cells t i) (after_room cells i + r) d ≡ get_or (columns_of_split t i (cell_of cells i).out) r d
unfolding columns_of_cell
in_split cells t i r d inside =
    let out : Out = (cell_of cells i).out in
    let place : length (units_and_room cells t i) + r ≡ after_room cells i + r = omega (arith, length-units_and_room cells t i) in
    get_or_append_left (units_and_room cells t i ++ columns_of_split t i out) (flow_and_switches t i (term_count out)) d (after_room cells i + r)
    (omega (arith, inside, place, length-append (units_and_room cells t i) (columns_of_split t i out)))
    ∙ ap (λ n. get_or (units_and_room cells t i ++ columns_of_split t i out) n d) (sym place)
    ∙ get_or-append-add (units_and_room cells t i) (columns_of_split t i out) r d

-- its flow and its switches
pub in_last : (cells : List Cell) (t i r : ℕ) (d : Column) → get_or (columns_of_cell cells t i) (place_of_flow cells i + r) d ≡ get_or (flow_and_switches t i (term_count (cell_of cells i).out)) r d
unfolding columns_of_cell
in_last cells t i r d =
    let out : Out = (cell_of cells i).out in
    let before : List Column = units_and_room cells t i ++ columns_of_split t i out in
    let place : length before + r ≡ place_of_flow cells i + r =
    omega (arith, length-append (units_and_room cells t i) (columns_of_split t i out), length-units_and_room cells t i, length-split t i 0 0 out) in
    ap (λ n. get_or (before ++ flow_and_switches t i (term_count out)) n d) (sym place)
    ∙ get_or-append-add before (flow_and_switches t i (term_count out)) r d

-- ---- the columns of all cells

length-cells : (cells : List Cell) (t : ℕ) → length (columns_of_cells cells t) ≡ cells_before cells (length cells)
unfolding columns_of_cells
length-cells cells t = length-join_below (length cells) (columns_of_cell cells t) (λ j. length (columns_of_cell cells 0 j)) (same_count cells t)

pub length-columns : (net : Net) → length (columns net) ≡ plan_count net + net.steps * cells_before net.cells (length net.cells)
unfolding columns
length-columns net =
    length-append (plan_columns net) (join_below net.steps (columns_of_cells net.cells))
    ∙ (omega (
      arith,
      length-plan_columns net,
      length-join_below net.steps (columns_of_cells net.cells) (λ t. cells_before net.cells (length net.cells)) (length-cells net.cells),
      sum_below-equal net.steps (cells_before net.cells (length net.cells)),
    ))

-- a column of cell i at step t stands as far behind the first of them as among them
pub cell_stands : (net : Net) (t i r : ℕ) (d : Column) → IsPlace net t i → r < length (columns_of_cell net.cells 0 i) →
    (first_column net t i + r < length (columns net)) × (get_or (columns net) (first_column net t i + r) d ≡ get_or (columns_of_cell net.cells t i) r d)
unfolding columns columns_of_cells first_column
cell_stands net t i r d place within =
    let counts : ℕ → ℕ = λ j. length (columns_of_cell net.cells 0 j) in
    let width : ℕ = cells_before net.cells (length net.cells) in
    let inner : cells_before net.cells i + r < width = part_within (length net.cells) i r counts place.inside within in
    let steps : sum_below t (λ k. width) ≡ t * width = sum_below-equal t width in
    let all : sum_below net.steps (λ k. width) ≡ net.steps * width = sum_below-equal net.steps width in
    let at : first_column net t i + r ≡ length (plan_columns net) + (sum_below t (λ k. width) + (cells_before net.cells i + r)) = omega (arith, steps, length-plan_columns net) in (
      omega (arith, at, all, length-columns net, length-plan_columns net, part_within net.steps t (cells_before net.cells i + r) (λ k. width) place.before inner),
      ap (λ n. get_or (columns net) n d) at
          ∙ get_or-append-add (plan_columns net) (join_below net.steps (columns_of_cells net.cells)) (sum_below t (λ k. width) + (cells_before net.cells i + r)) d
          ∙ get_or-join_below net.steps (columns_of_cells net.cells) (λ k. width) t (cells_before net.cells i + r) d (length-cells net.cells) place.before inner
          ∙ get_or-join_below (length net.cells) (columns_of_cell net.cells t) counts i r d (same_count net.cells t) place.inside within,
    )
