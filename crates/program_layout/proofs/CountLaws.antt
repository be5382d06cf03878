-- How many columns the parts of a valid network have at most, and that their numbers are small.
use Rattle.std.proofs.Common.{◌≡◌, inl, inr, ℕ, zero, suc, ◌+◌, ◌*◌, ◌<◌, ◌≤◌, ◌^◌, Bool, true, false, List, [], ◌∷◌, length, refl, arith}
use Rattle.std.specs.Prelude.{if◌then◌else◌, nat_lt}
use Rattle.std.proofs.lemmas.Bool.{cases_Bool}
use Rattle.std.proofs.lemmas.List.{length-append}
use Rattle.std.proofs.lemmas.Nat.{mul-le}
use Rattle.listed.proofs.JoinLaws.{length-join_below}
use Rattle.listed.proofs.SumLaws.{sum_below-bound}
use Rattle.ct_base.specs.Access.{cell_of, phase_of, signal_of}
use Rattle.ct_base.specs.Validity.{IsSplit, IsValid}
use Rattle.ct_base.specs.declared.cell.Cell.{Cell}
use Rattle.ct_base.specs.declared.cell.Out.{Out}
use Rattle.ct_base.specs.declared.cell.Out.TheVariants.{Exit, To, Turns}
use Rattle.ct_base.specs.declared.net.Net.{Net}
use Rattle.ct_base.specs.declared.signal.Signal.{Signal}
use Rattle.program_model.specs.Columns.{columns_of_branch, columns_of_branches, columns_of_cell, columns_of_split, has_room, letters_by, letters_of, term_count}
use Rattle.program_model.specs.Numbers.{after_room, bits_before, bits_of_step, cells_before, letters_before, plan_count}
use Rattle.program_model.proofs.NumberLaws.{length-branch, length-cell}
use Rattle.program_model.proofs.PlanBits.{signal_is}

-- ---- the letters of signals

few_letters_by : (p clear : ℕ) → length (letters_by p clear) ≤ 2
few_letters_by p zero = omega arith
few_letters_by p (suc clear) = omega arith

pub few_letters_before : (signal : Signal) (p : ℕ) → letters_before signal p ≤ p * 2
few_letters_before signal p = sum_below-bound p 2 (λ q. length (letters_by q (phase_of signal q).clear)) (λ q inside. few_letters_by q (phase_of signal q).clear)

pub length-letters : (signal : Signal) → length (letters_of signal) ≡ letters_before signal (length signal.phases)
unfolding letters_of
length-letters signal = length-join_below (length signal.phases) (λ q. letters_by q (phase_of signal q).clear) (λ q. length (letters_by q (phase_of signal q).clear)) (λ q. refl)

pub few_letters : (signal : Signal) → length signal.phases ≤ 8 → length (letters_of signal) ≤ 16
few_letters signal few = omega (arith, length-letters signal, few_letters_before signal (length signal.phases), few)

pub few_bits_before : (net : Net) (s : ℕ) → IsValid net → s ≤ length net.signals → bits_before net.signals s ≤ s * 16
few_bits_before net s valid inside =
    sum_below-bound s 16 (λ r. length (letters_of (signal_of net.signals r)))
    (λ r before. few_letters (signal_of net.signals r) (signal_is net r valid (omega (arith, before, inside))).phases.1)

pub few_bits : (net : Net) → IsValid net → bits_of_step net.signals ≤ 256
few_bits net valid = omega (arith, few_bits_before net (length net.signals) valid (omega arith), valid.signals)

-- ---- the columns of cells

few_where : (many : Bool) → (if many then 2 else 0) ≤ 2
few_where true = omega arith
few_where false = omega arith

few_of_branch : (t i k units : ℕ) → length (columns_of_branch t i k units) ≤ 2
few_of_branch t i k units = rw (length-branch t i k units) (few_where (nat_lt 1 units))

few_of_branches : (t i k : ℕ) (branches : List (ℕ × ℕ)) → length (columns_of_branches t i k branches) ≤ 2 * length branches
few_of_branches t i k [] = omega arith
few_of_branches t i k (branch ∷ branches) =
    omega (arith, few_of_branch t i k branch.1, few_of_branches t i (k + 1) branches, length-append (columns_of_branch t i k branch.1) (columns_of_branches t i (k + 1) branches))

pub few_of_split : (t i : ℕ) (out : Out) → IsSplit out → length (columns_of_split t i out) ≤ 10
few_of_split t i Exit split = omega arith
few_of_split t i (To b) split = omega arith
few_of_split t i (Turns branches) split = omega (arith, split.0.1, few_of_branches t i 0 branches)

pub few_terms : (out : Out) → IsSplit out → term_count out ≤ 6
few_terms Exit split = omega arith
few_terms (To b) split = omega arith
few_terms (Turns branches) split = omega (arith, split.0.1)

pub few_of_room : (cells : List Cell) (i : ℕ) → after_room cells i ≤ 3
few_of_room cells i = elim (cases_Bool (has_room cells i)) [ inl has ↦ rw has (omega arith) | inr none ↦ rw none (omega arith) ]

pub few_of_cell : (net : Net) (t i : ℕ) → IsValid net → i < length net.cells → length (columns_of_cell net.cells t i) ≤ 20
few_of_cell net t i valid inside =
    let out : Out = (cell_of net.cells i).out in
    let split : IsSplit out = (valid.each_cell i inside).split in
    omega (arith, length-cell net.cells t i, few_of_room net.cells i, few_of_split 0 0 out split, few_terms out split)

pub few_cells_before : (net : Net) (i : ℕ) → IsValid net → i ≤ length net.cells → cells_before net.cells i ≤ i * 20
few_cells_before net i valid inside =
    sum_below-bound i 20 (λ j. length (columns_of_cell net.cells 0 j)) (λ j before. few_of_cell net 0 j valid (omega (arith, before, inside)))

-- ---- numbers of columns are small

-- what is counted in a step, so many steps on
pub small_product : (net : Net) (t width most : ℕ) → IsValid net → t ≤ net.steps → width ≤ most → t * width ≤ 240 * most
small_product net t width most valid before few = mul-le t width 240 most (omega (arith, before, valid.steps.1)) few

pub small_bits : (net : Net) (t s : ℕ) → IsValid net → t < net.steps → s < length net.signals → t * bits_of_step net.signals + bits_before net.signals s < 2 ^ 17
small_bits net t s valid before inside =
    omega (arith, small_product net t (bits_of_step net.signals) 256 valid (omega (arith, before)) (few_bits net valid), few_bits_before net s valid (omega (arith, inside)), valid.signals)

pub few_in_step : (net : Net) → IsValid net → cells_before net.cells (length net.cells) ≤ 5120
few_in_step net valid = omega (arith, few_cells_before net (length net.cells) valid (omega arith), valid.cells.1)

pub small_plan : (net : Net) → IsValid net → plan_count net ≤ 240 * 256
small_plan net valid = small_product net net.steps (bits_of_step net.signals) 256 valid (omega arith) (few_bits net valid)

pub small_first : (net : Net) (t i : ℕ) → IsValid net → t ≤ net.steps → i ≤ length net.cells →
    (t * cells_before net.cells (length net.cells) < 2 ^ 21) × (plan_count net + t * cells_before net.cells (length net.cells) + cells_before net.cells i < 2 ^ 21)
small_first net t i valid before inside =
    let step : t * cells_before net.cells (length net.cells) ≤ 240 * 5120 = small_product net t (cells_before net.cells (length net.cells)) 5120 valid before (few_in_step net valid) in
    let cells : cells_before net.cells i ≤ i * 20 = few_cells_before net i valid inside in
    (omega (arith, step), omega (arith, step, cells, inside, valid.cells.1, small_plan net valid))
