-- A program has at most twice as many columns as rows, and 256 more: so a program that holds its rows holds its columns.
use Rattle.std.proofs.Common.{◌≡◌, inl, inr, ℕ, zero, suc, ◌+◌, ◌*◌, ◌<◌, ◌≤◌, List, [], length, refl, arith}
use Rattle.std.specs.Prelude.{if◌then◌else◌}
use Rattle.std.proofs.lemmas.Bool.{cases_Bool, lt-ltb}
use Rattle.std.proofs.lemmas.List.{length-append}
use Rattle.std.proofs.lemmas.Nat.{mul-le}
use Rattle.listed.specs.Below.{join_below, sum_below}
use Rattle.listed.proofs.JoinLaws.{length-join_below}
use Rattle.listed.proofs.SumLaws.{sum_below-add, sum_below-le, sum_below-mul}
use Rattle.ct_base.specs.Access.{cell_of, signal_of}
use Rattle.ct_base.specs.Validity.{IsValid}
use Rattle.ct_base.specs.declared.cell.Cell.{Cell}
use Rattle.ct_base.specs.declared.net.Net.{Net}
use Rattle.ct_base.specs.declared.signal.Signal.{Signal}
use Rattle.sparse_program.specs.declared.limits.TheConstants.{MAX_COLUMNS, MAX_ROWS}
use Rattle.program_model.specs.Columns.{columns, columns_of_cell, has_room, letters_of}
use Rattle.program_model.specs.FlowRows.{flow_rows}
use Rattle.program_model.specs.Numbers.{after_room, bits_of_step, cells_before, plan_count}
use Rattle.program_model.specs.Points.{rows}
use Rattle.program_model.specs.RuleRows.{rule_rows, rule_rows_at}
use Rattle.program_model.proofs.NumberLaws.{length-cell, length-columns}
use Rattle.lo_program.specs.inner.Counts.{follows, moving_rows}
use Rattle.program_layout.proofs.CountLaws.{few_bits}
use Rattle.lo_program.proofs.FlowCounts.{half_of_split, length_flows}
use Rattle.lo_program.proofs.RowCounts.{length_step}
use Rattle.lo_program.proofs.StepLaws.{rows_of_signal}

-- ---- plan columns and rule rows

-- a row for each letter, at every step but the last
letters_before_last : (signal : Signal) (steps s n : ℕ) → n < steps → n * length (letters_of signal) ≤ length (join_below n (rule_rows_at signal steps s))
unfolding join_below
letters_before_last signal steps s zero before = omega arith
letters_before_last signal steps s (suc n) before =
    let followed : follows signal steps n ≡ length (letters_of signal) = rw (lt-ltb (n + 1) steps (omega (arith, before))) refl in
    omega (
      arith,
      followed,
      letters_before_last signal steps s n (omega (arith, before)),
      length_step signal steps s n (omega (arith, before)),
      length-append (join_below n (rule_rows_at signal steps s)) (rule_rows_at signal steps s n),
    )

letters_of_steps : (signal : Signal) (steps s n : ℕ) → n ≡ steps → n * length (letters_of signal) ≤ length (join_below n (rule_rows_at signal steps s)) + length (letters_of signal)
unfolding join_below
letters_of_steps signal steps s zero all = omega arith
letters_of_steps signal steps s (suc n) all =
    omega (
      arith,
      letters_before_last signal steps s n (omega (arith, all)),
      length-append (join_below n (rule_rows_at signal steps s)) (rule_rows_at signal steps s n),
    )

few_plan_columns : (net : Net) → plan_count net ≤ length (rule_rows net) + bits_of_step net.signals
unfolding rule_rows
few_plan_columns net =
    let signals : ℕ = length net.signals in
    let letters : ℕ → ℕ = λ s. length (letters_of (signal_of net.signals s)) in
    let counts : ℕ → ℕ = λ s. length (rows_of_signal net s) in
    let few : sum_below signals (λ s. net.steps * letters s) ≤ sum_below signals (λ s. counts s + letters s) =
    sum_below-le signals (λ s. net.steps * letters s) (λ s. counts s + letters s) (λ s inside. letters_of_steps (signal_of net.signals s) net.steps s net.steps refl) in
    omega (
      arith,
      few,
      sum_below-mul signals net.steps letters,
      sum_below-add signals counts letters,
      length-join_below signals (rows_of_signal net) counts (λ s. refl),
    )

-- ---- the columns of cells and flow rows

columns_of_room : (cells : List Cell) (i : ℕ) → after_room cells i ≡ 1 + 2 * (if has_room cells i then 1 else 0)
columns_of_room cells i = elim (cases_Bool (has_room cells i)) [ inl has ↦ rw has refl | inr none ↦ rw none refl ]

few_of_cell : (cells : List Cell) (i : ℕ) → length (columns_of_cell cells 0 i) ≤ 2 * moving_rows cells i
few_of_cell cells i = omega (arith, length-cell cells 0 i, columns_of_room cells i, half_of_split [] 0 0 (cell_of cells i).out)

few_cell_columns : (net : Net) → IsValid net → net.steps * cells_before net.cells (length net.cells) ≤ 2 * length (flow_rows net)
few_cell_columns net valid =
    let cells : ℕ = length net.cells in
    let moving : ℕ = sum_below cells (moving_rows net.cells) in
    let few : sum_below cells (λ i. length (columns_of_cell net.cells 0 i)) ≤ sum_below cells (λ i. 2 * moving_rows net.cells i) =
    sum_below-le cells (λ i. length (columns_of_cell net.cells 0 i)) (λ i. 2 * moving_rows net.cells i) (λ i inside. few_of_cell net.cells i) in
    let of_step : cells_before net.cells cells ≤ 2 * moving = omega (arith, few, sum_below-mul cells 2 (moving_rows net.cells)) in
    omega (arith, mul-le net.steps (cells_before net.cells cells) net.steps (2 * moving) (omega arith) of_step, length_flows net valid.steps.0)

-- ---- all columns

few_columns : (net : Net) → IsValid net → length (columns net) ≤ 2 * length (rows net) + 256
few_columns net valid =
    omega (arith, length-columns net, few_plan_columns net, few_bits net valid, few_cell_columns net valid, length-append (rule_rows net) (flow_rows net))

pub columns_fit : (net : Net) → IsValid net → length (rows net) ≤ MAX_ROWS → length (columns net) ≤ MAX_COLUMNS
columns_fit net valid fit = omega (arith, few_columns net valid, fit)
