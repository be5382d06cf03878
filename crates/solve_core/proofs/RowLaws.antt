-- How few rows the program of a valid network may have.
use Rattle.std.proofs.Common.{◌≡◌, ℕ, ◌≤◌, length, arith}
use Rattle.std.proofs.lemmas.List.{length-append, length-map}
use Rattle.std.proofs.lemmas.Nat.{mul-le}
use Rattle.listed.specs.Below.{sum_below}
use Rattle.listed.proofs.SumLaws.{sum_below-term}
use Rattle.ct_base.specs.Access.{cell_of}
use Rattle.ct_base.specs.Validity.{IsValid}
use Rattle.ct_base.specs.declared.cell.Out.{Out}
use Rattle.ct_base.specs.declared.cell.Out.TheVariants.{Exit, To, Turns}
use Rattle.ct_base.specs.declared.net.Net.{Net}
use Rattle.program_model.specs.Columns.{term_count}
use Rattle.program_model.specs.FlowRows.{flow_rows}
use Rattle.program_model.specs.Numbers.{number_of}
use Rattle.program_model.specs.Points.{program_of, rows}
use Rattle.program_model.specs.RuleRows.{rule_rows}
use Rattle.program_model.specs.Sparse.{sparse}
use Rattle.lo_program.specs.inner.Counts.{moving_rows}
use Rattle.lo_program.proofs.FlowCounts.{length_flows}

-- a program has a row for each row of its network
pub rows_are_as_many : (net : Net) → length (program_of net).rows ≡ length (rows net)
unfolding program_of
rows_are_as_many net = length-map (rows net) (sparse (number_of net))

-- a move has two terms at least: its cap, and what its cell holds
two_terms : (out : Out) → 2 ≤ term_count out
two_terms Exit = omega arith
two_terms (To b) = omega arith
two_terms (Turns branches) = omega arith

-- the first cell has five rows at each step
five_of_a_step : (net : Net) → 1 ≤ length net.cells → 5 ≤ sum_below (length net.cells) (moving_rows net.cells)
five_of_a_step net some =
    omega (arith, two_terms (cell_of net.cells 0).out, sum_below-term (length net.cells) 0 (moving_rows net.cells) some)

-- so the program of a valid network has five rows at least
pub five_rows : (net : Net) → IsValid net → 5 ≤ length (program_of net).rows
five_rows net valid =
    let moving : ℕ = sum_below (length net.cells) (moving_rows net.cells) in
    omega (
      arith,
      rows_are_as_many net,
      length-append (rule_rows net) (flow_rows net),
      length_flows net valid.steps.0,
      mul-le 1 5 net.steps moving valid.steps.0 (five_of_a_step net valid.cells.0),
    )
