-- The terms of a move as sums over the numbers of columns (docs/program.md, "Switches"), and rows as a program holds them.
use Rattle.std.specs.Prelude.{ℕ, ℤ, pos, unsigned_abs, List, ◌∷◌, map, Option, Some, None}
use Rattle.sparse_program.specs.declared.row.Linear.{Linear}
use Rattle.sparse_program.specs.declared.row.Row.{Row}
use Rattle.program_model.specs.Rows.{Sum, SumRow, number, times, total}
use Rattle.program_model.specs.Sparse.{sparse}
use Rattle.program_model.specs.SwitchRows as model
use Rattle.flow_switches.specs.declared.term.Term.{Term}

-- a linear expression as a sum
abbrev pub sum_of : Linear → Sum ℕ
sum_of of = record { constant = of.constant; terms = of.terms }

-- a term, whose most is not below 0
abbrev pub term_of : Term → model.Term ℕ
term_of term = record { of = sum_of term.of; most = unsigned_abs term.most }

-- a cap alone, or with a gate so many times the gate's columns together
abbrev pub cap_sum : ℕ → Option (List ℕ) → Sum ℕ
cap_sum cap None = number cap
cap_sum cap (Some gate) = times (pos cap) (total gate)

-- the term of a cap, which is not below 0
abbrev pub cap_term : ℤ → Option (List ℕ) → model.Term ℕ
cap_term cap gate = record { of = cap_sum (unsigned_abs cap) gate; most = unsigned_abs cap }

-- all terms of a move in their order: that of its cap, and the further ones
abbrev pub terms_of : ℤ → Option (List ℕ) → List Term → List (model.Term ℕ)
terms_of cap gate terms = cap_term cap gate ∷ map term_of terms

-- a row over the numbers of columns, as a program holds it
abbrev pub held : SumRow ℕ → Row
held row = sparse (λ (column : ℕ). column) row
