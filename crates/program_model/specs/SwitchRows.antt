-- The rows of a floor, and those that say that a flow is the least of some terms and which of them is the first least one
-- (docs/program.md, "Floors" and "Switches"). This project's rows for the minima of Daganzo 1994 and 1995.
use Rattle.std.specs.Prelude.{ℕ, ◌+◌, ◌-◌, pos, neg_ℤ, List, [], ◌∷◌, ◌++◌, length}
use Rattle.listed.specs.Below.{table_of}
use Rattle.program_model.specs.Rows.{Sum, SumRow, at_least, column, equals, minus, plus, times, total}

-- so many times the whole, and the rest, are the sum
abbrev pub floor_row : {C : Type 0} → C → C → ℕ → Sum C → SumRow C
floor_row whole rest divisor of = equals (minus (plus (times (pos divisor) (column whole)) (column rest)) of) (pos 0)

-- a term of a move: a sum, and the most that it comes to
pub record Term (C : Type 0) : Type 0 where
  pub of : Sum C
  pub most : ℕ

-- exactly one switch is on
abbrev pub one_switch_row : {C : Type 0} → (ℕ → C) → ℕ → SumRow C
one_switch_row switch count = equals (total (table_of count switch)) (pos 1)

-- the flow is at most term m, and below it where a later switch is on
abbrev pub lower_row : {C : Type 0} → C → (ℕ → C) → ℕ → ℕ → Sum C → SumRow C
lower_row flow switch count m of = at_least (minus (minus of (column flow)) (total (table_of (count - (m + 1)) (λ k. switch (m + 1 + k))))) (pos 0)

-- the flow is at least term m where its switch is on
abbrev pub upper_row : {C : Type 0} → C → C → Term C → SumRow C
upper_row flow switch term = at_least (minus (minus (column flow) term.of) (times (pos term.most) (column switch))) (neg_ℤ (pos term.most))

-- the lower rows of terms of which the first has number m
abbrev pub lower_rows : {C : Type 0} → C → (ℕ → C) → ℕ → ℕ → List (Term C) → List (SumRow C)
lower_rows flow switch count m [] = []
lower_rows flow switch count m (term ∷ terms) = lower_row flow switch count m term.of ∷ lower_rows flow switch count (m + 1) terms

-- the upper rows of terms of which the first has number m
abbrev pub upper_rows : {C : Type 0} → C → (ℕ → C) → ℕ → List (Term C) → List (SumRow C)
upper_rows flow switch m [] = []
upper_rows flow switch m (term ∷ terms) = upper_row flow (switch m) term ∷ upper_rows flow switch (m + 1) terms

-- the rows of a move: its flow, its terms in their order, and a switch for each
unfoldable pub least_rows : {C : Type 0} → C → List (Term C) → (ℕ → C) → List (SumRow C)
least_rows flow terms switch =
    one_switch_row switch (length terms) ∷ lower_rows flow switch (length terms) 0 terms ++ upper_rows flow switch 0 terms
