-- A walk over rows that counts them and stops at the first that is broken.
use Rattle.std.specs.Prelude.{ℕ, ◌+◌, ◌-◌, ◌^◌, min, ℤ, Bool, List, [], ◌∷◌, Option, Some, None, Result, Ok, Err}
use Rattle.program_model.specs.Columns.{Column}
use Rattle.program_model.specs.Rows.{SumRow}
use Rattle.rule_breaks.specs.Breaks.{price_in, price_of}
use Rattle.rule_breaks.specs.declared.breaks.RuleBreak.{RuleBreak}

-- the number after a number, which stands still at the greatest that 32 bits have: no network has so many rows
abbrev pub next_number : ℕ → ℕ
next_number number = min (number + 1) (2 ^ 32 - 1)

-- the row with a number was passed, or it is broken with a price
abbrev pub passed : Option ℤ → ℕ → Result ℕ RuleBreak
passed None number = Ok (next_number number)
passed (Some price) number = Err (record { row = number; price = price })

-- what comes after a part that was passed
abbrev pub after : Result ℕ RuleBreak → (ℕ → Result ℕ RuleBreak) → Result ℕ RuleBreak
after (Ok number) more = more number
after (Err found) more = Err found

-- the number behind the last of some rows, of which the first has a number, or the first of them that is broken
abbrev pub walk : (Column → ℤ) → ℕ → ℕ → List (SumRow Column) → Result ℕ RuleBreak
walk value steps number [] = Ok number
walk value steps number (row ∷ rows) = after (passed (price_in value steps row) number) (λ next. walk value steps next rows)

-- a row with a number was passed, or its left side is not what it asks for
abbrev pub judged : ℕ → Bool → ℤ → ℤ → Result ℕ RuleBreak
judged number equal left right = passed (price_of equal left right) number
