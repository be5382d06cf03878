-- The rows that the bits of a plan meet (docs/program.md, "Rule rows"). A row names no step at or past the horizon.
use Rattle.std.specs.Prelude.{ℕ, zero, suc, ◌+◌, ◌-◌, ◌==◌, ◌&&◌, ◌||◌, nat_lt, Bool, if◌then◌else◌, pos, neg_ℤ, List, [], ◌∷◌, ◌++◌, length, map, filter}
use Rattle.std.specs.Int.{bit_at}
use Rattle.listed.specs.Below.{join_below, table_of}
use Rattle.ct_base.specs.Access.{phase_of, signal_of}
use Rattle.ct_base.specs.declared.net.Net.{Net}
use Rattle.ct_base.specs.declared.plan.Letter.{Letter}
use Rattle.ct_base.specs.declared.plan.Letter.TheVariants.{Green, Clear}
use Rattle.ct_base.specs.declared.signal.Signal.{Signal}
use Rattle.program_model.specs.Columns.{Column, Bit, letters_of}
use Rattle.program_model.specs.Rows.{Sum, SumRow, at_least, column, equals, minus, number, plus, times, total}

-- the second letter may stand in the step after the first
abbrev pub may_follow : Signal → Letter → Letter → Bool
may_follow signal (Green p) (Green q) = (q == p) || (((phase_of signal p).clear == 0) && (bit_at (phase_of signal p).next q == 1))
may_follow signal (Green p) (Clear q) = q == p
may_follow signal (Clear p) (Green q) = bit_at (phase_of signal p).next q == 1
may_follow signal (Clear p) (Clear q) = q == p

-- 1: one letter at a step
abbrev pub one_letter_row : Signal → ℕ → ℕ → SumRow Column
one_letter_row signal s t = equals (total (map (Bit t s) (letters_of signal))) (pos 1)

-- 2: what may follow a letter stands in the step after it
abbrev pub follow_row : Signal → ℕ → ℕ → Letter → SumRow Column
follow_row signal s t letter =
    at_least (minus (total (map (Bit (t + 1) s) (filter (may_follow signal letter) (letters_of signal)))) (column (Bit t s letter))) (pos 0)

-- 2: for each letter
abbrev pub follow_rows : Signal → ℕ → ℕ → ℕ → List (SumRow Column)
follow_rows signal steps s t = if nat_lt (t + 1) steps then map (follow_row signal s t) (letters_of signal) else []

-- a letter in the step before step t, where there is one
abbrev pub letter_before : ℕ → ℕ → Letter → Sum Column
letter_before s zero letter = number 0
letter_before s (suc t) letter = column (Bit t s letter)

-- 3 and 5: a letter that begins at step t still stands k steps on
abbrev pub stay_row : ℕ → ℕ → Letter → ℕ → SumRow Column
stay_row s t letter k = at_least (plus (minus (column (Bit (t + k) s letter)) (column (Bit t s letter))) (letter_before s t letter)) (pos 0)

-- 3 and 5: a letter that begins at step t stands for at least so many steps, as far as the horizon lets it
abbrev pub stay_rows : ℕ → ℕ → ℕ → Letter → ℕ → List (SumRow Column)
stay_rows steps s t letter least = join_below (least - 1) (λ j. if nat_lt (t + (j + 1)) steps then stay_row s t letter (j + 1) ∷ [] else [])

-- 4 and 6: of the most steps of a letter and one step more, from step t on, one shows another letter
abbrev pub end_row : ℕ → ℕ → Letter → ℕ → SumRow Column
end_row s t letter most = at_least (times (neg_ℤ (pos 1)) (total (table_of (most + 1) (λ k. Bit (t + k) s letter)))) (neg_ℤ (pos most))

-- 4 and 6: where the steps are below the horizon
abbrev pub end_rows : ℕ → ℕ → ℕ → Letter → ℕ → List (SumRow Column)
end_rows steps s t letter most = if nat_lt (t + most) steps then end_row s t letter most ∷ [] else []

-- 6: a phase without clearing has no such row
abbrev pub clear_end_rows : ℕ → ℕ → ℕ → ℕ → ℕ → List (SumRow Column)
clear_end_rows steps s t p zero = []
clear_end_rows steps s t p (suc clear) = end_rows steps s t (Clear p) (suc clear)

-- the rule rows of signal s at step t
unfoldable pub rule_rows_at : Signal → ℕ → ℕ → ℕ → List (SumRow Column)
rule_rows_at signal steps s t =
    let phases = length signal.phases in
    one_letter_row signal s t ∷ follow_rows signal steps s t
    ++ join_below phases (λ p. stay_rows steps s t (Green p) (phase_of signal p).min)
    ++ join_below phases (λ p. end_rows steps s t (Green p) (phase_of signal p).max)
    ++ join_below phases (λ p. stay_rows steps s t (Clear p) (phase_of signal p).clear)
    ++ join_below phases (λ p. clear_end_rows steps s t p (phase_of signal p).clear)

-- the rule rows: signal by signal, and of each step by step
unfoldable pub rule_rows : Net → List (SumRow Column)
rule_rows net = join_below (length net.signals) (λ s. join_below net.steps (rule_rows_at (signal_of net.signals s) net.steps s))
