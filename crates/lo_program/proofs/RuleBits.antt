-- Rule rows name bits alone, and so the columns of the plan.
use Rattle.std.proofs.Common.{◌≡◌, inl, inr, ℕ, zero, suc, ◌+◌, ◌-◌, ◌<◌, ◌≤◌, List, [], ◌∷◌, length, map, filter, refl, sym, subst, arith}
use Rattle.std.specs.Prelude.{if◌then◌else◌, nat_lt, ℤ, pos, neg_ℤ, ◌*ℤ◌}
use Rattle.std.proofs.lemmas.Bool.{cases_Bool}
use Rattle.listed.specs.Below.{table_of}
use Rattle.ct_base.specs.Access.{phase_of, signal_of}
use Rattle.ct_base.specs.declared.net.Net.{Net}
use Rattle.ct_base.specs.declared.plan.Letter.{Letter}
use Rattle.ct_base.specs.declared.plan.Letter.TheVariants.{Clear, Green}
use Rattle.ct_base.specs.declared.signal.Signal.{Signal}
use Rattle.program_model.specs.Columns.{Bit, Column, Flow, letters_of}
use Rattle.program_model.specs.Existence.{IsColumn}
use Rattle.program_model.specs.Numbers.{number_of, plan_count}
use Rattle.program_model.specs.Rows.{Sum, SumRow, column, minus, plus, times, total}
use Rattle.program_model.specs.RuleRows.{clear_end_rows, end_rows, follow_row, follow_rows, letter_before, may_follow, rule_rows, rule_rows_at, stay_row, stay_rows}
use Rattle.program_model.proofs.ColumnLaws.{Each, Each-append, Each-join_below, Each-table_of}
use Rattle.program_model.proofs.NumberLaws.{bit_stands}
use Rattle.program_model.proofs.RowColumns.{RowNames, rule_rows_name}
use Rattle.lo_program.specs.inner.Adding.{Below, RowBelow}

-- the column is a bit
abbrev IsBit : Column → Type 0
IsBit c = (t : ℕ) × (s : ℕ) × (letter : Letter) × (c ≡ Bit t s letter)

-- the terms name bits alone
abbrev AreOfBits : List (Column × ℤ) → Type 0
AreOfBits terms = Each (λ (term : Column × ℤ). IsBit term.0) terms

-- and so do those of the row
abbrev IsOfBits : SumRow Column → Type 0
IsOfBits row = AreOfBits row.sum.terms

is_bit : (t s : ℕ) (letter : Letter) → IsBit (Bit t s letter)
is_bit t s letter = (t, s, letter, refl)

-- ---- sums

bits-times : (k : ℤ) (terms : List (Column × ℤ)) → AreOfBits terms → AreOfBits (map (λ (term : Column × ℤ). (term.0, k *ℤ term.1)) terms)
bits-times k [] each = tt
bits-times k (term ∷ terms) each = (each.0, bits-times k terms each.1)

bits-plus : (a b : Sum Column) → AreOfBits a.terms → AreOfBits b.terms → AreOfBits (plus a b).terms
bits-plus a b left right = Each-append (λ (term : Column × ℤ). IsBit term.0) a.terms b.terms left right

bits-minus : (a b : Sum Column) → AreOfBits a.terms → AreOfBits b.terms → AreOfBits (minus a b).terms
bits-minus a b left right = bits-plus a (times (neg_ℤ (pos 1)) b) left (bits-times (neg_ℤ (pos 1)) b.terms right)

bits-total : (columns : List Column) → Each IsBit columns → AreOfBits (total columns).terms
bits-total [] each = tt
bits-total (c ∷ columns) each = (each.0, bits-total columns each.1)

bits_of_letters : (t s : ℕ) (letters : List Letter) → Each IsBit (map (Bit t s) letters)
bits_of_letters t s [] = tt
bits_of_letters t s (letter ∷ letters) = (is_bit t s letter, bits_of_letters t s letters)

-- ---- rows

follows_of_bits : (signal : Signal) (s t : ℕ) (letters : List Letter) → Each IsOfBits (map (follow_row signal s t) letters)
follows_of_bits signal s t [] = tt
follows_of_bits signal s t (letter ∷ letters) =
    let passing : List Letter = filter (may_follow signal letter) (letters_of signal) in (
      bits-minus (total (map (Bit (t + 1) s) passing)) (column (Bit t s letter)) (bits-total (map (Bit (t + 1) s) passing) (bits_of_letters (t + 1) s passing)) (is_bit t s letter, tt),
      follows_of_bits signal s t letters,
    )

follow_rows_of_bits : (signal : Signal) (steps s t : ℕ) → Each IsOfBits (follow_rows signal steps s t)
follow_rows_of_bits signal steps s t =
    elim (cases_Bool (nat_lt (t + 1) steps)) [
      | inl within ↦ rw within (follows_of_bits signal s t (letters_of signal))
      | inr past ↦ rw past tt
    ]

before_of_bits : (s t : ℕ) (letter : Letter) → AreOfBits (letter_before s t letter).terms
before_of_bits s zero letter = tt
before_of_bits s (suc t) letter = (is_bit t s letter, tt)

stays_of_bits : (steps s t : ℕ) (letter : Letter) (least : ℕ) → Each IsOfBits (stay_rows steps s t letter least)
stays_of_bits steps s t letter least =
    Each-join_below IsOfBits (least - 1) (λ j. if nat_lt (t + (j + 1)) steps then stay_row s t letter (j + 1) ∷ [] else [])
    (λ j few.
    elim (cases_Bool (nat_lt (t + (j + 1)) steps)) [
      | inl within ↦
          rw within (
            bits-plus (minus (column (Bit (t + (j + 1)) s letter)) (column (Bit t s letter))) (letter_before s t letter)
                (bits-minus (column (Bit (t + (j + 1)) s letter)) (column (Bit t s letter)) (is_bit (t + (j + 1)) s letter, tt) (is_bit t s letter, tt)) (before_of_bits s t letter),
            tt,
          )
      | inr past ↦ rw past tt
    ])

ends_of_bits : (steps s t : ℕ) (letter : Letter) (most : ℕ) → Each IsOfBits (end_rows steps s t letter most)
ends_of_bits steps s t letter most =
    elim (cases_Bool (nat_lt (t + most) steps)) [
      | inl within ↦
          let window : List Column = table_of (most + 1) (λ k. Bit (t + k) s letter) in
          rw within (bits-times (neg_ℤ (pos 1)) (total window).terms (bits-total window (Each-table_of IsBit (most + 1) (λ k. Bit (t + k) s letter) (λ k few. is_bit (t + k) s letter))), tt)
      | inr past ↦ rw past tt
    ]

clear_ends_of_bits : (steps s t p clear : ℕ) → Each IsOfBits (clear_end_rows steps s t p clear)
clear_ends_of_bits steps s t p zero = tt
clear_ends_of_bits steps s t p (suc clear) = ends_of_bits steps s t (Clear p) (suc clear)

rows_at_of_bits : (signal : Signal) (steps s t : ℕ) → Each IsOfBits (rule_rows_at signal steps s t)
unfolding rule_rows_at
rows_at_of_bits signal steps s t =
    let phases : ℕ = length signal.phases in (
      bits-total (map (Bit t s) (letters_of signal)) (bits_of_letters t s (letters_of signal)),
      Each-append IsOfBits _ _ (Each-append IsOfBits _ _ (Each-append IsOfBits _ _ (Each-append IsOfBits (follow_rows signal steps s t) _ (follow_rows_of_bits signal steps s t)
          (Each-join_below IsOfBits phases _ (λ p phase. stays_of_bits steps s t (Green p) (phase_of signal p).min)))
          (Each-join_below IsOfBits phases _ (λ p phase. ends_of_bits steps s t (Green p) (phase_of signal p).max)))
          (Each-join_below IsOfBits phases _ (λ p phase. stays_of_bits steps s t (Clear p) (phase_of signal p).clear)))
          (Each-join_below IsOfBits phases _ (λ p phase. clear_ends_of_bits steps s t p (phase_of signal p).clear)),
    )

rows_of_bits : (net : Net) → Each IsOfBits (rule_rows net)
unfolding rule_rows
rows_of_bits net =
    Each-join_below IsOfBits (length net.signals) _
    (λ s inside. Each-join_below IsOfBits net.steps (rule_rows_at (signal_of net.signals s) net.steps s) (λ t before. rows_at_of_bits (signal_of net.signals s) net.steps s t))

-- ---- numbers

bit_below : (net : Net) (t s : ℕ) (letter : Letter) → IsColumn net (Bit t s letter) → number_of net (Bit t s letter) < plan_count net
bit_below net t s letter of = (bit_stands net t s letter (Flow 0 0) of.0 of.1 of.2).0

column_below : (net : Net) (c : Column) → IsColumn net c → IsBit c → number_of net c < plan_count net
column_below net c of bit =
    subst (λ (d : Column). number_of net d < plan_count net) (sym bit.3) (bit_below net bit.0 bit.1 bit.2 (subst (IsColumn net) bit.3 of))

terms_below : (net : Net) (count : ℕ) (terms : List (Column × ℤ)) → plan_count net ≤ count → Each (λ (term : Column × ℤ). IsColumn net term.0) terms → AreOfBits terms → Below net count terms
terms_below net count [] plan named bits = tt
terms_below net count (term ∷ terms) plan named bits = (omega (arith, plan, column_below net term.0 named.0 bits.0), terms_below net count terms plan named.1 bits.1)

each_below : (net : Net) (count : ℕ) (rows : List (SumRow Column)) → plan_count net ≤ count → Each (RowNames net) rows → Each IsOfBits rows → Each (RowBelow net count) rows
each_below net count [] plan named bits = tt
each_below net count (row ∷ rows) plan named bits = (terms_below net count row.sum.terms plan named.0 bits.0, each_below net count rows plan named.1 bits.1)

-- where the columns of the plan are there, so are those of the rule rows
pub rule_rows_below : (net : Net) (count : ℕ) → plan_count net ≤ count → Each (RowBelow net count) (rule_rows net)
rule_rows_below net count plan = each_below net count (rule_rows net) plan (rule_rows_name net) (rows_of_bits net)
