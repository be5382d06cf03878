-- Each row names columns of the network alone.
use Rattle.std.proofs.Common.{◌≡◌, inl, inr, ℕ, zero, suc, ◌+◌, ◌-◌, ◌<◌, Bool, List, [], ◌∷◌, length, map, filter, refl, arith}
use Rattle.std.specs.Prelude.{if◌then◌else◌, nat_lt, ℤ, pos, neg_ℤ, ◌*ℤ◌}
use Rattle.std.proofs.lemmas.Bool.{cases_Bool, ltb-true}
use Rattle.listed.specs.Below.{table_of}
use Rattle.ct_base.specs.Access.{phase_of, signal_of}
use Rattle.ct_base.specs.declared.net.Net.{Net}
use Rattle.ct_base.specs.declared.plan.Letter.{Letter}
use Rattle.ct_base.specs.declared.plan.Letter.TheVariants.{Green, Clear}
use Rattle.ct_base.specs.declared.signal.Signal.{Signal}
use Rattle.program_model.specs.Columns.{Bit, Column, letters_of}
use Rattle.program_model.specs.Existence.{IsColumn, IsLetterOf}
use Rattle.program_model.specs.Rows.{Sum, SumRow, column, minus, plus, times, total}
use Rattle.program_model.specs.RuleRows.{clear_end_rows, end_rows, follow_row, follow_rows, letter_before, may_follow, rule_rows, rule_rows_at, stay_row, stay_rows}
use Rattle.program_model.proofs.ColumnLaws.{Each, Each-append, Each-join_below, Each-table_of, letters_are}

-- the sum names columns of the network alone
abbrev pub Names : Net → Sum Column → Type 0
Names net sum = Each (λ (term : Column × ℤ). IsColumn net term.0) sum.terms

-- and so does the row
abbrev pub RowNames : Net → SumRow Column → Type 0
RowNames net row = Names net row.sum

-- ---- sums

pub names-plus : (net : Net) (a b : Sum Column) → Names net a → Names net b → Names net (plus a b)
names-plus net a b left right = Each-append (λ (term : Column × ℤ). IsColumn net term.0) a.terms b.terms left right

names_each-times : (net : Net) (k : ℤ) (terms : List (Column × ℤ)) → Each (λ (term : Column × ℤ). IsColumn net term.0) terms →
    Each (λ (term : Column × ℤ). IsColumn net term.0) (map (λ (term : Column × ℤ). (term.0, k *ℤ term.1)) terms)
names_each-times net k [] each = tt
names_each-times net k (term ∷ terms) each = (each.0, names_each-times net k terms each.1)

pub names-times : (net : Net) (k : ℤ) (a : Sum Column) → Names net a → Names net (times k a)
names-times net k a each = names_each-times net k a.terms each

pub names-minus : (net : Net) (a b : Sum Column) → Names net a → Names net b → Names net (minus a b)
names-minus net a b left right = names-plus net a (times (neg_ℤ (pos 1)) b) left (names-times net (neg_ℤ (pos 1)) b right)

pub names-total : (net : Net) (columns : List Column) → Each (IsColumn net) columns → Names net (total columns)
names-total net [] each = tt
names-total net (c ∷ columns) each = (each.0, names-total net columns each.1)

-- ---- letters

-- those that pass a test
pub each-filter : {X : Type 0} (P : X → Type 0) (test : X → Bool) (xs : List X) → Each P xs → Each P (filter test xs)
each-filter P test [] each = tt
each-filter {X} P test (x ∷ xs) each =
    elim (cases_Bool (test x)) [
      | inl passes ↦ rw passes (each.0, each-filter P test xs each.1)
      | inr fails ↦ rw fails (each-filter P test xs each.1)
    ]

pub bits_named : (net : Net) (t s : ℕ) (letters : List Letter) → t < net.steps → s < length net.signals → Each (IsLetterOf (signal_of net.signals s)) letters → Each (IsColumn net) (map (Bit t s) letters)
bits_named net t s [] before inside are = tt
bits_named net t s (letter ∷ letters) before inside are = ((before, inside, are.0), bits_named net t s letters before inside are.1)

-- ---- rule rows

follow_rows_name : (net : Net) (t s : ℕ) (letters : List Letter) → t + 1 < net.steps → s < length net.signals → Each (IsLetterOf (signal_of net.signals s)) letters →
    Each (RowNames net) (map (follow_row (signal_of net.signals s) s t) letters)
follow_rows_name net t s [] before inside are = tt
follow_rows_name net t s (letter ∷ letters) before inside are =
    let signal : Signal = signal_of net.signals s in
    let passing : List Letter = filter (may_follow signal letter) (letters_of signal) in (
      names-minus net (total (map (Bit (t + 1) s) passing)) (column (Bit t s letter))
          (names-total net (map (Bit (t + 1) s) passing) (bits_named net (t + 1) s passing before inside (each-filter (IsLetterOf signal) (may_follow signal letter) (letters_of signal) (letters_are signal))))
          ((omega (arith, before), inside, are.0), tt),
      follow_rows_name net t s letters before inside are.1,
    )

letter_before_names : (net : Net) (s t : ℕ) (letter : Letter) → t < net.steps → s < length net.signals → IsLetterOf (signal_of net.signals s) letter → Names net (letter_before s t letter)
letter_before_names net s zero letter before inside of = tt
letter_before_names net s (suc t) letter before inside of = ((omega (arith, before), inside, of), tt)

stay_rows_name : (net : Net) (s t : ℕ) (letter : Letter) (least : ℕ) → s < length net.signals → IsLetterOf (signal_of net.signals s) letter → Each (RowNames net) (stay_rows net.steps s t letter least)
stay_rows_name net s t letter least inside of =
    Each-join_below (RowNames net) (least - 1) (λ j. if nat_lt (t + (j + 1)) net.steps then stay_row s t letter (j + 1) ∷ [] else [])
    (λ j few.
    elim (cases_Bool (nat_lt (t + (j + 1)) net.steps)) [
      | inl within ↦
          let before : t + (j + 1) < net.steps = ltb-true (t + (j + 1)) net.steps within in
          rw within (
            names-plus net (minus (column (Bit (t + (j + 1)) s letter)) (column (Bit t s letter))) (letter_before s t letter)
                (names-minus net (column (Bit (t + (j + 1)) s letter)) (column (Bit t s letter)) ((before, inside, of), tt) ((omega (arith, before), inside, of), tt))
                (letter_before_names net s t letter (omega (arith, before)) inside of),
            tt,
          )
      | inr past ↦ rw past tt
    ])

end_rows_name : (net : Net) (s t : ℕ) (letter : Letter) (most : ℕ) → s < length net.signals → IsLetterOf (signal_of net.signals s) letter → Each (RowNames net) (end_rows net.steps s t letter most)
end_rows_name net s t letter most inside of =
    elim (cases_Bool (nat_lt (t + most) net.steps)) [
      | inl within ↦
          let before : t + most < net.steps = ltb-true (t + most) net.steps within in
          rw within (
            names-times net (neg_ℤ (pos 1)) (total (table_of (most + 1) (λ k. Bit (t + k) s letter)))
                (names-total net (table_of (most + 1) (λ k. Bit (t + k) s letter)) (Each-table_of (IsColumn net) (most + 1) (λ k. Bit (t + k) s letter) (λ k few. (omega (arith, few, before), inside, of)))),
            tt,
          )
      | inr past ↦ rw past tt
    ]

clear_stay_rows_name : (net : Net) (s t p clear : ℕ) → s < length net.signals → p < length (signal_of net.signals s).phases → (phase_of (signal_of net.signals s) p).clear ≡ clear →
    Each (RowNames net) (stay_rows net.steps s t (Clear p) clear)
clear_stay_rows_name net s t p zero inside phase is = Each-join_below (RowNames net) (0 - 1) _ (λ j few. absurd (omega (arith, few)))
clear_stay_rows_name net s t p (suc clear) inside phase is = stay_rows_name net s t (Clear p) (suc clear) inside (phase, omega (arith, is))

clear_end_rows_name : (net : Net) (s t p clear : ℕ) → s < length net.signals → p < length (signal_of net.signals s).phases → (phase_of (signal_of net.signals s) p).clear ≡ clear →
    Each (RowNames net) (clear_end_rows net.steps s t p clear)
clear_end_rows_name net s t p zero inside phase is = tt
clear_end_rows_name net s t p (suc clear) inside phase is = end_rows_name net s t (Clear p) (suc clear) inside (phase, omega (arith, is))

rule_rows_name_at : (net : Net) (s t : ℕ) → s < length net.signals → t < net.steps → Each (RowNames net) (rule_rows_at (signal_of net.signals s) net.steps s t)
unfolding rule_rows_at
rule_rows_name_at net s t inside before =
    let signal : Signal = signal_of net.signals s in
    let phases : ℕ = length signal.phases in
    let follows : Each (RowNames net) (follow_rows signal net.steps s t) =
    elim (cases_Bool (nat_lt (t + 1) net.steps)) [
      | inl within ↦ rw within (follow_rows_name net t s (letters_of signal) (ltb-true (t + 1) net.steps within) inside (letters_are signal))
      | inr past ↦ rw past tt
    ] in (
      names-total net (map (Bit t s) (letters_of signal)) (bits_named net t s (letters_of signal) before inside (letters_are signal)),
      Each-append (RowNames net) _ _ (Each-append (RowNames net) _ _ (Each-append (RowNames net) _ _ (Each-append (RowNames net) (follow_rows signal net.steps s t) _ follows
          (Each-join_below (RowNames net) phases _ (λ p phase. stay_rows_name net s t (Green p) (phase_of signal p).min inside phase)))
          (Each-join_below (RowNames net) phases _ (λ p phase. end_rows_name net s t (Green p) (phase_of signal p).max inside phase)))
          (Each-join_below (RowNames net) phases _ (λ p phase. clear_stay_rows_name net s t p (phase_of signal p).clear inside phase refl)))
          (Each-join_below (RowNames net) phases _ (λ p phase. clear_end_rows_name net s t p (phase_of signal p).clear inside phase refl)),
    )

pub rule_rows_name : (net : Net) → Each (RowNames net) (rule_rows net)
unfolding rule_rows
rule_rows_name net =
    Each-join_below (RowNames net) (length net.signals) _ (λ s inside. Each-join_below (RowNames net) net.steps (rule_rows_at (signal_of net.signals s) net.steps s) (λ t before. rule_rows_name_at net s t inside before))
