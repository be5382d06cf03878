-- Which steps a rule row names: those up to the last of its window, and so the row is looked at exactly where that is.
use Rattle.std.proofs.Common.{◌≡◌, inl, inr, ℕ, zero, suc, ◌+◌, ◌<◌, ◌≤◌, Bool, true, false, List, [], ◌∷◌, ◌++◌, length, map, filter, refl, ◌∙◌, sym, arith}
use Rattle.std.specs.Prelude.{ℤ, pos, neg_ℤ, ◌*ℤ◌, nat_lt}
use Rattle.std.specs.List.{list_all}
use Rattle.std.proofs.lemmas.Bool.{cases_Bool, cases_lt, eq-eqb, lt-ltb, le-ltb, ltb-true, and_parts}
use Rattle.listed.specs.Below.{table_of}
use Rattle.listed.proofs.TableLaws.{table_of-suc}
use Rattle.ct_base.specs.declared.plan.Letter.{Letter}
use Rattle.ct_base.specs.declared.plan.Letter.TheVariants.{Clear, Green}
use Rattle.ct_base.specs.declared.signal.Signal.{Signal}
use Rattle.program_model.specs.Columns.{Bit, Column, letters_of}
use Rattle.program_model.specs.Existence.{IsLetterOf}
use Rattle.program_model.specs.Rows.{SumRow, column, times, total}
use Rattle.program_model.specs.RuleRows.{end_row, follow_row, may_follow, one_letter_row, stay_row}
use Rattle.program_model.proofs.ColumnLaws.{Each, Each-append, Each-table_of}
use Rattle.rule_breaks.specs.Breaks.{names_within, step_of}
use Rattle.rule_breaks.proofs.MetRows.{each_letter}

-- the terms name only steps below a number
abbrev pub AreWithin : ℕ → List (Column × ℤ) → Type 0
AreWithin steps terms = Each (λ (term : Column × ℤ). step_of term.0 < steps) terms

-- the columns do
abbrev AreColumnsWithin : ℕ → List Column → Type 0
AreColumnsWithin steps columns = Each (λ (c : Column). step_of c < steps) columns

-- what holds of two lists together holds of each
each_parts : {X : Type 0} (P : X → Type 0) (xs ys : List X) → Each P (xs ++ ys) → Each P xs × Each P ys
each_parts P [] ys each = (tt, each)
each_parts P (x ∷ xs) ys each = let rest : Each P xs × Each P ys = each_parts P xs ys each.1 in ((each.0, rest.0), rest.1)

-- ---- the test

passes_each : (steps : ℕ) (terms : List (Column × ℤ)) → list_all (λ (term : Column × ℤ). nat_lt (step_of term.0) steps) terms ≡ true → AreWithin steps terms
passes_each steps [] passes = tt
passes_each steps (term ∷ terms) passes =
    let parts : (nat_lt (step_of term.0) steps ≡ true) × (list_all (λ (term : Column × ℤ). nat_lt (step_of term.0) steps) terms ≡ true) = and_parts _ _ passes in
    (ltb-true (step_of term.0) steps parts.0, passes_each steps terms parts.1)

each_passes : (steps : ℕ) (terms : List (Column × ℤ)) → AreWithin steps terms → list_all (λ (term : Column × ℤ). nat_lt (step_of term.0) steps) terms ≡ true
each_passes steps [] each = refl
each_passes steps (term ∷ terms) each = rw (lt-ltb (step_of term.0) steps each.0) (each_passes steps terms each.1)

-- a row is looked at exactly where its last step is
names_as : (steps u : ℕ) (row : SumRow Column) → (u < steps → AreWithin steps row.sum.terms) → (AreWithin steps row.sum.terms → u < steps) → names_within steps row ≡ nat_lt u steps
names_as steps u row there back =
    elim (cases_lt u steps) [
      | inl below ↦ each_passes steps row.sum.terms (there below) ∙ sym (lt-ltb u steps below)
      | inr past ↦
          elim (cases_Bool (names_within steps row)) [
            | inl names ↦ absurd (omega (arith, past, back (passes_each steps row.sum.terms names)))
            | inr not ↦ not ∙ sym (le-ltb u steps past)
          ]
    ]

-- ---- sums

within_total : (steps : ℕ) (columns : List Column) → AreColumnsWithin steps columns → AreWithin steps (total columns).terms
within_total steps [] each = tt
within_total steps (c ∷ columns) each = (each.0, within_total steps columns each.1)

total_within : (steps : ℕ) (columns : List Column) → AreWithin steps (total columns).terms → AreColumnsWithin steps columns
total_within steps [] each = tt
total_within steps (c ∷ columns) each = (each.0, total_within steps columns each.1)

within_times : (steps : ℕ) (k : ℤ) (terms : List (Column × ℤ)) → AreWithin steps terms → AreWithin steps (map (λ (term : Column × ℤ). (term.0, k *ℤ term.1)) terms)
within_times steps k [] each = tt
within_times steps k (term ∷ terms) each = (each.0, within_times steps k terms each.1)

times_within : (steps : ℕ) (k : ℤ) (terms : List (Column × ℤ)) → AreWithin steps (map (λ (term : Column × ℤ). (term.0, k *ℤ term.1)) terms) → AreWithin steps terms
times_within steps k [] each = tt
times_within steps k (term ∷ terms) each = (each.0, times_within steps k terms each.1)

-- bits of letters at one step
bits_within : (steps t s : ℕ) (letters : List Letter) → t < steps → AreColumnsWithin steps (map (Bit t s) letters)
bits_within steps t s [] before = tt
bits_within steps t s (letter ∷ letters) before = (before, bits_within steps t s letters before)

-- ---- rows

-- where they are all below, so is the step, of any letter among them
passing_within : (steps t s : ℕ) (test : Letter → Bool) (letters : List Letter) → AreColumnsWithin steps (map (Bit t s) (filter test letters)) → Each (λ letter. test letter ≡ true → t < steps) letters
passing_within steps t s test [] each = tt
passing_within steps t s test (letter ∷ letters) each =
    elim (cases_Bool (test letter)) [
      | inl passes ↦ let found : (t < steps) × AreColumnsWithin steps (map (Bit t s) (filter test letters)) = rw passes at each in (λ is. found.0, passing_within steps t s test letters found.1)
      | inr fails ↦
          let found : AreColumnsWithin steps (map (Bit t s) (filter test letters)) = rw fails at each in
          (λ is. absurd (let e : true ≡ false = sym is ∙ fails in cc), passing_within steps t s test letters found)
    ]

letters_within : (steps t s : ℕ) (letters : List Letter) → AreColumnsWithin steps (map (Bit t s) letters) → Each (λ letter. t < steps) letters
letters_within steps t s [] each = tt
letters_within steps t s (letter ∷ letters) each = (each.0, letters_within steps t s letters each.1)

pub one_letter_names : (steps : ℕ) (signal : Signal) (s t : ℕ) → 1 ≤ length signal.phases → names_within steps (one_letter_row signal s t) ≡ nat_lt t steps
one_letter_names steps signal s t some =
    names_as steps t (one_letter_row signal s t)
    (λ before. within_total steps (map (Bit t s) (letters_of signal)) (bits_within steps t s (letters_of signal) before))
    (λ within. each_letter (λ letter. t < steps) signal (Green 0) (letters_within steps t s (letters_of signal) (total_within steps (map (Bit t s) (letters_of signal)) within)) (omega (arith, some)))

-- each letter may be followed by itself
follows_itself : (signal : Signal) (letter : Letter) → may_follow signal letter letter ≡ true
follows_itself signal (Green p) = rw (eq-eqb p p refl) refl
follows_itself signal (Clear p) = eq-eqb p p refl

pub follow_names : (steps : ℕ) (signal : Signal) (s t : ℕ) (letter : Letter) → IsLetterOf signal letter → names_within steps (follow_row signal s t letter) ≡ nat_lt (t + 1) steps
follow_names steps signal s t letter of =
    let test : Letter → Bool = may_follow signal letter in
    let next : List Column = map (Bit (t + 1) s) (filter test (letters_of signal)) in
    let own : List (Column × ℤ) = (times (neg_ℤ (pos 1)) (column (Bit t s letter))).terms in
    names_as steps (t + 1) (follow_row signal s t letter)
    (λ before. Each-append (λ (term : Column × ℤ). step_of term.0 < steps) (total next).terms own (within_total steps next (bits_within steps (t + 1) s (filter test (letters_of signal)) before)) (omega (arith, before), tt))
    (λ within. each_letter (λ other. test other ≡ true → t + 1 < steps) signal letter
    (passing_within steps (t + 1) s test (letters_of signal) (total_within steps next (each_parts (λ (term : Column × ℤ). step_of term.0 < steps) (total next).terms own within).0)) of
    (follows_itself signal letter))

pub stay_names : (steps s t k : ℕ) (letter : Letter) → 1 ≤ k → names_within steps (stay_row s t letter k) ≡ nat_lt (t + k) steps
stay_names steps s zero k letter some =
    names_as steps (0 + k) (stay_row s zero letter k) (λ before. (before, (omega (arith, before), tt))) (λ within. within.0)
stay_names steps s (suc t) k letter some =
    names_as steps (suc t + k) (stay_row s (suc t) letter k) (λ before. (before, (omega (arith, before), (omega (arith, before), tt)))) (λ within. within.0)

last_within : (steps n : ℕ) (f : ℕ → Column) → AreColumnsWithin steps (table_of (n + 1) f) → step_of (f n) < steps
last_within steps n f each =
    let apart : AreColumnsWithin steps (table_of n f ++ f n ∷ []) = rw (table_of-suc n f) at each in
    (each_parts (λ (c : Column). step_of c < steps) (table_of n f) (f n ∷ []) apart).1.0

pub end_names : (steps s t most : ℕ) (letter : Letter) → names_within steps (end_row s t letter most) ≡ nat_lt (t + most) steps
end_names steps s t most letter =
    let window : List Column = table_of (most + 1) (λ k. Bit (t + k) s letter) in
    names_as steps (t + most) (end_row s t letter most)
    (λ before. within_times steps (neg_ℤ (pos 1)) (total window).terms
    (within_total steps window (Each-table_of (λ (c : Column). step_of c < steps) (most + 1) (λ k. Bit (t + k) s letter) (λ k few. omega (arith, before, few)))))
    (λ within. last_within steps most (λ k. Bit (t + k) s letter) (total_within steps window (times_within steps (neg_ℤ (pos 1)) (total window).terms within)))
