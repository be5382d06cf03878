-- A walk over rows in parts, and what it finds.
use Rattle.std.proofs.Common.{◌≡◌, inl, inr, ℕ, zero, suc, ◌+◌, ◌-◌, ◌^◌, ◌<◌, ◌≤◌, Bool, true, false, List, [], ◌∷◌, ◌++◌, length, Option, Some, None, refl, ap, ◌∙◌, sym, subst, arith}
use Rattle.std.specs.Prelude.{ℤ, pos, int_lt, ◌-ℤ◌, Result, Ok, Err, if◌then◌else◌}
use Rattle.std.proofs.lemmas.Int.{ints}
use Rattle.std.proofs.lemmas.Bool.{cases_Bool, cases_eq}
use Rattle.listed.specs.Below.{join_below}
use Rattle.listed.proofs.JoinLaws.{join_below-suc}
use Rattle.program_model.specs.Columns.{Column}
use Rattle.program_model.specs.Rows.{Sum, SumRow, at_least, equals, sum_at}
use Rattle.rule_breaks.specs.Breaks.{broken_or, first_break, names_within, price_in}
use Rattle.rule_breaks.specs.declared.breaks.RuleBreak.{RuleBreak}
use Rattle.rule_breaks.specs.inner.Walk.{after, judged, next_number, passed, walk}

abbrev Values : Type 0
Values = Column → ℤ

abbrev Rows : Type 0
Rows = List (SumRow Column)

-- ---- parts

-- what comes after two parts
after_both : (result : Result ℕ RuleBreak) (f g h : ℕ → Result ℕ RuleBreak) → ((n : ℕ) → f n ≡ after (g n) h) → after result f ≡ after (after result g) h
after_both (Ok n) f g h same = same n
after_both (Err found) f g h same = refl

-- nothing comes after it
after_none : (result : Result ℕ RuleBreak) → after result (λ n. Ok n) ≡ result
after_none (Ok n) = refl
after_none (Err found) = refl

-- two lists of rows
pub walk-append : (value : Column → ℤ) (steps number : ℕ) (xs ys : List (SumRow Column)) → walk value steps number (xs ++ ys) ≡ after (walk value steps number xs) (λ next. walk value steps next ys)
walk-append value steps number [] ys = refl
walk-append value steps number (x ∷ xs) ys =
    after_both (passed (price_in value steps x) number) (λ next. walk value steps next (xs ++ ys)) (λ next. walk value steps next xs) (λ next. walk value steps next ys)
    (λ next. walk-append value steps next xs ys)

-- a part more that was passed
pub walk_more : (value : Column → ℤ) (steps start now next k : ℕ) (parts : ℕ → List (SumRow Column)) → walk value steps start (join_below k parts) ≡ Ok now → walk value steps now (parts k) ≡ Ok next →
    walk value steps start (join_below (k + 1) parts) ≡ Ok next
walk_more value steps start now next k parts before here =
    ap (walk value steps start) (join_below-suc k parts) ∙ walk-append value steps start (join_below k parts) (parts k)
    ∙ ap (λ result. after result (λ n. walk value steps n (parts k))) before ∙ here

-- all parts
pub walk_all : (value : Column → ℤ) (steps start now k n : ℕ) (parts : ℕ → List (SumRow Column)) → k ≡ n → walk value steps start (join_below k parts) ≡ Ok now → Ok now ≡ walk value steps start (join_below n parts)
walk_all value steps start now k n parts all passed_all = sym passed_all ∙ ap (λ m. walk value steps start (join_below m parts)) all

-- a part that is broken
pub walk_stops : (value : Column → ℤ) (steps start now n k : ℕ) (parts : ℕ → List (SumRow Column)) (found : RuleBreak) → k < n → walk value steps start (join_below k parts) ≡ Ok now →
    walk value steps now (parts k) ≡ Err found → walk value steps start (join_below n parts) ≡ Err found
unfolding join_below
walk_stops value steps start now zero k parts found inside before here = absurd (omega (arith, inside))
walk_stops value steps start now (suc n) k parts found inside before here =
    elim (cases_eq k n) [
      | inl same ↦
          let front : walk value steps start (join_below n parts) ≡ Ok now = subst (λ m. walk value steps start (join_below m parts) ≡ Ok now) same before in
          let last : walk value steps now (parts n) ≡ Err found = subst (λ m. walk value steps now (parts m) ≡ Err found) same here in
          walk-append value steps start (join_below n parts) (parts n) ∙ ap (λ result. after result (λ m. walk value steps m (parts n))) front ∙ last
      | inr other ↦
          let front : walk value steps start (join_below n parts) ≡ Err found = walk_stops value steps start now n k parts found (omega (arith, inside, other)) before here in
          walk-append value steps start (join_below n parts) (parts n) ∙ ap (λ result. after result (λ m. walk value steps m (parts n))) front
    ]

-- ---- one row

-- a row that names steps that are not looked at
pub walk_past : (value : Column → ℤ) (steps number : ℕ) (row : SumRow Column) → names_within steps row ≡ false → Ok (next_number number) ≡ walk value steps number (row ∷ [])
walk_past value steps number row past = rw past refl

-- a row that is looked at
walk_price : (value : Column → ℤ) (steps number : ℕ) (row : SumRow Column) → names_within steps row ≡ true →
    judged number row.equal (sum_at value row.sum) row.rhs ≡ walk value steps number (row ∷ [])
walk_price value steps number row within = rw within (sym (after_none (judged number row.equal (sum_at value row.sum) row.rhs)))

-- as a sum that is to be equal to a number
pub walk_equal : (value : Column → ℤ) (steps number left right : ℕ) (sum : Sum Column) → names_within steps (equals sum (pos right)) ≡ true → sum_at value sum ≡ pos left →
    judged number true (pos left) (pos right) ≡ walk value steps number (equals sum (pos right) ∷ [])
walk_equal value steps number left right sum within is =
    ap (λ (l : ℤ). judged number true l (pos right)) (sym is) ∙ walk_price value steps number (equals sum (pos right)) within

-- the same comparison of other numbers
less_same : (a b c d : ℤ) → a -ℤ b ≡ c -ℤ d → int_lt a b ≡ int_lt c d
less_same a b c d same =
    elim (cases_Bool (int_lt a b)) [
      | inl less ↦ elim (cases_Bool (int_lt c d)) [ inl is ↦ less ∙ sym is | inr not ↦ absurd (omega (arith, ints, less, not, same)) ]
      | inr not_less ↦ elim (cases_Bool (int_lt c d)) [ inl is ↦ absurd (omega (arith, ints, not_less, is, same)) | inr not ↦ not_less ∙ sym not ]
    ]

-- and as one that is to be at least a number
pub walk_at_least : (value : Column → ℤ) (steps number left right : ℕ) (sum : Sum Column) (rhs : ℤ) → names_within steps (at_least sum rhs) ≡ true → pos left -ℤ pos right ≡ sum_at value sum -ℤ rhs →
    judged number false (pos left) (pos right) ≡ walk value steps number (at_least sum rhs ∷ [])
walk_at_least value steps number left right sum rhs within same =
    ap (λ (less : Bool). passed (if less then Some (pos 1) else None) number) (less_same (pos left) (pos right) (sum_at value sum) rhs same)
    ∙ walk_price value steps number (at_least sum rhs) within

-- ---- numbers

-- the number that was reached
abbrev number_in : Result ℕ RuleBreak → ℕ
number_in (Ok number) = number
number_in (Err found) = 0

small_behind : (number next : ℕ) (price : Option ℤ) (more : ℕ → Result ℕ RuleBreak) → ((n : ℕ) → n ≤ 2 ^ 32 - 1 → more n ≡ Ok next → next ≤ 2 ^ 32 - 1) → after (passed price number) more ≡ Ok next → next ≤ 2 ^ 32 - 1
small_behind number next None more small is = small (next_number number) (omega arith) is
small_behind number next (Some price) more small is = absurd (cc)

-- no number that is reached is too great
pub walk_small : (value : Column → ℤ) (steps number next : ℕ) (rows : List (SumRow Column)) → number ≤ 2 ^ 32 - 1 → walk value steps number rows ≡ Ok next → next ≤ 2 ^ 32 - 1
walk_small value steps number next [] small is = let same : number ≡ next = ap number_in is in omega (arith, small, same)
walk_small value steps number next (row ∷ rows) small is =
    small_behind number next (price_in value steps row) (λ n. walk value steps n rows) (λ n few reached. walk_small value steps n next rows few reached) is

-- ---- what is found

-- what a walk finds
abbrev pub found_by : Result ℕ RuleBreak → Option RuleBreak
found_by (Ok number) = None
found_by (Err found) = Some found

-- a row, and what is found behind it
finds_behind : (number : ℕ) (price : Option ℤ) (more : ℕ → Result ℕ RuleBreak) (rest : Option RuleBreak) → number + 1 ≤ 2 ^ 32 - 1 → found_by (more (number + 1)) ≡ rest →
    found_by (after (passed price number) more) ≡ broken_or price number rest
finds_behind number (Some price) more rest few behind = refl
finds_behind number None more rest few behind = let next : next_number number ≡ number + 1 = omega (arith, few) in rw next behind

-- the first break, where the rows can be counted
pub walk_finds : (value : Column → ℤ) (steps number : ℕ) (rows : List (SumRow Column)) → number + length rows ≤ 2 ^ 32 - 1 → found_by (walk value steps number rows) ≡ first_break value steps number rows
walk_finds value steps number [] few = refl
walk_finds value steps number (row ∷ rows) few =
    finds_behind number (price_in value steps row) (λ next. walk value steps next rows) (first_break value steps (number + 1) rows) (omega (arith, few))
    (walk_finds value steps (number + 1) rows (omega (arith, few)))
