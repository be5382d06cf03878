-- What is found first is a row that is not met, behind rows that are.
use Rattle.std.proofs.Common.{◌≡◌, inl, inr, ℕ, ◌+◌, Bool, true, false, List, [], ◌∷◌, ◌++◌, length, filter, Option, Some, None, refl, ap, sym, subst, arith}
use Rattle.std.specs.Prelude.{ℤ, pos, neg_ℤ, int_lt}
use Rattle.std.proofs.lemmas.Int.{ints}
use Rattle.std.proofs.lemmas.Bool.{cases_Bool}
use Rattle.program_model.specs.Columns.{Column}
use Rattle.program_model.specs.Rows.{AllMeet, SumRow, sum_at}
use Rattle.rule_breaks.specs.Breaks.{IsFirstBreak, Shows, broken_or, first_break, names_within, price_in, price_of}
use Rattle.rule_breaks.specs.declared.breaks.RuleBreak.{RuleBreak}
use Rattle.rule_breaks.proofs.MetWhereNone.{price_none}

-- ---- one row

-- a value that is found
value_or : {X : Type 0} → X → Option X → X
value_or d None = d
value_or d (Some x) = x

some_same : {X : Type 0} (x y : X) → Some x ≡ Some y → x ≡ y
unfolding value_or
some_same x y same = ap (value_or x) same

-- a price shows on which side the left side lies
price_shows : (equal : Bool) (left right price : ℤ) → price_of equal left right ≡ Some price → Shows price equal left right
price_shows true left right price is =
    elim (cases_Bool (int_lt left right)) [
      | inl below ↦ let one : Some (pos 1) ≡ Some price = rw below at is in inl (sym (some_same (pos 1) price one), omega (arith, ints, below))
      | inr at_least ↦
          elim (cases_Bool (int_lt right left)) [
            | inl above ↦ let other : Some (neg_ℤ (pos 1)) ≡ Some price = rw (at_least, above) at is in inr (sym (some_same (neg_ℤ (pos 1)) price other), refl, omega (arith, ints, above))
            | inr at_most ↦ absurd (let e = rw (at_least, at_most) at is in cc)
          ]
    ]
price_shows false left right price is =
    elim (cases_Bool (int_lt left right)) [
      | inl below ↦ let one : Some (pos 1) ≡ Some price = rw below at is in inl (sym (some_same (pos 1) price one), omega (arith, ints, below))
      | inr at_least ↦ absurd (let e = rw at_least at is in cc)
    ]

-- and so a row that is looked at
record IsBroken (value : Column → ℤ) (steps : ℕ) (row : SumRow Column) (price : ℤ) : Type 0 where
  within : names_within steps row ≡ true
  shows : Shows price row.equal (sum_at value row.sum) row.rhs

row_broken : (value : Column → ℤ) (steps : ℕ) (row : SumRow Column) (price : ℤ) → price_in value steps row ≡ Some price → IsBroken value steps row price
row_broken value steps row price is =
    elim (cases_Bool (names_within steps row)) [
      | inl within ↦ record { within = within; shows = price_shows row.equal (sum_at value row.sum) row.rhs price (rw within at is) }
      | inr past ↦ absurd (let e = rw past at is in cc)
    ]

-- a row that has no price, before rows that are met
met_more : (value : Column → ℤ) (steps : ℕ) (row : SumRow Column) (rows : List (SumRow Column)) → price_in value steps row ≡ None → AllMeet value (filter (names_within steps) rows) →
    AllMeet value (filter (names_within steps) (row ∷ rows))
met_more value steps row rows none met =
    elim (cases_Bool (names_within steps row)) [
      | inl within ↦ rw within (price_none row.equal (sum_at value row.sum) row.rhs (rw within at none), met)
      | inr past ↦ rw past met
    ]

-- ---- all rows

-- the same where the first row has a number
record IsFirstFrom (value : Column → ℤ) (steps start : ℕ) (rows : List (SumRow Column)) (found : RuleBreak) : Type 0 where
  before : List (SumRow Column)
  broken : SumRow Column
  behind : List (SumRow Column)
  parts : before ++ broken ∷ behind ≡ rows
  number : found.row ≡ start + length before
  met : AllMeet value (filter (names_within steps) before)
  is : IsBroken value steps broken found.price

by_price : (value : Column → ℤ) (steps start : ℕ) (row : SumRow Column) (rows : List (SumRow Column)) (found : RuleBreak) (price : Option ℤ) (rest : Option RuleBreak) → price_in value steps row ≡ price →
    (rest ≡ Some found → IsFirstFrom value steps (start + 1) rows found) → broken_or price start rest ≡ Some found → IsFirstFrom value steps start (row ∷ rows) found
by_price value steps start row rows found (Some price) rest has more is =
    let same : record { row = start; price = price } ≡ found = some_same (record { row = start; price = price }) found is in
    let at_start : found.row ≡ start = sym (ap (λ (f : RuleBreak). f.row) same) in
    let priced : price ≡ found.price = ap (λ (f : RuleBreak). f.price) same in
    record {
      before = [];
      broken = row;
      behind = rows;
      parts = refl;
      number = omega (arith, at_start);
      met = tt;
      is = subst (IsBroken value steps row) priced (row_broken value steps row price has);
    }
by_price value steps start row rows found None rest has more is =
    let first : IsFirstFrom value steps (start + 1) rows found = more is in
    record {
      before = row ∷ first.before;
      broken = first.broken;
      behind = first.behind;
      parts = ap (λ (them : List (SumRow Column)). row ∷ them) first.parts;
      number = omega (arith, first.number);
      met = met_more value steps row first.before has first.met;
      is = first.is;
    }

first_from : (value : Column → ℤ) (steps start : ℕ) (rows : List (SumRow Column)) (found : RuleBreak) → first_break value steps start rows ≡ Some found → IsFirstFrom value steps start rows found
first_from value steps start [] found is = absurd (cc)
first_from value steps start (row ∷ rows) found is =
    by_price value steps start row rows found (price_in value steps row) (first_break value steps (start + 1) rows) refl (λ more. first_from value steps (start + 1) rows found more) is

pub first_is : (value : Column → ℤ) (steps : ℕ) (rows : List (SumRow Column)) (found : RuleBreak) → first_break value steps 0 rows ≡ Some found → IsFirstBreak value steps rows found
first_is value steps rows found is =
    let first : IsFirstFrom value steps 0 rows found = first_from value steps 0 rows found is in
    record {
      before = first.before;
      broken = first.broken;
      behind = first.behind;
      parts = first.parts;
      number = omega (arith, first.number);
      within = first.is.within;
      met = first.met;
      shows = first.is.shows;
    }
