-- Rows over columns of any kind: over what columns count, and over their numbers (docs/program.md, "Rows").
use Rattle.std.specs.Prelude.{◌≡◌, ℕ, ℤ, pos, ◌+ℤ◌, ◌*ℤ◌, ◌≤ℤ◌, neg_ℤ, Bool, true, false, List, [], ◌∷◌, ◌++◌, map}

-- a constant, and some terms: columns with their coefficients, in any order
pub record Sum (C : Type 0) : Type 0 where
  pub constant : ℤ
  pub terms : List (C × ℤ)

-- a sum that is equal to the right side, or at least that
pub record SumRow (C : Type 0) : Type 0 where
  pub equal : Bool
  pub rhs : ℤ
  pub sum : Sum C

-- a number alone
abbrev pub number : {C : Type 0} → ℕ → Sum C
number n = record { constant = pos n; terms = [] }

-- a column alone
abbrev pub column : {C : Type 0} → C → Sum C
column c = record { constant = pos 0; terms = (c, pos 1) ∷ [] }

-- the two sums together
abbrev pub plus : {C : Type 0} → Sum C → Sum C → Sum C
plus a b = record { constant = a.constant +ℤ b.constant; terms = a.terms ++ b.terms }

-- the sum so many times
abbrev pub times : {C : Type 0} → ℤ → Sum C → Sum C
times {C} k a = record { constant = k *ℤ a.constant; terms = map (λ (term : C × ℤ). (term.0, k *ℤ term.1)) a.terms }

-- the first sum without the second
abbrev pub minus : {C : Type 0} → Sum C → Sum C → Sum C
minus a b = plus a (times (neg_ℤ (pos 1)) b)

-- each column once
abbrev pub once : {C : Type 0} → C → C × ℤ
once c = (c, pos 1)

-- some columns together
abbrev pub total : {C : Type 0} → List C → Sum C
total columns = record { constant = pos 0; terms = map once columns }

-- the sum is equal to a number
abbrev pub equals : {C : Type 0} → Sum C → ℤ → SumRow C
equals sum rhs = record { equal = true; rhs = rhs; sum = sum }

-- the sum is at least a number
abbrev pub at_least : {C : Type 0} → Sum C → ℤ → SumRow C
at_least sum rhs = record { equal = false; rhs = rhs; sum = sum }

-- what terms come to, where each column has a value
abbrev pub terms_at : {C : Type 0} → (C → ℤ) → List (C × ℤ) → ℤ
terms_at value [] = pos 0
terms_at value (term ∷ terms) = term.1 *ℤ value term.0 +ℤ terms_at value terms

-- what a sum comes to
abbrev pub sum_at : {C : Type 0} → (C → ℤ) → Sum C → ℤ
sum_at value sum = sum.constant +ℤ terms_at value sum.terms

-- a number is equal to another, or at least that
abbrev pub Compares : Bool → ℤ → ℤ → Type 0
Compares true number rhs = number ≡ rhs
Compares false number rhs = rhs ≤ℤ number

-- the values meet the row
abbrev pub Meets : {C : Type 0} → (C → ℤ) → SumRow C → Type 0
Meets value row = Compares row.equal (sum_at value row.sum) row.rhs

-- the values meet all rows
abbrev pub AllMeet : {C : Type 0} → (C → ℤ) → List (SumRow C) → Type 0
AllMeet value [] = Unit {0}
AllMeet value (row ∷ rows) = Meets value row × AllMeet value rows
