-- No row is broken exactly where those that are looked at are met.
use Rattle.std.proofs.Common.{◌≡◌, inl, inr, ℕ, ◌+◌, Bool, true, false, List, [], ◌∷◌, filter, Option, Some, None, refl, arith}
use Rattle.std.specs.Prelude.{ℤ, int_lt, ◌≤ℤ◌}
use Rattle.std.proofs.lemmas.Int.{ints}
use Rattle.std.proofs.lemmas.Bool.{cases_Bool}
use Rattle.program_model.specs.Columns.{Column}
use Rattle.program_model.specs.Rows.{AllMeet, Compares, SumRow, sum_at}
use Rattle.rule_breaks.specs.Breaks.{broken_or, first_break, names_within, price_in, price_of}
use Rattle.rule_breaks.specs.declared.breaks.RuleBreak.{RuleBreak}

-- no price shows that numbers compare wrongly exactly where they compare
pub price_none : (equal : Bool) (left right : ℤ) → price_of equal left right ≡ None → Compares equal left right
price_none true left right none =
    elim (cases_Bool (int_lt left right)) [
      | inl below ↦ absurd (let e = rw below at none in cc)
      | inr at_least ↦
          elim (cases_Bool (int_lt right left)) [
            | inl above ↦ absurd (let e = rw (at_least, above) at none in cc)
            | inr at_most ↦ omega (arith, ints, at_least, at_most)
          ]
    ]
price_none false left right none =
    elim (cases_Bool (int_lt left right)) [
      | inl below ↦ absurd (let e = rw below at none in cc)
      | inr at_least ↦ omega (arith, ints, at_least)
    ]

-- a test that fails
not_below : (left right : ℤ) → right ≤ℤ left → int_lt left right ≡ false
not_below left right above = elim (cases_Bool (int_lt left right)) [ inl below ↦ absurd (omega (arith, ints, below, above)) | inr not ↦ not ]

none_price : (equal : Bool) (left right : ℤ) → Compares equal left right → price_of equal left right ≡ None
none_price true left right compares = rw (not_below left right (omega (arith, ints, compares)), not_below right left (omega (arith, ints, compares))) refl
none_price false left right compares = rw (not_below left right compares) refl

-- nothing is found where neither the row nor what is behind it is broken
none_behind : (price : Option ℤ) (number : ℕ) (rest : Option RuleBreak) → broken_or price number rest ≡ None → (price ≡ None) × (rest ≡ None)
none_behind None number rest none = (refl, none)
none_behind (Some price) number rest none = absurd (cc)

pub none_met : (value : Column → ℤ) (steps number : ℕ) (rows : List (SumRow Column)) → first_break value steps number rows ≡ None → AllMeet value (filter (names_within steps) rows)
none_met value steps number [] none = tt
none_met value steps number (row ∷ rows) none =
    let parts : (price_in value steps row ≡ None) × (first_break value steps (number + 1) rows ≡ None) = none_behind (price_in value steps row) number (first_break value steps (number + 1) rows) none in
    let rest : AllMeet value (filter (names_within steps) rows) = none_met value steps (number + 1) rows parts.1 in
    elim (cases_Bool (names_within steps row)) [
      | inl within ↦ rw within (price_none row.equal (sum_at value row.sum) row.rhs (rw within at parts.0), rest)
      | inr past ↦ rw past rest
    ]

pub met_none : (value : Column → ℤ) (steps number : ℕ) (rows : List (SumRow Column)) → AllMeet value (filter (names_within steps) rows) → first_break value steps number rows ≡ None
met_none value steps number [] met = refl
met_none value steps number (row ∷ rows) met =
    elim (cases_Bool (names_within steps row)) [
      | inl within ↦
          let both : Compares row.equal (sum_at value row.sum) row.rhs × AllMeet value (filter (names_within steps) rows) = rw within at met in
          rw (within, none_price row.equal (sum_at value row.sum) row.rhs both.0) (met_none value steps (number + 1) rows both.1)
      | inr past ↦ rw past (met_none value steps (number + 1) rows (rw past at met))
    ]
