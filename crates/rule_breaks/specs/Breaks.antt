-- The first rule row that the bits of the first steps do not meet, with its number in the program and the price that shows it
-- (docs/search.md, "Which bits are a plan").
use Rattle.std.specs.Prelude.{◌≡◌, ◌⊎◌, ℕ, ◌+◌, nat_lt, int_lt, ℤ, pos, neg_ℤ, ◌<ℤ◌, Bool, true, ◌&&◌, if◌then◌else◌, List, [], ◌∷◌, ◌++◌, filter, length, Option, Some, None, slice_index_or}
use Rattle.std.specs.List.{list_all}
use Rattle.ct_base.specs.declared.net.Net.{Net}
use Rattle.program_model.specs.Columns.{Column, Bit, Units, Room, RoomRest, Parcels, ParcelsRest, BranchRoom, BranchRest, Flow, Switch}
use Rattle.program_model.specs.Numbers.{number_of}
use Rattle.program_model.specs.Rows.{AllMeet, SumRow, sum_at}
use Rattle.rule_breaks.specs.declared.breaks.RuleBreak.{RuleBreak}

-- the value is that of a bit
abbrev pub IsOffOrOn : ℤ → Type 0
IsOffOrOn value = (value ≡ pos 0) ⊎ (value ≡ pos 1)

-- what each column has where these are the values of the plan columns, in their order
abbrev pub value_in : Net → List ℤ → Column → ℤ
value_in net bits c = slice_index_or bits (number_of net c) (pos 0)

-- the step at which a column counts
abbrev pub step_of : Column → ℕ
step_of (Bit t s letter) = t
step_of (Units t i) = t
step_of (Room t i) = t
step_of (RoomRest t i) = t
step_of (Parcels t i) = t
step_of (ParcelsRest t i) = t
step_of (BranchRoom t i k) = t
step_of (BranchRest t i k) = t
step_of (Flow t i) = t
step_of (Switch t i m) = t

-- the row names only steps below a number
abbrev pub names_within : ℕ → SumRow Column → Bool
names_within steps row = list_all (λ (term : Column × ℤ). nat_lt (step_of term.0) steps) row.sum.terms

-- the price that shows that a left side is not what the row asks for: 1 where it is below the right side, -1 where it is above that
-- and is to be equal, and none where the row is met
abbrev pub price_of : Bool → ℤ → ℤ → Option ℤ
price_of equal left right = if int_lt left right then Some (pos 1) else (if equal && int_lt right left then Some (neg_ℤ (pos 1)) else None)

-- the price that shows that values do not meet a row that names only steps below a number
abbrev pub price_in : (Column → ℤ) → ℕ → SumRow Column → Option ℤ
price_in value steps row = if names_within steps row then price_of row.equal (sum_at value row.sum) row.rhs else None

-- the break of the row with a number, or what is found behind it where the row has none
abbrev pub broken_or : Option ℤ → ℕ → Option RuleBreak → Option RuleBreak
broken_or None number rest = rest
broken_or (Some price) number rest = Some (record { row = number; price = price })

-- the first of some rows, of which the first has a number, that names only steps below another and is not met
abbrev pub first_break : (Column → ℤ) → ℕ → ℕ → List (SumRow Column) → Option RuleBreak
first_break value steps number [] = None
first_break value steps number (row ∷ rows) = broken_or (price_in value steps row) number (first_break value steps (number + 1) rows)

-- the price shows on which side of its right side the left side of a row lies
abbrev pub Shows : ℤ → Bool → ℤ → ℤ → Type 0
Shows price equal left right = ((price ≡ pos 1) × (left <ℤ right)) ⊎ ((price ≡ neg_ℤ (pos 1)) × (equal ≡ true) × (right <ℤ left))

-- the break is that of the first of some rows that names only steps below a number and is not met: such rows before it are met
pub record IsFirstBreak (value : Column → ℤ) (steps : ℕ) (rows : List (SumRow Column)) (found : RuleBreak) : Type 0 where
  pub before : List (SumRow Column)
  pub broken : SumRow Column
  pub behind : List (SumRow Column)
  pub parts : before ++ broken ∷ behind ≡ rows
  pub number : found.row ≡ length before
  pub within : names_within steps broken ≡ true
  pub met : AllMeet value (filter (names_within steps) before)
  pub shows : Shows found.price broken.equal (sum_at value broken.sum) broken.rhs
