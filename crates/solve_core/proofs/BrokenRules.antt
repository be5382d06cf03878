-- The price of the first rule row that bits break shows that a box with these bits alone is empty.
use Rattle.std.proofs.Common.{◌≡◌, ◌≢◌, ◌⊎◌, inl, inr, ℕ, ◌<◌, ◌≤◌, true, List, [], ◌∷◌, ◌++◌, All, length, get_or, ap, ◌∙◌, sym, subst, arith}
use Rattle.std.specs.Prelude.{Bool, ℤ, pos, ◌-ℤ◌, ◌*ℤ◌, ◌≤ℤ◌, ◌+ℤ◌, false, nat_lt, not, ◌==◌, unsigned_abs}
use Rattle.std.proofs.lemmas.Bool.{cases_Bool}
use Rattle.std.proofs.lemmas.Int.{ints}
use Rattle.std.proofs.lemmas.List.{get_or_append_left, get_or-map, get_or-take, length-append, length-map}
use Rattle.std.proofs.lemmas.List.Elements.{All-cons, All-filter, All-head, All-nil, All-tail}
use Rattle.std.proofs.Math.Seq.{get_or-append_seam}
use Rattle.ct_base.specs.Validity.{IsValid}
use Rattle.ct_base.specs.declared.net.Net.{Net}
use Rattle.sparse_program.specs.Program.{no_row, row_of, terms_of}
use Rattle.sparse_program.specs.Terms.{inserted, rising, terms_sum}
use Rattle.sparse_program.specs.declared.row.Row.{Row}
use Rattle.program_model.specs.Columns.{BranchRest, BranchRoom, Bit, Column, Flow, Parcels, ParcelsRest, Room, RoomRest, Switch, Units}
use Rattle.program_model.specs.Existence.{IsColumn}
use Rattle.program_model.specs.FlowRows.{flow_rows}
use Rattle.program_model.specs.Numbers.{number_of, plan_count}
use Rattle.program_model.specs.Points.{program_of, rows}
use Rattle.program_model.specs.Rows.{SumRow, sum_at, terms_at}
use Rattle.program_model.specs.RuleRows.{rule_rows}
use Rattle.program_model.specs.Sparse.{by_number, sparse}
use Rattle.program_model.proofs.ColumnLaws.{Each, Each-at}
use Rattle.program_model.proofs.NumberLaws.{bit_stands}
use Rattle.program_model.proofs.RowColumns.{RowNames, rule_rows_name}
use Rattle.program_model.proofs.SparseLaws.{terms_sum-sparse}
use Rattle.certificate_model.specs.Leaves.{IsGoodEmpty}
use Rattle.certificate_model.specs.Value.{AreLawful, IsSigned, most_price, value}
use Rattle.certificate_model.proofs.PointLaws.{rows_there}
use Rattle.rule_breaks.specs.Breaks.{IsFirstBreak, Shows, value_in}
use Rattle.rule_breaks.specs.declared.breaks.RuleBreak.{RuleBreak}
use Rattle.search_model.specs.Breaks.{IsFixedAt, one_price}
use Rattle.search_model.proofs.BreakLaws.{one_price_value}
use Rattle.solve_core.specs.inner.Decided.{ShowsEmpty}
use Rattle.solve_core.proofs.RuleBits.{IsBit, NamesBits, rule_rows_name_bits}

-- a fact of the numbers of terms
abbrev OfNumbers : (ℕ → Type 0) → ℕ × ℤ → Type 0
OfNumbers P term = P term.0

-- a term more at its place
inserted_of : (P : ℕ → Type 0) (terms : List (ℕ × ℤ)) (term : ℕ × ℤ) → All (OfNumbers P) terms → P term.0 → All (OfNumbers P) (inserted terms term)
inserted_of P [] term each here = All-cons (OfNumbers P) term [] here each
inserted_of P (other ∷ terms) term each here =
    let first : P other.0 = All-head (OfNumbers P) other terms each in
    let rest : All (OfNumbers P) terms = All-tail (OfNumbers P) other terms each in
    elim (cases_Bool (nat_lt term.0 other.0)) [
      | inl before ↦ rw before (All-cons (OfNumbers P) term (other ∷ terms) here each)
      | inr past ↦
          elim (cases_Bool (other.0 == term.0)) [
            | inl same ↦ rw (past, same) (All-cons (OfNumbers P) (other.0, other.1 +ℤ term.1) terms first rest)
            | inr apart ↦ rw (past, apart) (All-cons (OfNumbers P) other (inserted terms term) first (inserted_of P terms term rest here))
          ]
    ]

rising_of : (P : ℕ → Type 0) (terms : List (ℕ × ℤ)) → All (OfNumbers P) terms → All (OfNumbers P) (rising terms)
rising_of P [] each = each
rising_of P (term ∷ terms) each =
    inserted_of P (rising terms) term (rising_of P terms (All-tail (OfNumbers P) term terms each)) (All-head (OfNumbers P) term terms each)

-- a bit of the network is a plan column
bit_is_of_plan : (net : Net) (c : Column) → IsBit c → IsColumn net c → number_of net c < plan_count net
bit_is_of_plan net (Bit t s letter) bit is = (bit_stands net t s letter (Units 0 0) is.0 is.1 is.2).0
bit_is_of_plan net (Units t i) bit is = absurd bit
bit_is_of_plan net (Room t i) bit is = absurd bit
bit_is_of_plan net (RoomRest t i) bit is = absurd bit
bit_is_of_plan net (Parcels t i) bit is = absurd bit
bit_is_of_plan net (ParcelsRest t i) bit is = absurd bit
bit_is_of_plan net (BranchRoom t i k) bit is = absurd bit
bit_is_of_plan net (BranchRest t i k) bit is = absurd bit
bit_is_of_plan net (Flow t i) bit is = absurd bit
bit_is_of_plan net (Switch t i m) bit is = absurd bit

-- what holds of the plan columns holds of those that terms name, where these are bits
by_number_of : (net : Net) (P : ℕ → Type 0) (terms : List (Column × ℤ)) → ((j : ℕ) → j < plan_count net → P j) → Each (λ (term : Column × ℤ). IsBit term.0) terms →
    Each (λ (term : Column × ℤ). IsColumn net term.0) terms → All (OfNumbers P) (by_number (number_of net) terms)
by_number_of net P [] holds bits are = All-nil (OfNumbers P)
by_number_of net P (term ∷ terms) holds bits are =
    All-cons (OfNumbers P) (number_of net term.0, term.1) (by_number (number_of net) terms) (holds (number_of net term.0) (bit_is_of_plan net term.0 bits.0 are.0))
    (by_number_of net P terms holds bits.1 are.1)

-- and so in a row as the program holds it
sparse_of : (net : Net) (P : ℕ → Type 0) (row : SumRow Column) → ((j : ℕ) → j < plan_count net → P j) → NamesBits row → RowNames net row → All (OfNumbers P) (sparse (number_of net) row).terms
sparse_of net P row holds bits are =
    All-filter (λ (term : ℕ × ℤ). not (unsigned_abs term.1 == 0)) (OfNumbers P) (rising (by_number (number_of net) row.sum.terms))
    (rising_of P (by_number (number_of net) row.sum.terms) (by_number_of net P row.sum.terms holds bits are))

-- what stands for a row that is not there
abbrev no_sum_row : SumRow Column
no_sum_row = record { equal = true; rhs = pos 0; sum = record { constant = pos 0; terms = [] } }

-- the row that is broken: where it stands, and what it names
record BrokenRow (net : Net) (number : ℕ) (broken : SumRow Column) : Type 0 where
  there : number < length (program_of net).rows
  is : row_of (program_of net).rows number ≡ sparse (number_of net) broken
  bits : NamesBits broken
  names : RowNames net broken

broken_row_is : (net : Net) (before behind : List (SumRow Column)) (broken : SumRow Column) → before ++ broken ∷ behind ≡ rule_rows net → BrokenRow net (length before) broken
unfolding program_of
broken_row_is net before behind broken parts =
    let i : ℕ = length before in
    let inside : i < length (rule_rows net) = omega (arith, ap length parts, length-append before (broken ∷ behind)) in
    let within : i < length (rows net) = omega (arith, inside, length-append (rule_rows net) (flow_rows net)) in
    let at : get_or (rule_rows net) i no_sum_row ≡ broken = sym (ap (λ (list : List (SumRow Column)). get_or list i no_sum_row) parts) ∙ get_or-append_seam before broken behind no_sum_row in
    let among : get_or (rows net) i no_sum_row ≡ broken = get_or_append_left (rule_rows net) (flow_rows net) no_sum_row i inside ∙ at in
    record {
      there = omega (arith, within, length-map (rows net) (sparse (number_of net)));
      is = get_or-map (sparse (number_of net)) (rows net) i no_sum_row no_row within ∙ ap (sparse (number_of net)) among;
      bits = subst NamesBits at (Each-at NamesBits (rule_rows net) i no_sum_row (rule_rows_name_bits net) inside);
      names = subst (RowNames net) at (Each-at (RowNames net) (rule_rows net) i no_sum_row (rule_rows_name net) inside);
    }

-- one price, which is lawful on its row
one_price_is_lawful : (list : List Row) (row : ℕ) (price : ℤ) → row < length list → price ≢ pos 0 → unsigned_abs price ≤ most_price → IsSigned (row_of list row) price → AreLawful list ((row, price) ∷ [])
one_price_is_lawful list row price there some small signed = record {
  there = All-cons (λ (pair : ℕ × ℤ). pair.0 < length list) (row, price) [] there (All-nil (λ (pair : ℕ × ℤ). pair.0 < length list));
  rises = λ i j d before within. absurd (omega (arith, before, within));
  some = All-cons (λ (pair : ℕ × ℤ). pair.1 ≢ pos 0) (row, price) [] some (All-nil (λ (pair : ℕ × ℤ). pair.1 ≢ pos 0));
  within = All-cons (λ (pair : ℕ × ℤ). unsigned_abs pair.1 ≤ most_price) (row, price) [] small (All-nil (λ (pair : ℕ × ℤ). unsigned_abs pair.1 ≤ most_price));
  signed = All-cons (λ (pair : ℕ × ℤ). IsSigned (row_of list pair.0) pair.1) (row, price) [] signed (All-nil (λ (pair : ℕ × ℤ). IsSigned (row_of list pair.0) pair.1));
}

-- a price that shows on which side of its right side a row's left side lies: it is allowed there, and what it pays is above 0
record PaysFor (equal : Bool) (left right price : ℤ) : Type 0 where
  some : price ≢ pos 0
  small : unsigned_abs price ≤ most_price
  signed : (equal ≡ true) ⊎ (pos 0 ≤ℤ price)
  above : pos 1 ≤ℤ (price *ℤ (right -ℤ left))

shown_pays : (equal : Bool) (left right price : ℤ) → Shows price equal left right → PaysFor equal left right price
shown_pays equal left right price (inl low) = record {
  some = λ none. absurd (omega (arith, ints, low.0, none));
  small = omega (arith, ints, low.0);
  signed = inr (omega (arith, ints, low.0));
  above = rw low.0 (omega (arith, ints, low.1));
}
shown_pays equal left right price (inr high) = record {
  some = λ none. absurd (omega (arith, ints, high.0, none));
  small = omega (arith, ints, high.0);
  signed = inl high.1;
  above = rw high.0 (omega (arith, ints, high.2));
}

-- so the price of the first rule row that bits break shows that a box with these bits alone is empty
pub break_shows_empty : (net : Net) (bits : List ℤ) (found : RuleBreak) (pairs : List (ℕ × ℤ)) → IsValid net → IsFirstBreak (value_in net bits) net.steps (rule_rows net) found →
    pairs ≡ (found.row, found.price) ∷ [] → ShowsEmpty net bits pairs
break_shows_empty net bits found pairs valid first is = λ box of.
    let x : ℕ → ℤ = λ j. get_or bits j (pos 0) in
    let list : List Row = (program_of net).rows in
    let broken : SumRow Column = first.broken in
    let row : BrokenRow net found.row broken = subst (λ (number : ℕ). BrokenRow net number broken) (sym first.number) (broken_row_is net first.before first.behind broken first.parts) in
    let fixed : (j : ℕ) → j < plan_count net → IsFixedAt box x j = λ j inside. record {
      low = sym (get_or-take (plan_count net) box.lows j (pos 0) inside) ∙ ap (λ (list : List ℤ). get_or list j (pos 0)) of.lows;
      high = sym (get_or-take (plan_count net) box.highs j (pos 0) inside) ∙ ap (λ (list : List ℤ). get_or list j (pos 0)) of.highs;
    } in
    let terms : All (λ (term : ℕ × ℤ). IsFixedAt box x term.0) (terms_of list found.row) =
    subst (λ (held : Row). All (OfNumbers (IsFixedAt box x)) held.terms) (sym row.is) (sparse_of net (IsFixedAt box x) broken fixed row.bits row.names) in
    let paid : value (program_of net) false box (one_price found.row found.price) ≡ found.price *ℤ ((row_of list found.row).rhs -ℤ terms_sum (terms_of list found.row) x) =
    one_price_value (program_of net) box found.row found.price x (rows_there net valid) row.there terms in
    let left : terms_sum (terms_of list found.row) x ≡ terms_at (value_in net bits) broken.sum.terms =
    ap (λ (held : Row). terms_sum held.terms x) row.is ∙ terms_sum-sparse x (number_of net) broken in
    let right : (row_of list found.row).rhs ≡ broken.rhs -ℤ broken.sum.constant = ap (λ (held : Row). held.rhs) row.is in
    let lacks : (row_of list found.row).rhs -ℤ terms_sum (terms_of list found.row) x ≡ broken.rhs -ℤ sum_at (value_in net bits) broken.sum = omega (arith, ints, left, right) in
    let pays : PaysFor broken.equal (sum_at (value_in net bits) broken.sum) broken.rhs found.price = shown_pays broken.equal (sum_at (value_in net bits) broken.sum) broken.rhs found.price first.shows in
    let signed : IsSigned (row_of list found.row) found.price = subst (λ (held : Row). IsSigned held found.price) (sym row.is) pays.signed in
    let empty : IsGoodEmpty net box ((found.row, found.price) ∷ []) = record {
      lawful = one_price_is_lawful list found.row found.price row.there pays.some pays.small signed;
      above = subst (λ (z : ℤ). pos 1 ≤ℤ z) (sym (paid ∙ ap (λ (z : ℤ). found.price *ℤ z) lacks)) pays.above;
    } in
    subst (λ (list : List (ℕ × ℤ)). IsGoodEmpty net box list) (sym is) empty
