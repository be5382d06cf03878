-- What the left sides of rule rows come to, as counts of bits that are on.
use Rattle.std.proofs.Common.{◌≡◌, inl, inr, ℕ, zero, suc, ◌+◌, ◌-◌, Bool, List, [], ◌∷◌, length, map, filter, sum_by, Some, None, refl, ap, ◌∙◌, sym, arith}
use Rattle.std.specs.Prelude.{ℤ, pos, neg_ℤ, ◌+ℤ◌, ◌-ℤ◌, nat_lt, if◌then◌else◌, unsigned_abs}
use Rattle.std.proofs.lemmas.Int.{ints}
use Rattle.std.proofs.lemmas.Bool.{cases_lt, lt-ltb}
use Rattle.std.proofs.lemmas.List.{get_or_past}
use Rattle.std.proofs.lemmas.List.Elements.{filter-append, filter_agree}
use Rattle.std.proofs.lemmas.List.Sums.{sum_by-append}
use Rattle.listed.specs.Below.{join_below, sum_below, table_of}
use Rattle.listed.proofs.JoinLaws.{join_below-suc}
use Rattle.ct_base.specs.Access.{phase_of}
use Rattle.ct_base.specs.declared.net.Net.{Net}
use Rattle.ct_base.specs.declared.plan.Letter.{Letter}
use Rattle.ct_base.specs.declared.signal.Signal.{Signal}
use Rattle.program_model.specs.Columns.{Bit, Column, letters_by, letters_of}
use Rattle.program_model.specs.Numbers.{number_of}
use Rattle.program_model.specs.Rows.{column, minus, sum_at, total}
use Rattle.program_model.specs.RuleRows.{end_row, follow_row, letter_before, may_follow, one_letter_row, stay_row}
use Rattle.program_model.proofs.SumLaws.{sum_at-column, sum_at-minus, sum_at-number, sum_at-plus, sum_at-times, sum_at-total, sum_at-total_of_table}
use Rattle.rule_breaks.specs.Breaks.{IsOffOrOn, value_in}
use Rattle.rule_breaks.specs.inner.Kinds.{may_come}
use Rattle.rule_breaks.specs.inner.Parts.{AreBits, on}

-- what is off or on is a count
count_of : (value : ℤ) → IsOffOrOn value → value ≡ pos (unsigned_abs value)
count_of value (inl off) = rw off refl
count_of value (inr is) = rw is refl

-- a bit that is there, or none
pub bit_is : (net : Net) (bits : List ℤ) (c : Column) → AreBits net bits → IsOffOrOn (value_in net bits c)
bit_is net bits c are =
    elim (cases_lt (number_of net c) (length bits)) [
      | inl there ↦ are.off_or_on (number_of net c) (pos 0) there
      | inr past ↦ inl (get_or_past bits (number_of net c) (pos 0) past)
    ]

pub value_is : (net : Net) (bits : List ℤ) (c : Column) → AreBits net bits → value_in net bits c ≡ pos (on net bits c)
value_is net bits c are = count_of (value_in net bits c) (bit_is net bits c are)

-- ---- letters that may come

-- any letter may, where none is asked for
all_come : (signal : Signal) (letters : List Letter) → filter (may_come signal None) letters ≡ letters
all_come signal [] = refl
all_come signal (letter ∷ letters) = ap (λ (rest : List Letter). letter ∷ rest) (all_come signal letters)

pub one_letter_sum : (net : Net) (bits : List ℤ) (signal : Signal) (s t shown : ℕ) → AreBits net bits → shown ≡ sum_by (λ letter. on net bits (Bit t s letter)) (filter (may_come signal None) (letters_of signal)) →
    sum_at (value_in net bits) (one_letter_row signal s t).sum ≡ pos shown
one_letter_sum net bits signal s t shown are is =
    sum_at-total (value_in net bits) (Bit t s) (λ letter. on net bits (Bit t s letter)) (λ letter. value_is net bits (Bit t s letter) are) (letters_of signal)
    ∙ ap (λ (letters : List Letter). pos (sum_by (λ letter. on net bits (Bit t s letter)) letters)) (sym (all_come signal (letters_of signal)))
    ∙ ap pos (sym is)

pub follow_sum : (net : Net) (bits : List ℤ) (signal : Signal) (s t followers own : ℕ) (letter : Letter) → AreBits net bits →
    followers ≡ sum_by (λ other. on net bits (Bit (t + 1) s other)) (filter (may_come signal (Some letter)) (letters_of signal)) → own ≡ on net bits (Bit t s letter) →
    sum_at (value_in net bits) (follow_row signal s t letter).sum ≡ pos followers -ℤ pos own
follow_sum net bits signal s t followers own letter are is is_own =
    let value : Column → ℤ = value_in net bits in
    let passing : List Letter = filter (may_follow signal letter) (letters_of signal) in
    let next : sum_at value (total (map (Bit (t + 1) s) passing)) ≡ pos (sum_by (λ other. on net bits (Bit (t + 1) s other)) passing) =
    sum_at-total value (Bit (t + 1) s) (λ other. on net bits (Bit (t + 1) s other)) (λ other. value_is net bits (Bit (t + 1) s other) are) passing in
    let same : filter (may_come signal (Some letter)) (letters_of signal) ≡ passing = filter_agree (may_come signal (Some letter)) (may_follow signal letter) (λ other. refl) (letters_of signal) in
    let count : sum_by (λ other. on net bits (Bit (t + 1) s other)) passing ≡ followers = ap (sum_by (λ other. on net bits (Bit (t + 1) s other))) (sym same) ∙ sym is in
    let mine : sum_at value (column (Bit t s letter)) ≡ pos own = sum_at-column value (Bit t s letter) ∙ value_is net bits (Bit t s letter) are ∙ ap pos (sym is_own) in
    sum_at-minus value (total (map (Bit (t + 1) s) passing)) (column (Bit t s letter)) ∙ rw (next ∙ ap pos count, mine) refl

-- ---- letters that last

-- the bit in the step before
before_sum : (net : Net) (bits : List ℤ) (s t : ℕ) (letter : Letter) → AreBits net bits →
    sum_at (value_in net bits) (letter_before s t letter) ≡ pos (if nat_lt 0 t then on net bits (Bit (t - 1) s letter) else 0)
before_sum net bits s zero letter are = sum_at-number (value_in net bits) 0
before_sum net bits s (suc t) letter are =
    let step : suc t - 1 ≡ t = omega arith in
    rw (lt-ltb 0 (suc t) (omega arith), step) (sum_at-column (value_in net bits) (Bit t s letter) ∙ value_is net bits (Bit t s letter) are)

pub stay_sum : (net : Net) (bits : List ℤ) (s t k later now earlier : ℕ) (letter : Letter) → AreBits net bits → later ≡ on net bits (Bit (t + k) s letter) → now ≡ on net bits (Bit t s letter) →
    earlier ≡ (if nat_lt 0 t then on net bits (Bit (t - 1) s letter) else 0) → sum_at (value_in net bits) (stay_row s t letter k).sum ≡ pos later -ℤ pos now +ℤ pos earlier
stay_sum net bits s t k later now earlier letter are is_later is_now is_earlier =
    let value : Column → ℤ = value_in net bits in
    let after : sum_at value (column (Bit (t + k) s letter)) ≡ pos later = sum_at-column value (Bit (t + k) s letter) ∙ value_is net bits (Bit (t + k) s letter) are ∙ ap pos (sym is_later) in
    let here : sum_at value (column (Bit t s letter)) ≡ pos now = sum_at-column value (Bit t s letter) ∙ value_is net bits (Bit t s letter) are ∙ ap pos (sym is_now) in
    let before : sum_at value (letter_before s t letter) ≡ pos earlier = before_sum net bits s t letter are ∙ ap pos (sym is_earlier) in
    sum_at-plus value (minus (column (Bit (t + k) s letter)) (column (Bit t s letter))) (letter_before s t letter)
    ∙ rw (sum_at-minus value (column (Bit (t + k) s letter)) (column (Bit t s letter)), after, here, before) refl

pub end_sum : (net : Net) (bits : List ℤ) (s t most steps : ℕ) (letter : Letter) → AreBits net bits → steps ≡ sum_below (most + 1) (λ k. on net bits (Bit (t + k) s letter)) →
    sum_at (value_in net bits) (end_row s t letter most).sum ≡ neg_ℤ (pos steps)
end_sum net bits s t most steps letter are is =
    let value : Column → ℤ = value_in net bits in
    let columns : ℕ → Column = λ k. Bit (t + k) s letter in
    let window : sum_at value (total (table_of (most + 1) columns)) ≡ pos steps =
    sum_at-total_of_table value (most + 1) columns (λ k. on net bits (columns k)) (λ k within. value_is net bits (columns k) are) ∙ ap pos (sym is) in
    let turned = sum_at-times value (neg_ℤ (pos 1)) (total (table_of (most + 1) columns)) in
    omega (arith, ints, window, turned)

-- ---- letters phase by phase

-- the letters of one phase more
pub letters_more : (on_of : Letter → ℕ) (test : Letter → Bool) (p : ℕ) (letters : ℕ → List Letter) →
    sum_by on_of (filter test (join_below (p + 1) letters)) ≡ sum_by on_of (filter test (join_below p letters)) + sum_by on_of (filter test (letters p))
letters_more on_of test p letters =
    ap (λ (all : List Letter). sum_by on_of (filter test all)) (join_below-suc p letters)
    ∙ ap (sum_by on_of) (filter-append test (join_below p letters) (letters p))
    ∙ sum_by-append on_of (filter test (join_below p letters)) (filter test (letters p))

-- the letters of all phases
pub letters_all : (on_of : Letter → ℕ) (test : Letter → Bool) (signal : Signal) (n : ℕ) → n ≡ length signal.phases →
    sum_by on_of (filter test (join_below n (λ p. letters_by p (phase_of signal p).clear))) ≡ sum_by on_of (filter test (letters_of signal))
unfolding letters_of
letters_all on_of test signal n all = ap (λ m. sum_by on_of (filter test (join_below m (λ p. letters_by p (phase_of signal p).clear)))) all
