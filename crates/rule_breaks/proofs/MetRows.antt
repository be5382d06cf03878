-- Where bits that count the letters of a word meet the rule rows of its signal, the letters keep the rules.
use Rattle.std.proofs.Common.{◌≡◌, ◌≢◌, inl, inr, ℕ, zero, suc, ◌+◌, ◌-◌, ◌<◌, ◌≤◌, Bool, true, false, List, [], ◌∷◌, ◌++◌, length, map, filter, refl, ap, ◌∙◌, sym, arith}
use Rattle.std.specs.Prelude.{if◌then◌else◌, nat_lt, ℤ, pos, neg_ℤ}
use Rattle.std.proofs.lemmas.Int.{ints}
use Rattle.std.proofs.lemmas.Bool.{cases_Bool, cases_eq, lt-ltb}
use Rattle.listed.specs.Below.{join_below, sum_below, table_of}
use Rattle.ct_base.specs.Access.{phase_of}
use Rattle.ct_base.specs.declared.plan.Letter.{Letter}
use Rattle.ct_base.specs.declared.plan.Letter.TheVariants.{Green, Clear}
use Rattle.ct_base.specs.declared.signal.Signal.{Signal}
use Rattle.program_model.specs.Columns.{Bit, Column, letters_by, letters_of}
use Rattle.program_model.specs.Existence.{IsLetterOf}
use Rattle.program_model.specs.Rows.{AllMeet, Meets, SumRow, column, minus, sum_at, total}
use Rattle.program_model.specs.RuleRows.{clear_end_rows, end_row, end_rows, follow_row, follow_rows, letter_before, may_follow, one_letter_row, rule_rows_at, stay_row, stay_rows}
use Rattle.program_model.specs.Values.{is_letter, one_where}
use Rattle.program_model.proofs.ColumnLaws.{Each}
use Rattle.program_model.proofs.LetterSums.{is_letter-itself, is_letter-same, one_passes}
use Rattle.program_model.proofs.RuleLaws.{AreBits, bit}
use Rattle.program_model.proofs.Segments.{Begins, least_steps, most_steps}
use Rattle.program_model.proofs.SumLaws.{AllMeet-parts, sum_at-column, sum_at-minus, sum_at-number, sum_at-plus, sum_at-times, sum_at-total, sum_at-total_of_table}
use Rattle.program_model.proofs.WordSegments.{KeepsRules}

-- ---- rows among others

-- the rows of a part of a join
pub meets_part : (value : Column → ℤ) (n k : ℕ) (rows : ℕ → List (SumRow Column)) → AllMeet value (join_below n rows) → k < n → AllMeet value (rows k)
unfolding join_below
meets_part value zero k rows all inside = absurd (omega (arith, inside))
meets_part value (suc n) k rows all inside =
    let parts : AllMeet value (join_below n rows) × AllMeet value (rows n) = AllMeet-parts value (join_below n rows) (rows n) all in
    elim (cases_eq k n) [
      | inl same ↦ rw same parts.1
      | inr other ↦ meets_part value n k rows parts.0 (omega (arith, inside, other))
    ]

-- what holds of each part of a join
pub each_part : {X : Type 0} (P : X → Type 0) (n k : ℕ) (parts : ℕ → List X) → Each P (join_below n parts) → k < n → Each P (parts k)
unfolding join_below
each_part P zero k parts each inside = absurd (omega (arith, inside))
each_part P (suc n) k parts each inside =
    let both : Each P (join_below n parts) × Each P (parts n) = apart P (join_below n parts) (parts n) each in
    elim (cases_eq k n) [
      | inl same ↦ rw same both.1
      | inr other ↦ each_part P n k parts both.0 (omega (arith, inside, other))
    ]
  where
    apart : {X : Type 0} (P : X → Type 0) (xs ys : List X) → Each P (xs ++ ys) → Each P xs × Each P ys
    apart P [] ys each = (tt, each)
    apart P (x ∷ xs) ys each = let rest : Each P xs × Each P ys = apart P xs ys each.1 in ((each.0, rest.0), rest.1)

-- what holds of each letter of a signal in their list
of_green : (P : Letter → Type 0) (p clear : ℕ) → Each P (letters_by p clear) → P (Green p)
of_green P p zero each = each.0
of_green P p (suc clear) each = each.0

of_clear : (P : Letter → Type 0) (p clear : ℕ) → 0 < clear → Each P (letters_by p clear) → P (Clear p)
of_clear P p zero some each = absurd (omega (arith, some))
of_clear P p (suc clear) some each = each.1.0

pub each_letter : (P : Letter → Type 0) (signal : Signal) (letter : Letter) → Each P (letters_of signal) → IsLetterOf signal letter → P letter
unfolding letters_of
each_letter P signal (Green p) each of = of_green P p (phase_of signal p).clear (each_part P (length signal.phases) p (λ q. letters_by q (phase_of signal q).clear) each of)
each_letter P signal (Clear p) each of = of_clear P p (phase_of signal p).clear of.1 (each_part P (length signal.phases) p (λ q. letters_by q (phase_of signal q).clear) each of.0)

-- a row for each letter
each_row : (value : Column → ℤ) (row : Letter → SumRow Column) (letters : List Letter) → AllMeet value (map row letters) → Each (λ (letter : Letter). Meets value (row letter)) letters
each_row value row [] all = tt
each_row value row (letter ∷ letters) all = (all.0, each_row value row letters all.1)

-- the rows of a step by their kinds
pub record MeetsKinds (value : Column → ℤ) (signal : Signal) (steps s t : ℕ) : Type 0 where
  pub one_letter : Meets value (one_letter_row signal s t)
  pub follow : AllMeet value (follow_rows signal steps s t)
  pub green_stays : AllMeet value (join_below (length signal.phases) (λ p. stay_rows steps s t (Green p) (phase_of signal p).min))
  pub green_ends : AllMeet value (join_below (length signal.phases) (λ p. end_rows steps s t (Green p) (phase_of signal p).max))
  pub clear_stays : AllMeet value (join_below (length signal.phases) (λ p. stay_rows steps s t (Clear p) (phase_of signal p).clear))
  pub clear_ends : AllMeet value (join_below (length signal.phases) (λ p. clear_end_rows steps s t p (phase_of signal p).clear))

pub kinds_met : (value : Column → ℤ) (signal : Signal) (steps s t : ℕ) → AllMeet value (rule_rows_at signal steps s t) → MeetsKinds value signal steps s t
unfolding rule_rows_at
kinds_met value signal steps s t all =
    let n : ℕ = length signal.phases in
    let f : List (SumRow Column) = follow_rows signal steps s t in
    let g : List (SumRow Column) = join_below n (λ p. stay_rows steps s t (Green p) (phase_of signal p).min) in
    let h : List (SumRow Column) = join_below n (λ p. end_rows steps s t (Green p) (phase_of signal p).max) in
    let i : List (SumRow Column) = join_below n (λ p. stay_rows steps s t (Clear p) (phase_of signal p).clear) in
    let j : List (SumRow Column) = join_below n (λ p. clear_end_rows steps s t p (phase_of signal p).clear) in
    let four : AllMeet value (f ++ g ++ h ++ i) × AllMeet value j = AllMeet-parts value (f ++ g ++ h ++ i) j all.1 in
    let three : AllMeet value (f ++ g ++ h) × AllMeet value i = AllMeet-parts value (f ++ g ++ h) i four.0 in
    let two : AllMeet value (f ++ g) × AllMeet value h = AllMeet-parts value (f ++ g) h three.0 in
    let one : AllMeet value f × AllMeet value g = AllMeet-parts value f g two.0 in
    record { one_letter = all.0; follow = one.0; green_stays = one.1; green_ends = two.1; clear_stays = three.1; clear_ends = four.1 }

-- ---- bits of letters

bit-small : (letter shown : Letter) → bit letter shown ≤ 1
bit-small letter shown = elim (cases_Bool (is_letter letter shown)) [ inl is ↦ rw is (omega arith) | inr not ↦ rw not (omega arith) ]

pub bit-itself : (letter : Letter) → bit letter letter ≡ 1
bit-itself letter = rw (is_letter-itself letter)

-- a bit that is not 0 is that of the letter that is shown
bit-some : (letter shown : Letter) → 1 ≤ bit letter shown → shown ≡ letter
bit-some letter shown some =
    elim (cases_Bool (is_letter letter shown)) [
      | inl is ↦ sym (is_letter-same letter shown is)
      | inr not ↦ let none : bit letter shown ≡ 0 = rw not refl in absurd (omega (arith, none, some))
    ]

bit-none : (letter shown : Letter) → shown ≢ letter → bit letter shown ≡ 0
bit-none letter shown apart =
    elim (cases_Bool (is_letter letter shown)) [
      | inl is ↦ absurd (apart (sym (is_letter-same letter shown is)))
      | inr not ↦ rw not refl
    ]

pub holds_where : (test : Bool) → 1 ≤ one_where test → test ≡ true
holds_where true some = refl
holds_where false some = absurd (omega (arith, some))

-- ---- each rule

-- bits that count the letters of steps, each of which is a letter of the signal, and that meet the rows of each step
pub record MeetsAll (value : Column → ℤ) (signal : Signal) (s steps : ℕ) (shown : ℕ → Letter) : Type 0 where
  pub bits : AreBits value s steps shown
  pub of : (t : ℕ) → t < steps → IsLetterOf signal (shown t)
  pub rows : (t : ℕ) → t < steps → AllMeet value (rule_rows_at signal steps s t)

-- what may follow
letters_follow : (value : Column → ℤ) (signal : Signal) (s steps : ℕ) (shown : ℕ → Letter) → MeetsAll value signal s steps shown → (t : ℕ) → t + 1 < steps → may_follow signal (shown t) (shown (t + 1)) ≡ true
letters_follow value signal s steps shown met t inside =
    let now : Letter = shown t in
    let next : Letter = shown (t + 1) in
    let here : t < steps = omega (arith, inside) in
    let rows : AllMeet value (map (follow_row signal s t) (letters_of signal)) = rw (lt-ltb (t + 1) steps inside) at (kinds_met value signal steps s t (met.rows t here)).follow in
    let row : Meets value (follow_row signal s t now) = each_letter (λ (letter : Letter). Meets value (follow_row signal s t letter)) signal now (each_row value (follow_row signal s t) (letters_of signal) rows) (met.of t here) in
    let passing : sum_at value (total (map (Bit (t + 1) s) (filter (may_follow signal now) (letters_of signal)))) ≡ pos (one_where (may_follow signal now next)) =
    sum_at-total value (Bit (t + 1) s) (λ other. bit other next) (met.bits (t + 1) inside) (filter (may_follow signal now) (letters_of signal))
    ∙ ap pos (one_passes signal (may_follow signal now) next (met.of (t + 1) inside)) in
    let own : sum_at value (column (Bit t s now)) ≡ pos 1 = sum_at-column value (Bit t s now) ∙ met.bits t here now ∙ ap pos (bit-itself now) in
    let both = sum_at-minus value (total (map (Bit (t + 1) s) (filter (may_follow signal now) (letters_of signal)))) (column (Bit t s now)) in
    holds_where (may_follow signal now next) (omega (arith, ints, row, both, passing, own))

-- what the bits count of a letter in the step before one where it begins
none_before : (value : Column → ℤ) (s steps t : ℕ) (shown : ℕ → Letter) → AreBits value s steps shown → t < steps → Begins shown t → sum_at value (letter_before s t (shown t)) ≡ pos 0
none_before value s steps zero shown bits inside begins = sum_at-number value 0
none_before value s steps (suc t) shown bits inside begins =
    sum_at-column value (Bit t s (shown (suc t))) ∙ bits t (omega (arith, inside)) (shown (suc t)) ∙ ap pos (bit-none (shown (suc t)) (shown t) (begins t refl))

-- the row of a letter that stays
stays_by_row : (value : Column → ℤ) (s steps t k : ℕ) (shown : ℕ → Letter) → AreBits value s steps shown → t + k < steps → Begins shown t → Meets value (stay_row s t (shown t) k) → shown (t + k) ≡ shown t
stays_by_row value s steps t k shown bits inside begins row =
    let letter : Letter = shown t in
    let here : t < steps = omega (arith, inside) in
    let later : sum_at value (column (Bit (t + k) s letter)) ≡ pos (bit letter (shown (t + k))) = sum_at-column value (Bit (t + k) s letter) ∙ bits (t + k) inside letter in
    let now : sum_at value (column (Bit t s letter)) ≡ pos 1 = sum_at-column value (Bit t s letter) ∙ bits t here letter ∙ ap pos (bit-itself letter) in
    let before : sum_at value (letter_before s t letter) ≡ pos 0 = none_before value s steps t shown bits here begins in
    let two = sum_at-minus value (column (Bit (t + k) s letter)) (column (Bit t s letter)) in
    let three = sum_at-plus value (minus (column (Bit (t + k) s letter)) (column (Bit t s letter))) (letter_before s t letter) in
    bit-some letter (shown (t + k)) (omega (arith, ints, row, three, two, later, now, before))

-- the row among those of the letter
stay_row_met : (value : Column → ℤ) (s steps t k least : ℕ) (letter : Letter) → 1 ≤ k → k < least → t + k < steps → AllMeet value (stay_rows steps s t letter least) → Meets value (stay_row s t letter k)
stay_row_met value s steps t k least letter some few inside rows =
    let rows_of : ℕ → List (SumRow Column) = λ j. if nat_lt (t + (j + 1)) steps then stay_row s t letter (j + 1) ∷ [] else [] in
    let number : k - 1 + 1 ≡ k = omega (arith, some) in
    let part : AllMeet value (rows_of (k - 1)) = meets_part value (least - 1) (k - 1) rows_of rows (omega (arith, few, some)) in
    let same : AllMeet value (if nat_lt (t + k) steps then stay_row s t letter k ∷ [] else []) = rw number at part in
    let found : AllMeet value (stay_row s t letter k ∷ []) = rw (lt-ltb (t + k) steps inside) at same in
    found.0

letter_stays : (value : Column → ℤ) (signal : Signal) (s steps t k : ℕ) (letter : Letter) → IsLetterOf signal letter → MeetsKinds value signal steps s t → 1 ≤ k → k < least_steps signal letter → t + k < steps →
    Meets value (stay_row s t letter k)
letter_stays value signal s steps t k (Green p) of met some few inside =
    stay_row_met value s steps t k (phase_of signal p).min (Green p) some few inside (meets_part value (length signal.phases) p (λ q. stay_rows steps s t (Green q) (phase_of signal q).min) met.green_stays of)
letter_stays value signal s steps t k (Clear p) of met some few inside =
    stay_row_met value s steps t k (phase_of signal p).clear (Clear p) some few inside (meets_part value (length signal.phases) p (λ q. stay_rows steps s t (Clear q) (phase_of signal q).clear) met.clear_stays of.0)

letters_stay : (value : Column → ℤ) (signal : Signal) (s steps : ℕ) (shown : ℕ → Letter) → MeetsAll value signal s steps shown → (t k : ℕ) → t + k < steps → Begins shown t → k < least_steps signal (shown t) →
    shown (t + k) ≡ shown t
letters_stay value signal s steps shown met t k inside begins few =
    let here : t < steps = omega (arith, inside) in
    elim (cases_eq k 0) [
      | inl none ↦ let same : t + k ≡ t = omega (arith, none) in ap shown same
      | inr some ↦
          stays_by_row value s steps t k shown met.bits inside begins
          (letter_stays value signal s steps t k (shown t) (met.of t here) (kinds_met value signal steps s t (met.rows t here)) (omega (arith, some)) few inside)
    ]

-- of n numbers with a sum below n one is 0
one_is_none : (n : ℕ) (f : ℕ → ℕ) → sum_below n f < n → (k : ℕ) × (k < n) × (f k ≡ 0)
unfolding sum_below
one_is_none zero f few = absurd (omega (arith, few))
one_is_none (suc n) f few =
    elim (cases_eq (f n) 0) [
      | inl none ↦ (n, omega arith, none)
      | inr some ↦ let before : (k : ℕ) × (k < n) × (f k ≡ 0) = one_is_none n f (omega (arith, few, some)) in (before.0, omega (arith, before.1), before.2)
    ]

-- the row of a letter that ends
ends_by_row : (value : Column → ℤ) (s steps t most : ℕ) (letter : Letter) (shown : ℕ → Letter) → AreBits value s steps shown → t + most < steps → Meets value (end_row s t letter most) →
    (k : ℕ) × (k ≤ most) × (shown (t + k) ≢ letter)
ends_by_row value s steps t most letter shown bits inside row =
    let count : ℕ → ℕ = λ k. bit letter (shown (t + k)) in
    let sum : sum_at value (total (table_of (most + 1) (λ k. Bit (t + k) s letter))) ≡ pos (sum_below (most + 1) count) =
    sum_at-total_of_table value (most + 1) (λ k. Bit (t + k) s letter) count (λ k within. bits (t + k) (omega (arith, within, inside)) letter) in
    let turned = sum_at-times value (neg_ℤ (pos 1)) (total (table_of (most + 1) (λ k. Bit (t + k) s letter))) in
    let few : sum_below (most + 1) count < most + 1 = omega (arith, ints, row, turned, sum) in
    let off : (k : ℕ) × (k < most + 1) × (count k ≡ 0) = one_is_none (most + 1) count few in
    (off.0, omega (arith, off.1), λ same. let on : bit letter (shown (t + off.0)) ≡ 1 = ap (bit letter) same ∙ bit-itself letter in omega (arith, on, off.2))

-- the row among those of the letter
end_row_met : (value : Column → ℤ) (s steps t most : ℕ) (letter : Letter) → t + most < steps → AllMeet value (end_rows steps s t letter most) → Meets value (end_row s t letter most)
end_row_met value s steps t most letter inside rows = let found : AllMeet value (end_row s t letter most ∷ []) = rw (lt-ltb (t + most) steps inside) at rows in found.0

clear_end_rows_are : (steps s t p clear : ℕ) → 0 < clear → clear_end_rows steps s t p clear ≡ end_rows steps s t (Clear p) clear
clear_end_rows_are steps s t p zero some = absurd (omega (arith, some))
clear_end_rows_are steps s t p (suc clear) some = refl

letter_ends : (value : Column → ℤ) (signal : Signal) (s steps t : ℕ) (letter : Letter) → IsLetterOf signal letter → MeetsKinds value signal steps s t → t + most_steps signal letter < steps →
    Meets value (end_row s t letter (most_steps signal letter))
letter_ends value signal s steps t (Green p) of met inside =
    end_row_met value s steps t (phase_of signal p).max (Green p) inside (meets_part value (length signal.phases) p (λ q. end_rows steps s t (Green q) (phase_of signal q).max) met.green_ends of)
letter_ends value signal s steps t (Clear p) of met inside =
    let rows : AllMeet value (clear_end_rows steps s t p (phase_of signal p).clear) = meets_part value (length signal.phases) p (λ q. clear_end_rows steps s t q (phase_of signal q).clear) met.clear_ends of.0 in
    end_row_met value s steps t (phase_of signal p).clear (Clear p) inside (rw (clear_end_rows_are steps s t p (phase_of signal p).clear of.1) at rows)

-- all of them
pub met_keeps : (value : Column → ℤ) (signal : Signal) (s steps : ℕ) (shown : ℕ → Letter) → MeetsAll value signal s steps shown → KeepsRules signal steps shown
met_keeps value signal s steps shown met =
    record {
      of = met.of;
      follow = letters_follow value signal s steps shown met;
      stay = letters_stay value signal s steps shown met;
      ends = λ t inside.
          let here : t < steps = omega (arith, inside) in
          ends_by_row value s steps t (most_steps signal (shown t)) (shown t) shown met.bits inside
          (letter_ends value signal s steps t (shown t) (met.of t here) (kinds_met value signal steps s t (met.rows t here)) inside);
    }
