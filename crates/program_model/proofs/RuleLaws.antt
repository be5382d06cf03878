-- The bits of a word whose letters keep the rules meet the rule rows.
use Rattle.std.proofs.Common.{◌≡◌, ◌≢◌, inl, inr, ℕ, zero, suc, ◌+◌, ◌-◌, ◌<◌, ◌≤◌, true, List, [], ◌∷◌, length, map, filter, refl, ap, ◌∙◌, subst, sym, arith}
use Rattle.std.specs.Prelude.{if◌then◌else◌, nat_lt, ℤ, pos, neg_ℤ}
use Rattle.std.proofs.lemmas.Int.{ints}
use Rattle.std.proofs.lemmas.Bool.{cases_Bool, cases_eq, ltb-true}
use Rattle.listed.specs.Below.{sum_below, table_of}
use Rattle.listed.proofs.SumLaws.{sum_below-bound}
use Rattle.ct_base.specs.Access.{phase_of}
use Rattle.ct_base.specs.declared.plan.Letter.{Letter}
use Rattle.ct_base.specs.declared.plan.Letter.TheVariants.{Green, Clear}
use Rattle.ct_base.specs.declared.signal.Signal.{Signal}
use Rattle.program_model.specs.Columns.{Column, Bit, letters_of}
use Rattle.program_model.specs.Rows.{AllMeet, Meets, column, minus, sum_at, total}
use Rattle.program_model.specs.RuleRows.{clear_end_rows, end_row, end_rows, follow_row, follow_rows, letter_before, may_follow, one_letter_row, rule_rows_at, stay_row, stay_rows}
use Rattle.program_model.specs.Values.{is_letter, one_where}
use Rattle.program_model.proofs.LetterSums.{is_letter-apart, is_letter-itself, is_letter-same, one_is_shown, one_passes}
use Rattle.program_model.proofs.Segments.{Begins, least_steps, most_steps}
use Rattle.program_model.proofs.SumLaws.{AllMeet-append, AllMeet-join_below, sum_at-column, sum_at-minus, sum_at-number, sum_at-plus, sum_at-times, sum_at-total, sum_at-total_of_table}
use Rattle.program_model.proofs.WordSegments.{KeepsRules}

-- 1 where the letter is shown
abbrev pub bit : Letter → Letter → ℕ
bit letter shown = one_where (is_letter letter shown)

-- the bits of signal s count its letters
abbrev pub AreBits : (Column → ℤ) → ℕ → ℕ → (ℕ → Letter) → Type 0
AreBits value s steps shown = (t : ℕ) → t < steps → (letter : Letter) → value (Bit t s letter) ≡ pos (bit letter (shown t))

-- a bit is 0 or 1
bit-small : (letter shown : Letter) → bit letter shown ≤ 1
bit-small letter shown = elim (cases_Bool (is_letter letter shown)) [ inl is ↦ rw is (omega arith) | inr not ↦ rw not (omega arith) ]

bit-itself : (letter : Letter) → bit letter letter ≡ 1
bit-itself letter = rw (is_letter-itself letter)

bit-apart : (letter shown : Letter) → shown ≢ letter → bit letter shown ≡ 0
bit-apart letter shown apart = rw (is_letter-apart letter shown (λ same. apart (sym same)))

-- one letter at a step
one_letter : (signal : Signal) (value : Column → ℤ) (s steps : ℕ) (shown : ℕ → Letter) → AreBits value s steps shown → KeepsRules signal steps shown →
    (t : ℕ) → t < steps → Meets value (one_letter_row signal s t)
one_letter signal value s steps shown bits keeps t inside =
    sum_at-total value (Bit t s) (λ letter. bit letter (shown t)) (bits t inside) (letters_of signal) ∙ ap pos (one_is_shown signal (shown t) (keeps.of t inside))

-- where a letter is shown, one that may follow it is shown next
follows : (signal : Signal) (letter now next : Letter) → may_follow signal now next ≡ true → bit letter now ≤ one_where (may_follow signal letter next)
follows signal letter now next may =
    elim (cases_Bool (is_letter letter now)) [
      | inl is ↦
          let same : may_follow signal letter next ≡ true = ap (λ l. may_follow signal l next) (is_letter-same letter now is) ∙ may in
          rw (is, same) (omega arith)
      | inr not ↦ rw not (omega arith)
    ]

follow : (signal : Signal) (value : Column → ℤ) (s steps : ℕ) (shown : ℕ → Letter) → AreBits value s steps shown → KeepsRules signal steps shown →
    (t : ℕ) → t + 1 < steps → (letter : Letter) → Meets value (follow_row signal s t letter)
follow signal value s steps shown bits keeps t inside letter =
    let next : Letter = shown (t + 1) in
    let passing : sum_at value (total (map (Bit (t + 1) s) (filter (may_follow signal letter) (letters_of signal)))) ≡ pos (one_where (may_follow signal letter next)) =
    sum_at-total value (Bit (t + 1) s) (λ other. bit other next) (bits (t + 1) inside) (filter (may_follow signal letter) (letters_of signal))
    ∙ ap pos (one_passes signal (may_follow signal letter) next (keeps.of (t + 1) inside)) in
    let enough : bit letter (shown t) ≤ one_where (may_follow signal letter next) = follows signal letter (shown t) next (keeps.follow t inside) in
    rw (
      sum_at-minus value (total (map (Bit (t + 1) s) (filter (may_follow signal letter) (letters_of signal)))) (column (Bit t s letter)),
      sum_at-column value (Bit t s letter),
      passing,
      bits t (omega (arith, inside)) letter,
    ) (omega (arith, ints, enough))

follow_each : (signal : Signal) (value : Column → ℤ) (s steps : ℕ) (shown : ℕ → Letter) → AreBits value s steps shown → KeepsRules signal steps shown →
    (t : ℕ) → t + 1 < steps → (letters : List Letter) → AllMeet value (map (follow_row signal s t) letters)
follow_each signal value s steps shown bits keeps t inside [] = tt
follow_each signal value s steps shown bits keeps t inside (letter ∷ letters) =
    (follow signal value s steps shown bits keeps t inside letter, follow_each signal value s steps shown bits keeps t inside letters)

follow_all : (signal : Signal) (value : Column → ℤ) (s steps : ℕ) (shown : ℕ → Letter) → AreBits value s steps shown → KeepsRules signal steps shown →
    (t : ℕ) → AllMeet value (follow_rows signal steps s t)
follow_all signal value s steps shown bits keeps t =
    elim (cases_Bool (nat_lt (t + 1) steps)) [
      | inl inside ↦ rw inside (follow_each signal value s steps shown bits keeps t (ltb-true (t + 1) steps inside) (letters_of signal))
      | inr past ↦ rw past tt
    ]

-- a letter that begins stands on
stands : (letter now later : Letter) (before : ℕ) → (now ≡ letter → before ≡ 0 → later ≡ letter) → before ≤ 1 → bit letter now ≤ bit letter later + before
stands letter now later before still small =
    elim (cases_Bool (is_letter letter now)) [
      | inl is ↦
          let same : now ≡ letter = sym (is_letter-same letter now is) in
          elim (cases_eq before 0) [
            | inl none ↦ let on : bit letter later ≡ 1 = ap (bit letter) (still same none) ∙ bit-itself letter in omega (arith, on, bit-small letter now)
            | inr some ↦ omega (arith, some, small, bit-small letter now)
          ]
      | inr not ↦ rw not (omega arith)
    ]

-- what the bits count of a letter in the step before
abbrev count_before : (ℕ → Letter) → ℕ → Letter → ℕ
count_before shown zero letter = 0
count_before shown (suc t) letter = bit letter (shown t)

letter_before_is : (value : Column → ℤ) (s steps : ℕ) (shown : ℕ → Letter) → AreBits value s steps shown → (t : ℕ) → t < steps → (letter : Letter) →
    sum_at value (letter_before s t letter) ≡ pos (count_before shown t letter)
letter_before_is value s steps shown bits zero inside letter = sum_at-number value 0
letter_before_is value s steps shown bits (suc t) inside letter = sum_at-column value (Bit t s letter) ∙ bits t (omega (arith, inside)) letter

count_before-small : (shown : ℕ → Letter) (t : ℕ) (letter : Letter) → count_before shown t letter ≤ 1
count_before-small shown zero letter = omega arith
count_before-small shown (suc t) letter = bit-small letter (shown t)

-- where it was not shown before, it begins
begins_here : (shown : ℕ → Letter) (t : ℕ) (letter : Letter) → shown t ≡ letter → count_before shown t letter ≡ 0 → Begins shown t
begins_here shown zero letter now none = λ s e. absurd (omega (arith, e))
begins_here shown (suc t) letter now none = λ s e same.
    let place : s ≡ t = omega (arith, e) in
    let on : bit letter (shown t) ≡ 1 = ap (bit letter) (sym (ap shown place) ∙ same ∙ now) ∙ bit-itself letter in
    absurd (omega (arith, on, none))

-- the row of k steps on
stay : (signal : Signal) (value : Column → ℤ) (s steps : ℕ) (shown : ℕ → Letter) → AreBits value s steps shown → KeepsRules signal steps shown →
    (t k : ℕ) → t + k < steps → (letter : Letter) → k < least_steps signal letter → Meets value (stay_row s t letter k)
stay signal value s steps shown bits keeps t k inside letter few =
    let here : t < steps = omega (arith, inside) in
    let enough : bit letter (shown t) ≤ bit letter (shown (t + k)) + count_before shown t letter =
    stands letter (shown t) (shown (t + k)) (count_before shown t letter)
    (λ now none. keeps.stay t k inside (begins_here shown t letter now none) (rw now few) ∙ now) (count_before-small shown t letter) in
    rw (
      sum_at-plus value (minus (column (Bit (t + k) s letter)) (column (Bit t s letter))) (letter_before s t letter),
      sum_at-minus value (column (Bit (t + k) s letter)) (column (Bit t s letter)),
      sum_at-column value (Bit (t + k) s letter),
      sum_at-column value (Bit t s letter),
      letter_before_is value s steps shown bits t here letter,
      bits (t + k) inside letter,
      bits t here letter,
    ) (omega (arith, ints, enough))

-- the rows of a letter that stands for at least so many steps
stay_all : (signal : Signal) (value : Column → ℤ) (s steps : ℕ) (shown : ℕ → Letter) → AreBits value s steps shown → KeepsRules signal steps shown →
    (t : ℕ) (letter : Letter) (least : ℕ) → least_steps signal letter ≡ least → AllMeet value (stay_rows steps s t letter least)
stay_all signal value s steps shown bits keeps t letter least is =
    AllMeet-join_below value (least - 1) (λ j. if nat_lt (t + (j + 1)) steps then stay_row s t letter (j + 1) ∷ [] else [])
    (λ j few.
    elim (cases_Bool (nat_lt (t + (j + 1)) steps)) [
      | inl inside ↦ rw inside (stay signal value s steps shown bits keeps t (j + 1) (ltb-true (t + (j + 1)) steps inside) letter (omega (arith, few, is)), tt)
      | inr past ↦ rw past tt
    ])

-- of n bits, of which one is 0, fewer than n are 1
one_is_off : (n : ℕ) (f : ℕ → ℕ) (k : ℕ) → k < n → f k ≡ 0 → ((j : ℕ) → f j ≤ 1) → sum_below n f < n
unfolding sum_below
one_is_off zero f k within off small = absurd (omega (arith, within))
one_is_off (suc n) f k within off small =
    elim (cases_eq k n) [
      | inl last ↦
          let here : f n ≡ 0 = rw (← last) off in
          omega (arith, here, sum_below-bound n 1 f (λ j inside. small j))
      | inr earlier ↦ omega (arith, one_is_off n f k (omega (arith, within, earlier)) off small, small n)
    ]

-- a letter that is shown now gives way within its most steps and one more
ends_in_time : (signal : Signal) (steps : ℕ) (shown : ℕ → Letter) → KeepsRules signal steps shown → (t : ℕ) (letter : Letter) → t + most_steps signal letter < steps →
    (k : ℕ) × (k ≤ most_steps signal letter) × (bit letter (shown (t + k)) ≡ 0)
ends_in_time signal steps shown keeps t letter inside =
    elim (cases_Bool (is_letter letter (shown t))) [
      | inl is ↦
          let same : shown t ≡ letter = sym (is_letter-same letter (shown t) is) in
          let later : (k : ℕ) × (k ≤ most_steps signal (shown t)) × (shown (t + k) ≢ shown t) = keeps.ends t (rw same inside) in
          (later.0, subst (λ l. later.0 ≤ most_steps signal l) same later.1, bit-apart letter (shown (t + later.0)) (λ e. later.2 (e ∙ sym same)))
      | inr not ↦ (0, omega arith, let none : t + 0 ≡ t = omega arith in rw (none, not))
    ]

-- the row of a letter that stands for at most so many steps
ends : (signal : Signal) (value : Column → ℤ) (s steps : ℕ) (shown : ℕ → Letter) → AreBits value s steps shown → KeepsRules signal steps shown →
    (t : ℕ) (letter : Letter) (most : ℕ) → most_steps signal letter ≡ most → t + most < steps → Meets value (end_row s t letter most)
ends signal value s steps shown bits keeps t letter most is inside =
    let off : (k : ℕ) × (k ≤ most_steps signal letter) × (bit letter (shown (t + k)) ≡ 0) = ends_in_time signal steps shown keeps t letter (rw is inside) in
    let few : sum_below (most + 1) (λ k. bit letter (shown (t + k))) < most + 1 =
    one_is_off (most + 1) (λ k. bit letter (shown (t + k))) off.0 (omega (arith, off.1, is)) off.2 (λ j. bit-small letter (shown (t + j))) in
    rw (
      sum_at-times value (neg_ℤ (pos 1)) (total (table_of (most + 1) (λ k. Bit (t + k) s letter))),
      sum_at-total_of_table value (most + 1) (λ k. Bit (t + k) s letter) (λ k. bit letter (shown (t + k))) (λ k within. bits (t + k) (omega (arith, within, inside)) letter),
    )
    (omega (arith, ints, few))

ends_all : (signal : Signal) (value : Column → ℤ) (s steps : ℕ) (shown : ℕ → Letter) → AreBits value s steps shown → KeepsRules signal steps shown →
    (t : ℕ) (letter : Letter) (most : ℕ) → most_steps signal letter ≡ most → AllMeet value (end_rows steps s t letter most)
ends_all signal value s steps shown bits keeps t letter most is =
    elim (cases_Bool (nat_lt (t + most) steps)) [
      | inl inside ↦ rw inside (ends signal value s steps shown bits keeps t letter most is (ltb-true (t + most) steps inside), tt)
      | inr past ↦ rw past tt
    ]

clear_ends : (signal : Signal) (value : Column → ℤ) (s steps : ℕ) (shown : ℕ → Letter) → AreBits value s steps shown → KeepsRules signal steps shown →
    (t p clear : ℕ) → (phase_of signal p).clear ≡ clear → AllMeet value (clear_end_rows steps s t p clear)
clear_ends signal value s steps shown bits keeps t p zero is = tt
clear_ends signal value s steps shown bits keeps t p (suc clear) is = ends_all signal value s steps shown bits keeps t (Clear p) (suc clear) is

-- all rule rows of a step
pub rules_are_met : (signal : Signal) (value : Column → ℤ) (s steps : ℕ) (shown : ℕ → Letter) → AreBits value s steps shown → KeepsRules signal steps shown →
    (t : ℕ) → t < steps → AllMeet value (rule_rows_at signal steps s t)
unfolding rule_rows_at
rules_are_met signal value s steps shown bits keeps t inside =
    let phases : ℕ = length signal.phases in (
      one_letter signal value s steps shown bits keeps t inside,
      AllMeet-append value _ _ (AllMeet-append value _ _ (AllMeet-append value _ _ (AllMeet-append value _ _
          (follow_all signal value s steps shown bits keeps t)
          (AllMeet-join_below value phases _ (λ p within. stay_all signal value s steps shown bits keeps t (Green p) (phase_of signal p).min refl)))
          (AllMeet-join_below value phases _ (λ p within. ends_all signal value s steps shown bits keeps t (Green p) (phase_of signal p).max refl)))
          (AllMeet-join_below value phases _ (λ p within. stay_all signal value s steps shown bits keeps t (Clear p) (phase_of signal p).clear refl)))
          (AllMeet-join_below value phases _ (λ p within. clear_ends signal value s steps shown bits keeps t p (phase_of signal p).clear refl)),
    )
