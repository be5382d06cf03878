-- Laws of the bits of a signal: that there are few of them, and that they are columns.
use Rattle.std.proofs.Common.{◌≡◌, inl, inr, ℕ, ◌+◌, ◌*◌, ◌<◌, ◌≤◌, ◌^◌, List, [], ◌∷◌, ◌++◌, length, map, get_or, refl, ap, ◌∙◌, sym, arith}
use Rattle.std.specs.Prelude.{ℤ, pos, neg_ℤ, Bool, filter}
use Rattle.std.proofs.lemmas.Bool.{cases_Bool}
use Rattle.std.proofs.lemmas.List.{length-append, length-map, map-append}
use Rattle.program_model.specs.RuleRows.{follow_row, may_follow}
use Rattle.lo_program.proofs.Inserting.{weight_both}
use Rattle.listed.proofs.SumLaws.{sum_below-suc}
use Rattle.ct_base.specs.Access.{phase_of, signal_of}
use Rattle.ct_base.specs.Validity.{IsValid}
use Rattle.ct_base.specs.declared.net.Net.{Net}
use Rattle.ct_base.specs.declared.plan.Letter.{Letter}
use Rattle.ct_base.specs.declared.signal.Signal.{Signal}
use Rattle.program_model.specs.Columns.{Bit, Column, letters_by, letters_of}
use Rattle.program_model.specs.Existence.{IsLetterOf}
use Rattle.program_model.specs.Numbers.{bits_before, bits_of_step, letters_before, number_of, place_of_letter}
use Rattle.program_model.specs.Rows.{once}
use Rattle.program_model.specs.Sparse.{by_number}
use Rattle.program_model.proofs.ColumnLaws.{Each-at, letters_are}
use Rattle.sparse_program.specs.Terms.{weight}
use Rattle.program_model.proofs.PlanBits.{signal_is}
use Rattle.lo_program.specs.inner.Bits.{AreBits, bit_terms}
use Rattle.lo_program.specs.declared.rules.bits.Bits.{Bits}
use Rattle.program_layout.proofs.CountLaws.{few_letters, few_letters_before, small_bits}
use Rattle.program_layout.proofs.LayoutLaws.{from_table}

-- the letters of a signal before phase p, as the code keeps them
pub green_kept : (net : Net) (bits : Bits) (greens : List ℕ) (p : ℕ) → AreBits net bits → greens ≡ bits.greens → p < length (signal_of net.signals bits.signal).phases →
    (p < length greens) × (get_or greens p 0 ≡ letters_before (signal_of net.signals bits.signal) p)
green_kept net bits greens p are same inside =
    from_table greens (length (signal_of net.signals bits.signal).phases) (letters_before (signal_of net.signals bits.signal)) p 0 (same ∙ are.greens) inside

-- the first bit of a signal at a step is a small number, and so is that of a phase
pub small_bit : (net : Net) (bits : Bits) (t p : ℕ) → IsValid net → AreBits net bits → t < net.steps → p < length (signal_of net.signals bits.signal).phases →
    (t * bits.of_step + bits.first < 2 ^ 17) × (t * bits.of_step + bits.first + letters_before (signal_of net.signals bits.signal) p + 1 < 2 ^ 18)
small_bit net bits t p valid are before inside =
    let first : t * bits_of_step net.signals + bits_before net.signals bits.signal < 2 ^ 17 = small_bits net t bits.signal valid before are.inside in
    let letters : letters_before (signal_of net.signals bits.signal) p ≤ p * 2 = few_letters_before (signal_of net.signals bits.signal) p in
    let phases : length (signal_of net.signals bits.signal).phases ≤ 8 = (signal_is net bits.signal valid are.inside).phases.1 in
    rw (are.of_step, are.first) (omega (arith, first), omega (arith, first, letters, phases, inside))

-- the first bit of a signal at a step is a small number
pub small_step : (net : Net) (bits : Bits) (t : ℕ) → IsValid net → AreBits net bits → t < net.steps → t * bits.of_step + bits.first < 2 ^ 17
small_step net bits t valid are before = rw (are.of_step, are.first) (small_bits net t bits.signal valid before are.inside)

-- the number of a bit by its parts
pub bit_number : (net : Net) (bits : Bits) (t : ℕ) (letter : Letter) → AreBits net bits →
    t * bits.of_step + bits.first + place_of_letter (signal_of net.signals bits.signal) letter ≡ number_of net (Bit t bits.signal letter)
bit_number net bits t letter are = rw (are.of_step, are.first) refl

-- as many letters before the next phase
pub letters_before_more : (signal : Signal) (p : ℕ) → letters_before signal (p + 1) ≡ letters_before signal p + length (letters_by p (phase_of signal p).clear)
letters_before_more signal p = sum_below-suc p (λ q. length (letters_by q (phase_of signal q).clear))

-- a letter among those of a signal is one of its letters
pub is_letter_at : (signal : Signal) (k : ℕ) (d : Letter) → k < length (letters_of signal) → IsLetterOf signal (get_or (letters_of signal) k d)
is_letter_at signal k d inside = Each-at (IsLetterOf signal) (letters_of signal) k d (letters_are signal) inside

-- the same of the letters that the code keeps
pub letter_kept : (net : Net) (bits : Bits) (letters : List Letter) (k : ℕ) (d : Letter) → AreBits net bits → letters ≡ bits.letters → k < length letters →
    IsLetterOf (signal_of net.signals bits.signal) (get_or letters k d)
letter_kept net bits letters k d are same inside =
    let is : letters ≡ letters_of (signal_of net.signals bits.signal) = same ∙ are.letters in
    rw is (is_letter_at (signal_of net.signals bits.signal) k d (rw (← is) inside))

-- the terms of bits that are all there, so many times
pub bit_terms_are : (net : Net) (t s : ℕ) (letters : List Letter) → by_number (number_of net) (map once (map (Bit t s) letters)) ≡ bit_terms net t s (pos 1) letters
bit_terms_are net t s [] = refl
bit_terms_are net t s (letter ∷ letters) = ap (λ (terms : List (ℕ × ℤ)). (number_of net (Bit t s letter), pos 1) ∷ terms) (bit_terms_are net t s letters)

-- they weigh as much as there are
pub weight_bit_terms : (net : Net) (t s : ℕ) (letters : List Letter) → weight (bit_terms net t s (pos 1) letters) ≡ length letters
weight_bit_terms net t s [] = refl
weight_bit_terms net t s (letter ∷ letters) = omega (arith, weight_bit_terms net t s letters)

-- and as many as there are letters
pub length_bit_terms : (net : Net) (t s : ℕ) (letters : List Letter) → length (bit_terms net t s (pos 1) letters) ≡ length letters
length_bit_terms net t s letters = length-map letters (λ (letter : Letter). (number_of net (Bit t s letter), pos 1))

-- a signal has few letters
pub few_letters_kept : (net : Net) (bits : Bits) → IsValid net → AreBits net bits → length (letters_of (signal_of net.signals bits.signal)) ≤ 16
few_letters_kept net bits valid are = few_letters (signal_of net.signals bits.signal) (signal_is net bits.signal valid are.inside).phases.1

-- ---- what may follow a letter

-- no more pass a test than there are
pub fewer_filtered : {X : Type 0} (test : X → Bool) (xs : List X) → length (filter test xs) ≤ length xs
fewer_filtered test [] = omega arith
fewer_filtered test (x ∷ xs) = elim (cases_Bool (test x)) [ inl passes ↦ rw passes (omega (arith, fewer_filtered test xs)) | inr fails ↦ rw fails (omega (arith, fewer_filtered test xs)) ]

-- the letters that may follow a letter
abbrev pub followers : Net → ℕ → Letter → List Letter
followers net s letter = filter (may_follow (signal_of net.signals s) letter) (letters_of (signal_of net.signals s))

by_number-both : (net : Net) (xs ys : List (Column × ℤ)) → by_number (number_of net) (xs ++ ys) ≡ by_number (number_of net) xs ++ by_number (number_of net) ys
by_number-both net xs ys = map-append (λ (term : Column × ℤ). (number_of net term.0, term.1)) xs ys

-- the terms of the row of a letter: those of its followers, and its own
pub follow_terms_are : (net : Net) (bits : Bits) (t : ℕ) (letter : Letter) (first all : List (ℕ × ℤ)) → first ≡ bit_terms net (t + 1) bits.signal (pos 1) (followers net bits.signal letter) →
    all ≡ first ++ (number_of net (Bit t bits.signal letter), neg_ℤ (pos 1)) ∷ [] → by_number (number_of net) (follow_row (signal_of net.signals bits.signal) bits.signal t letter).sum.terms ≡ all
follow_terms_are net bits t letter first all is pushed =
    let own : List (Column × ℤ) = (Bit t bits.signal letter, neg_ℤ (pos 1)) ∷ [] in
    by_number-both net (map once (map (Bit (t + 1) bits.signal) (followers net bits.signal letter))) own
    ∙ ap (λ (terms : List (ℕ × ℤ)). terms ++ (number_of net (Bit t bits.signal letter), neg_ℤ (pos 1)) ∷ []) (bit_terms_are net (t + 1) bits.signal (followers net bits.signal letter) ∙ sym is)
    ∙ sym pushed

-- they are few and light
pub few_followers : (net : Net) (bits : Bits) (t : ℕ) (letter : Letter) (first all : List (ℕ × ℤ)) → IsValid net → AreBits net bits → first ≡ bit_terms net (t + 1) bits.signal (pos 1) (followers net bits.signal letter) →
    all ≡ first ++ (number_of net (Bit t bits.signal letter), neg_ℤ (pos 1)) ∷ [] → (weight all ≤ 17) × (length all ≤ 17)
few_followers net bits t letter first all valid are is pushed =
    let own : List (ℕ × ℤ) = (number_of net (Bit t bits.signal letter), neg_ℤ (pos 1)) ∷ [] in
    let some : List Letter = followers net bits.signal letter in
    let fewer : length some ≤ length (letters_of (signal_of net.signals bits.signal)) = fewer_filtered (may_follow (signal_of net.signals bits.signal) letter) (letters_of (signal_of net.signals bits.signal)) in
    rw (pushed, is) (
      omega (arith, weight_both (bit_terms net (t + 1) bits.signal (pos 1) some) own, weight_bit_terms net (t + 1) bits.signal some, fewer, few_letters_kept net bits valid are),
      omega (arith, length-append (bit_terms net (t + 1) bits.signal (pos 1) some) own, length_bit_terms net (t + 1) bits.signal some, fewer, few_letters_kept net bits valid are),
    )
