-- The words that bits show: at each step one letter of each signal is shown where its row of letters is met.
use Rattle.std.proofs.Common.{◌≡◌, ◌⊎◌, inl, inr, ℕ, zero, suc, ◌<◌, true, List, [], ◌∷◌, ◌++◌, length, map, get_or, refl, ap, ◌∙◌, sym, subst, arith}
use Rattle.std.specs.Prelude.{ℤ, pos, ◌+ℤ◌, ◌≤ℤ◌}
use Rattle.std.proofs.lemmas.Int.{ints}
use Rattle.std.proofs.lemmas.Bool.{cases_Bool, cases_eq}
use Rattle.std.proofs.lemmas.List.{get_or_append_left, length-append}
use Rattle.std.proofs.Math.Seq.{get_or-append_seam}
use Rattle.ct_base.specs.Access.{signal_of}
use Rattle.ct_base.specs.declared.net.Net.{Net}
use Rattle.ct_base.specs.declared.plan.Letter.{Letter}
use Rattle.ct_base.specs.declared.signal.Signal.{Signal}
use Rattle.program_model.specs.Columns.{Bit, Column, letters_of}
use Rattle.program_model.specs.Existence.{IsLetterOf}
use Rattle.program_model.specs.Rows.{AllMeet, Meets, sum_at, total}
use Rattle.program_model.specs.RuleRows.{one_letter_row, rule_rows_at}
use Rattle.program_model.specs.Values.{is_letter}
use Rattle.program_model.proofs.ColumnLaws.{Each, letters_are}
use Rattle.program_model.proofs.LetterSums.{is_letter-itself, is_letter-same}
use Rattle.program_model.proofs.RuleLaws.{bit}
use Rattle.program_model.proofs.Segments.{letter_in}
use Rattle.rule_breaks.specs.Bits.{AreOffOrOn}
use Rattle.rule_breaks.proofs.MetRows.{each_letter, kinds_met}

-- ---- one letter is shown

-- a value is 0 or 1
abbrev pub OffOrOn : ℤ → Type 0
OffOrOn value = (value ≡ pos 0) ⊎ (value ≡ pos 1)

-- the values of some letters together
abbrev sum_of : (Letter → ℤ) → List Letter → ℤ
sum_of value [] = pos 0
sum_of value (letter ∷ letters) = value letter +ℤ sum_of value letters

sum_at-letters : (value : Column → ℤ) (t s : ℕ) (letters : List Letter) → sum_at value (total (map (Bit t s) letters)) ≡ sum_of (λ letter. value (Bit t s letter)) letters
sum_at-letters value t s [] = refl
sum_at-letters value t s (letter ∷ letters) =
    let rest : sum_at value (total (map (Bit t s) letters)) ≡ sum_of (λ other. value (Bit t s other)) letters = sum_at-letters value t s letters in
    omega (arith, ints, rest)

sum_of-low : (value : Letter → ℤ) (letters : List Letter) → Each (λ letter. OffOrOn (value letter)) letters → pos 0 ≤ℤ sum_of value letters
sum_of-low value [] each = omega (arith, ints)
sum_of-low value (letter ∷ letters) each =
    let rest : pos 0 ≤ℤ sum_of value letters = sum_of-low value letters each.1 in
    elim each.0 [ inl off ↦ omega (arith, ints, rest, off) | inr on ↦ omega (arith, ints, rest, on) ]

-- a letter that is on, where each other is off
record OneIsOn (P : Letter → Type 0) (value : Letter → ℤ) (letters : List Letter) : Type 0 where
  letter : Letter
  of : P letter
  on : value letter ≡ pos 1
  others : Each (λ other. (other ≡ letter) ⊎ (value other ≡ pos 0)) letters

-- values of letters that are all off
all_off : (value : Letter → ℤ) (one : Letter) (letters : List Letter) → Each (λ letter. OffOrOn (value letter)) letters → sum_of value letters ≡ pos 0 →
    Each (λ other. (other ≡ one) ⊎ (value other ≡ pos 0)) letters
all_off value one [] each sum = tt
all_off value one (letter ∷ letters) each sum =
    let rest : pos 0 ≤ℤ sum_of value letters = sum_of-low value letters each.1 in
    elim each.0 [
      | inl off ↦ (inr off, all_off value one letters each.1 (omega (arith, ints, sum, off)))
      | inr on ↦ absurd (omega (arith, ints, sum, on, rest))
    ]

one_is_on : (P : Letter → Type 0) (value : Letter → ℤ) (letters : List Letter) → Each P letters → Each (λ letter. OffOrOn (value letter)) letters → sum_of value letters ≡ pos 1 → OneIsOn P value letters
one_is_on P value [] of each sum = absurd (omega (arith, ints, sum))
one_is_on P value (letter ∷ letters) of each sum =
    elim each.0 [
      | inr on ↦ record { letter = letter; of = of.0; on = on; others = (inl refl, all_off value letter letters each.1 (omega (arith, ints, sum, on))) }
      | inl off ↦
          let found : OneIsOn P value letters = one_is_on P value letters of.1 each.1 (omega (arith, ints, sum, off)) in
          record { letter = found.letter; of = found.of; on = found.on; others = (inr off, found.others) }
    ]

-- its bits are those of the letter
bit_is : (value : Letter → ℤ) (one other : Letter) → value one ≡ pos 1 → (other ≡ one) ⊎ (value other ≡ pos 0) → value other ≡ pos (bit other one)
bit_is value one other on among =
    elim (cases_Bool (is_letter other one)) [
      | inl is ↦ ap value (is_letter-same other one is) ∙ on ∙ (rw is refl)
      | inr not ↦ elim among [
        | inl same ↦ let itself : is_letter other one ≡ true = ap (λ l. is_letter l one) same ∙ is_letter-itself one in absurd (let e = not in cc)
        | inr off ↦ off ∙ (rw not refl)
      ]
    ]

-- what a signal shows at a step: a letter of its own, whose bits the values are
pub record Shows (value : Column → ℤ) (signal : Signal) (s t : ℕ) (shown : Letter) : Type 0 where
  pub of : IsLetterOf signal shown
  pub bits : (letter : Letter) → IsLetterOf signal letter → value (Bit t s letter) ≡ pos (bit letter shown)

-- each letter of the list, where each of the signal
each_of : (P : Letter → Type 0) (signal : Signal) (letters : List Letter) → ((letter : Letter) → IsLetterOf signal letter → P letter) → Each (IsLetterOf signal) letters → Each P letters
each_of P signal [] holds are = tt
each_of P signal (letter ∷ letters) holds are = (holds letter are.0, each_of P signal letters holds are.1)

shown_letter : (value : Column → ℤ) (signal : Signal) (s t : ℕ) → ((letter : Letter) → IsLetterOf signal letter → OffOrOn (value (Bit t s letter))) → Meets value (one_letter_row signal s t) →
    (letter : Letter) × Shows value signal s t letter
shown_letter value signal s t small row =
    let at : Letter → ℤ = λ letter. value (Bit t s letter) in
    let found : OneIsOn (IsLetterOf signal) at (letters_of signal) =
    one_is_on (IsLetterOf signal) at (letters_of signal) (letters_are signal) (each_of (λ letter. OffOrOn (at letter)) signal (letters_of signal) small (letters_are signal))
    (sym (sum_at-letters value t s (letters_of signal)) ∙ row) in (
      found.letter,
      record {
        of = found.of;
        bits = λ letter of. bit_is at found.letter letter found.on
            (each_letter (λ other. (other ≡ found.letter) ⊎ (at other ≡ pos 0)) signal letter found.others of);
      },
    )

-- ---- a word

-- a word of so many letters, which the signal shows step by step
pub record ShownWord (value : Column → ℤ) (signal : Signal) (s steps : ℕ) (word : List Letter) : Type 0 where
  pub long : length word ≡ steps
  pub shows : (t : ℕ) → t < steps → Shows value signal s t (letter_in word t)

shown_word : (value : Column → ℤ) (signal : Signal) (s steps : ℕ) → ((t : ℕ) → t < steps → (letter : Letter) × Shows value signal s t letter) → (word : List Letter) × ShownWord value signal s steps word
shown_word value signal s zero shown = ([], record { long = refl; shows = λ t inside. absurd (omega (arith, inside)) })
shown_word value signal s (suc n) shown =
    let before : (word : List Letter) × ShownWord value signal s n word = shown_word value signal s n (λ t inside. shown t (omega (arith, inside))) in
    let last : (letter : Letter) × Shows value signal s n letter = shown n (omega arith) in
    let word : List Letter = before.0 in
    let long : length word ≡ n = before.1.long in (
      word ++ last.0 ∷ [],
      record {
        long = omega (arith, length-append word (last.0 ∷ []), long);
        shows = λ t inside. elim (cases_eq t n) [
          | inl same ↦
              let at : letter_in (word ++ last.0 ∷ []) t ≡ last.0 = ap (letter_in (word ++ last.0 ∷ [])) (same ∙ sym long) ∙ get_or-append_seam word last.0 [] _ in
              rw at (subst (λ (k : ℕ). Shows value signal s k last.0) (sym same) last.1)
          | inr other ↦
              let earlier : t < n = omega (arith, inside, other) in
              let at : letter_in (word ++ last.0 ∷ []) t ≡ letter_in word t = get_or_append_left word (last.0 ∷ []) _ t (omega (arith, earlier, long)) in
              rw at (before.1.shows t earlier)
        ];
      },
    )

-- the word of a signal whose rows are met
pub word_of_rows : (net : Net) (steps : ℕ) (value : Column → ℤ) (s : ℕ) → AreOffOrOn net steps value → s < length net.signals →
    ((t : ℕ) → t < steps → AllMeet value (rule_rows_at (signal_of net.signals s) steps s t)) → (word : List Letter) × ShownWord value (signal_of net.signals s) s steps word
word_of_rows net steps value s small inside rows =
    shown_word value (signal_of net.signals s) s steps
    (λ t before. shown_letter value (signal_of net.signals s) s t (λ letter of. small t s letter before inside of) (kinds_met value (signal_of net.signals s) steps s t (rows t before)).one_letter)

-- words, one for each of so many signals
pub record ShownWords (net : Net) (steps : ℕ) (value : Column → ℤ) (count : ℕ) (words : List (List Letter)) : Type 0 where
  pub one_per_signal : length words ≡ count
  pub each : (s : ℕ) → s < count → ShownWord value (signal_of net.signals s) s steps (get_or words s [])

pub shown_words : (net : Net) (steps : ℕ) (value : Column → ℤ) (count : ℕ) → ((s : ℕ) → s < count → (word : List Letter) × ShownWord value (signal_of net.signals s) s steps word) →
    (words : List (List Letter)) × ShownWords net steps value count words
shown_words net steps value zero shown = ([], record { one_per_signal = refl; each = λ s inside. absurd (omega (arith, inside)) })
shown_words net steps value (suc n) shown =
    let before : (words : List (List Letter)) × ShownWords net steps value n words = shown_words net steps value n (λ s inside. shown s (omega (arith, inside))) in
    let last : (word : List Letter) × ShownWord value (signal_of net.signals n) n steps word = shown n (omega arith) in
    let words : List (List Letter) = before.0 in
    let long : length words ≡ n = before.1.one_per_signal in (
      words ++ last.0 ∷ [],
      record {
        one_per_signal = omega (arith, length-append words (last.0 ∷ []), long);
        each = λ s inside. elim (cases_eq s n) [
          | inl same ↦
              let at : get_or (words ++ last.0 ∷ []) s [] ≡ last.0 = ap (λ (k : ℕ). get_or (words ++ last.0 ∷ []) k []) (same ∙ sym long) ∙ get_or-append_seam words last.0 [] [] in
              rw at (subst (λ (k : ℕ). ShownWord value (signal_of net.signals k) k steps last.0) (sym same) last.1)
          | inr other ↦
              let earlier : s < n = omega (arith, inside, other) in
              let at : get_or (words ++ last.0 ∷ []) s [] ≡ get_or words s [] = get_or_append_left words (last.0 ∷ []) [] s (omega (arith, earlier, long)) in
              rw at (before.1.each s earlier)
        ];
      },
    )
