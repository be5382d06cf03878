-- Laws of the words that show some bits.
use Rattle.std.proofs.Common.{◌≡◌, ℕ, ◌+◌, ◌<◌, List, [], ◌∷◌, ◌++◌, length, map, get_or, sym, ap, ◌∙◌, arith, ext_get_or}
use Rattle.std.specs.Prelude.{ℤ}
use Rattle.std.proofs.lemmas.List.{get_or-map, length-map, map-append}
use Rattle.listed.specs.Below.{table_of}
use Rattle.listed.proofs.TableLaws.{fill_elements, get_or-table_of, length-table_of, table_of-suc}
use Rattle.ct_base.specs.Access.{signal_of}
use Rattle.ct_base.specs.Validity.{IsValid}
use Rattle.ct_base.specs.declared.net.Net.{Net}
use Rattle.ct_base.specs.declared.plan.Letter.{Letter}
use Rattle.ct_base.specs.declared.plan.Letter.TheVariants.{Clear}
use Rattle.ct_base.specs.declared.signal.Signal.{Signal}
use Rattle.program_model.specs.Columns.{letters_of}
use Rattle.program_model.proofs.PlanBits.{signal_is}
use Rattle.program_model.proofs.Segments.{letter_in}
use Rattle.program_model.proofs.WordSegments.{KeepsRules, admissible_keeps}
use Rattle.plan_bits.specs.inner.Parts.{IsAmong, IsWordOfBits, Shows, bits_where, part_of_signal}
use Rattle.plan_bits.proofs.LetterLaws.{letter_is_among, same_letter}

-- a word that shows bits has a letter for each step
pub word_is_long : (net : Net) (bits : List ℤ) (s : ℕ) (word : List Letter) → Shows net bits s word → length word ≡ net.steps
word_is_long net bits s word shows =
    sym (length-map word (bits_where (letters_of (signal_of net.signals s)))) ∙ ap length shows ∙ length-table_of net.steps (part_of_signal net bits s)

-- its letter of a step shows the bits of that step
pub letter_shows : (net : Net) (bits : List ℤ) (s : ℕ) (word : List Letter) (t : ℕ) → Shows net bits s word → t < net.steps →
    part_of_signal net bits s t ≡ bits_where (letters_of (signal_of net.signals s)) (letter_in word t)
letter_shows net bits s word t shows before =
    let f : Letter → List ℤ = bits_where (letters_of (signal_of net.signals s)) in
    sym (get_or-table_of net.steps (part_of_signal net bits s) t [] before)
    ∙ ap (λ (list : List (List ℤ)). get_or list t []) (sym shows)
    ∙ get_or-map f word t (Clear 0) [] (omega (arith, before, word_is_long net bits s word shows))

-- a word with a letter for each step shows bits where its letters do
pub shows_where : (net : Net) (bits : List ℤ) (s : ℕ) (word : List Letter) → length word ≡ net.steps →
    ((t : ℕ) → t < net.steps → part_of_signal net bits s t ≡ bits_where (letters_of (signal_of net.signals s)) (letter_in word t)) → Shows net bits s word
shows_where net bits s word long each =
    let f : Letter → List ℤ = bits_where (letters_of (signal_of net.signals s)) in
    fill_elements (map f word) net.steps (part_of_signal net bits s) [] (length-map word f ∙ long)
    (λ t before. get_or-map f word t (Clear 0) [] (omega (arith, before, long)) ∙ sym (each t before))

-- one letter more shows one step more
pub one_letter_more : (f : Letter → List ℤ) (part : ℕ → List ℤ) (step : ℕ) (word new : List Letter) (letter : Letter) → map f word ≡ table_of step part → part step ≡ f letter → new ≡ word ++ letter ∷ [] →
    map f new ≡ table_of (step + 1) part
one_letter_more f part step word new letter before here pushed =
    ap (map f) pushed ∙ map-append f word (letter ∷ []) ∙ ap (λ list. list ++ f letter ∷ []) before ∙ ap (λ (last : List ℤ). table_of step part ++ last ∷ []) (sym here) ∙ sym (table_of-suc step part)

-- the letters of a word that a signal may show are among those of the signal
pub letter_among : (net : Net) (bits : List ℤ) (s : ℕ) (word : List Letter) (t : ℕ) → IsValid net → s < length net.signals → IsWordOfBits net bits s word → t < net.steps →
    IsAmong (letters_of (signal_of net.signals s)) (letter_in word t)
letter_among net bits s word t valid inside is before =
    let signal : Signal = signal_of net.signals s in
    let keeps : KeepsRules signal (length word) (letter_in word) = admissible_keeps signal word (signal_is net s valid inside) is.admissible in
    letter_is_among signal (letter_in word t) (keeps.of t (omega (arith, before, word_is_long net bits s word is.shows)))

-- one word alone shows the bits
pub one_word_shows : (net : Net) (bits : List ℤ) (s : ℕ) (word other : List Letter) → IsValid net → s < length net.signals → IsWordOfBits net bits s word → Shows net bits s other → word ≡ other
one_word_shows net bits s word other valid inside is shows =
    let long : length word ≡ net.steps = word_is_long net bits s word is.shows in
    ext_get_or (Clear 0) word other (long ∙ sym (word_is_long net bits s other shows))
    (λ t within.
    let before : t < net.steps = omega (arith, within, long) in
    same_letter (letters_of (signal_of net.signals s)) (letter_in word t) (letter_in other t) (letter_among net bits s word t valid inside is before)
    (sym (letter_shows net bits s word t is.shows before) ∙ letter_shows net bits s other t shows before))
