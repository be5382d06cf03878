-- Lines and their bytes: what a line's bytes say, and lines of good form are written and read back.
use Rattle.std.proofs.Common.{◌≡◌, ℕ, true, false, List, [], ◌∷◌, ◌++◌, length, map, Option, None, Some, refl, sym, ap, subst, ◌∙◌, arith}
use Rattle.std.specs.Prelude.{not, ◌&&◌, ◌==◌, nat_lt, codes}
use Rattle.std.specs.Fmt.{decimal}
use Rattle.std.specs.List.{list_all}
use Rattle.std.specs.Str.{bytes_eq}
use Rattle.std.specs.Str.Parse.{digits_value}
use Rattle.std.proofs.lemmas.Bool.{and_parts, and_right, cond_both, cond-false, cond-true, false_from_ne_true, ltb-true, true≢false}
use Rattle.std.proofs.lemmas.Fmt.{digits_decimal}
use Rattle.std.proofs.lemmas.List.{append_assoc}
use Rattle.std.proofs.lemmas.List.Elements.{All-append, All-cons}
use Rattle.std.proofs.lemmas.List.Splits.{length-slice_split}
use Rattle.std.proofs.lemmas.Slice.Eq.{bytes_eq-Decides}
use Rattle.texts.specs.Lines.{IsFirstLine, IsFirstWord, IsNoLine, IsOneWord, Lacks, behind_lines, line_of_words, lines_of, text_of_lines, words_of}
use Rattle.texts.specs.Names.{is_name, is_name_character}
use Rattle.texts.specs.Numbers.{IsNaturalText, is_digit, is_natural, natural_in}
use Rattle.texts.proofs.LineLaws.{first_line, line_of_words-read, no_line, one_word, text_of_lines-read, words_of-written}
use Rattle.texts.proofs.NameLaws.{digits_are_no_name, name_characters, stands_not}
use Rattle.texts.proofs.NumberLaws.{natural_decimal, natural_digits, natural_spells, numerals}
use Rattle.texts.proofs.WholeLaws.{decimal_lacks}
use Rattle.plan_file.specs.Lines.{Line, Head, OfSignal, OfRun, End, Other, Nothing, Cut, ending, line_by, line_of, lines_in, run_line, two_words}
use Rattle.plan_file.proofs.Written.{bytes_of, full_of, is_good, text_of}

-- ---- equal bytes

same_bytes : (xs ys : List ℕ) → bytes_eq xs ys ≡ true → xs ≡ ys
same_bytes xs ys is = (bytes_eq-Decides xs ys).0 is

equal_bytes : (xs ys : List ℕ) → xs ≡ ys → bytes_eq xs ys ≡ true
equal_bytes xs ys is = (bytes_eq-Decides xs ys).1 is

-- ---- from bytes to lines

-- a text that begins with a line
pub lines_in-first : (text line behind : List ℕ) → IsFirstLine text line behind → lines_in text ≡ line_of line ∷ lines_in behind
unfolding lines_in
lines_in-first text line behind first =
    ap (λ lines. map line_of lines ++ ending (behind_lines text) ∷ []) first.lines
    ∙ ap (λ last. line_of line ∷ (map line_of (lines_of behind) ++ ending last ∷ [])) first.last

-- a text without a line is what stands behind the last
pub lines_in-none : (text : List ℕ) → IsNoLine text → lines_in text ≡ ending text ∷ []
unfolding lines_in
lines_in-none text none =
    ap (λ lines. map line_of lines ++ ending (behind_lines text) ∷ []) none.lines
    ∙ ap (λ last. ending last ∷ []) none.last

-- bytes that do not stand in a name, or in a number
name_without : (byte : ℕ) (name : List ℕ) → is_name_character byte ≡ false → is_name name ≡ true → Lacks byte name
name_without byte name refused is = stands_not is_name_character byte name refused (name_characters name is)

number_without : (byte green : ℕ) → is_digit byte ≡ false → nat_lt green 10000 ≡ true → Lacks byte (decimal green)
number_without byte green refused small = decimal_lacks byte green refused (let lt = ltb-true green 10000 small in omega arith)

-- no text
pub no_lines : lines_in [] ≡ Nothing ∷ []
no_lines = lines_in-none [] (no_line [] (λ k d within. absurd (omega arith)))

-- a line of two words
words_of_two : (first second : List ℕ) → Lacks 32 first → Lacks 32 second → words_of (first ++ 32 ∷ second) ≡ first ∷ second ∷ []
words_of_two first second none no_more =
    words_of-written (first ∷ second ∷ []) (omega arith)
    (All-cons (Lacks 32) first (second ∷ []) none (All-cons (Lacks 32) second [] no_more (λ k d within. absurd (omega arith))))

-- a word with a space in it is no name and no number
spaced_is_no_name : (word second : List ℕ) (more : List (List ℕ)) (line : List ℕ) → words_of line ≡ word ∷ second ∷ more → is_name line ≡ false
spaced_is_no_name word second more line words =
    false_from_ne_true (is_name line) (λ named.
    let one : IsOneWord line = one_word line (name_without 32 line refl named) in
    let both : line ∷ [] ≡ word ∷ second ∷ more = sym one.words ∙ words in
    absurd (cc))

spaced_is_no_number : (word second : List ℕ) (more : List (List ℕ)) (line : List ℕ) → words_of line ≡ word ∷ second ∷ more → is_natural 4 line ≡ false
spaced_is_no_number word second more line words =
    false_from_ne_true (is_natural 4 line) (λ is.
    let one : IsOneWord line = one_word line (stands_not is_digit 32 line refl (natural_digits 4 line is)) in
    let both : line ∷ [] ≡ word ∷ second ∷ more = sym one.words ∙ words in
    absurd (cc))

-- two words, or more of which none says anything
two_or_more : (first second : List ℕ) (words : List (List ℕ)) → words_of second ≡ words → two_words first second ≡ line_by (first ∷ words)
two_or_more first second [] is = absurd (let some = length-slice_split (λ byte. byte == 32) second in let none = ap length is in omega arith)
two_or_more first second (word ∷ []) is =
    let same : word ≡ second = ap line_of_words (sym is) ∙ line_of_words-read second in
    ap (two_words first) (sym same)
two_or_more first second (word ∷ next ∷ more) is =
    let no_name : is_name second ≡ false = spaced_is_no_name word next more second is in
    let no_number : is_natural 4 second ≡ false = spaced_is_no_number word next more second is in
    cond-false (bytes_eq first (codes "signal") && is_name second) (OfSignal second) (run_line first (natural_in 4 second)) (and_right (bytes_eq first (codes "signal")) (is_name second) no_name)
    ∙ ap (run_line first) (cond-false (is_natural 4 second) (Some (digits_value 10 second)) None no_number)

-- what a line of two words or more says, by the first and what stands behind it
pub line_of_cut : (line first second : List ℕ) → bytes_eq line (codes "ctm-plan 1") ≡ false → IsFirstWord line first second → two_words first second ≡ line_of line
line_of_cut line first second other is =
    two_or_more first second (words_of second) refl
    ∙ sym (cond-false (bytes_eq line (codes "ctm-plan 1")) Head (line_by (words_of line)) other ∙ ap line_by is.words)

-- what a line of one word says
pub line_of_word : (line : List ℕ) → bytes_eq line (codes "ctm-plan 1") ≡ false → bytes_eq line (codes "end") ≡ false → IsOneWord line → Other ≡ line_of line
line_of_word line other no_end is =
    sym (cond-false (bytes_eq line (codes "ctm-plan 1")) Head (line_by (words_of line)) other
    ∙ ap line_by is.words ∙ cond-false (bytes_eq line (codes "end")) End Other no_end)

-- what a line's bytes are, by what it says
abbrev pub Fits : List ℕ → Line → Type 0
Fits bytes Head = bytes ≡ bytes_of Head
Fits bytes (OfSignal name) = bytes ≡ bytes_of (OfSignal name)
Fits bytes (OfRun phase green) = bytes ≡ bytes_of (OfRun phase green)
Fits bytes End = bytes ≡ bytes_of End
Fits bytes Other = Unit {0}
Fits bytes Nothing = ⊥
Fits bytes Cut = ⊥

run_fits : (bytes first second : List ℕ) (green : Option ℕ) → natural_in 4 second ≡ green → first ++ 32 ∷ second ≡ bytes → Fits bytes (run_line first green)
run_fits bytes first second None is joined = tt
run_fits bytes first second (Some green) is joined =
    cond_both (is_name first) (OfRun first green) Other (Fits bytes)
    (λ named. let spells : IsNaturalText 4 second green = natural_spells 4 second green (omega arith) is in sym joined ∙ ap (λ number. first ++ 32 ∷ number) spells.written)
    (λ other. tt)

two_fit : (bytes first second : List ℕ) → first ++ 32 ∷ second ≡ bytes → Fits bytes (two_words first second)
two_fit bytes first second joined =
    cond_both (bytes_eq first (codes "signal") && is_name second) (OfSignal second) (run_line first (natural_in 4 second)) (Fits bytes)
    (λ both. let parts = and_parts (bytes_eq first (codes "signal")) (is_name second) both in sym joined ∙ ap (λ word. word ++ 32 ∷ second) (same_bytes first (codes "signal") parts.0))
    (λ other. run_fits bytes first second (natural_in 4 second) refl joined)

words_fit : (bytes : List ℕ) (words : List (List ℕ)) → line_of_words words ≡ bytes → Fits bytes (line_by words)
words_fit bytes [] joined = tt
words_fit bytes (word ∷ []) joined =
    cond_both (bytes_eq word (codes "end")) End Other (Fits bytes) (λ is. sym joined ∙ same_bytes word (codes "end") is) (λ other. tt)
words_fit bytes (first ∷ second ∷ []) joined = two_fit bytes first second joined
words_fit bytes (first ∷ second ∷ third ∷ more) joined = tt

-- a line's bytes are those of what it says
pub line_fits : (bytes : List ℕ) → Fits bytes (line_of bytes)
line_fits bytes =
    cond_both (bytes_eq bytes (codes "ctm-plan 1")) Head (line_by (words_of bytes)) (Fits bytes)
    (λ is. same_bytes bytes (codes "ctm-plan 1") is)
    (λ other. words_fit bytes (words_of bytes) (line_of_words-read bytes))

-- a line of good form has the bytes of what it says
good_bytes : (bytes : List ℕ) (line : Line) → Fits bytes line → is_good line ≡ true → bytes ≡ bytes_of line
good_bytes bytes Head fits good = fits
good_bytes bytes (OfSignal name) fits good = fits
good_bytes bytes (OfRun phase green) fits good = fits
good_bytes bytes End fits good = fits
good_bytes bytes Other fits good = absurd (cc)
good_bytes bytes Nothing fits good = absurd (cc)
good_bytes bytes Cut fits good = absurd (cc)

-- lines of good form before the end of a text are all of the text
text_by_lines : (lines : List (List ℕ)) (last : List ℕ) (said : List Line) → map line_of lines ++ ending last ∷ [] ≡ said ++ Nothing ∷ [] → list_all is_good said ≡ true → text_of_lines lines ++ last ≡ text_of said
text_by_lines [] [] [] is good = refl
text_by_lines [] (byte ∷ bytes) [] is good = absurd (cc)
text_by_lines [] last (line ∷ []) is good = absurd (cc)
text_by_lines [] last (line ∷ next ∷ said) is good = absurd (cc)
text_by_lines (first ∷ []) last [] is good = absurd (cc)
text_by_lines (first ∷ next ∷ lines) last [] is good = absurd (cc)
text_by_lines (first ∷ lines) last (line ∷ said) is good =
    let parts = and_parts (is_good line) (list_all is_good said) good in
    let says : line_of first ≡ line = cc in
    let others : map line_of lines ++ ending last ∷ [] ≡ said ++ Nothing ∷ [] = cc in
    let bytes : first ≡ bytes_of line = good_bytes first line (subst (Fits first) says (line_fits first)) parts.0 in
    append_assoc (first ++ 10 ∷ []) (text_of_lines lines) last
    ∙ ap (λ bytes. (bytes ++ 10 ∷ []) ++ (text_of_lines lines ++ last)) bytes
    ∙ ap (λ rest. full_of line ++ rest) (text_by_lines lines last said others parts.1)

pub text_is : (text : List ℕ) (said : List Line) → lines_in text ≡ said ++ Nothing ∷ [] → list_all is_good said ≡ true → text ≡ text_of said
unfolding lines_in
text_is text said is good = sym (text_of_lines-read text) ∙ text_by_lines (lines_of text) (behind_lines text) said is good

-- ---- and back

-- a line of good form has no line feed among its bytes
good_feeds_not : (line : Line) → is_good line ≡ true → Lacks 10 (bytes_of line)
good_feeds_not Head good = stands_not (λ x. not (x == 10)) 10 (codes "ctm-plan 1") refl refl
good_feeds_not (OfSignal name) good =
    All-append (λ x. (x == 10) ≡ false) (codes "signal") (32 ∷ name) (stands_not (λ x. not (x == 10)) 10 (codes "signal") refl refl)
    (All-cons (λ x. (x == 10) ≡ false) 32 name refl (name_without 10 name refl good))
good_feeds_not (OfRun phase green) good =
    let parts = and_parts (is_name phase) (nat_lt green 10000) good in
    All-append (λ x. (x == 10) ≡ false) phase (32 ∷ decimal green) (name_without 10 phase refl parts.0)
    (All-cons (λ x. (x == 10) ≡ false) 32 (decimal green) refl (number_without 10 green refl parts.1))
good_feeds_not End good = stands_not (λ x. not (x == 10)) 10 (codes "end") refl refl
good_feeds_not Other good = absurd (cc)
good_feeds_not Nothing good = absurd (cc)
good_feeds_not Cut good = absurd (cc)

-- a run is read from its bytes, which are not those of the first line
run_is_read : (phase : List ℕ) (green : ℕ) → is_name phase ≡ true → nat_lt green 10000 ≡ true → line_of (bytes_of (OfRun phase green)) ≡ OfRun phase green
run_is_read phase green named small =
    let words : words_of (phase ++ 32 ∷ decimal green) ≡ phase ∷ decimal green ∷ [] = words_of_two phase (decimal green) (name_without 32 phase refl named) (number_without 32 green refl small) in
    let other : bytes_eq (phase ++ 32 ∷ decimal green) (codes "ctm-plan 1") ≡ false =
    false_from_ne_true (bytes_eq (phase ++ 32 ∷ decimal green) (codes "ctm-plan 1")) (λ same.
    let e : phase ∷ decimal green ∷ [] ≡ codes "ctm-plan" ∷ codes "1" ∷ [] = sym words ∙ ap words_of (same_bytes (phase ++ 32 ∷ decimal green) (codes "ctm-plan 1") same) in
    let is : phase ≡ codes "ctm-plan" = cc in
    true≢false (sym named ∙ ap is_name is)) in
    let no_name : is_name (decimal green) ≡ false = digits_are_no_name (decimal green) (digits_decimal numerals green (let lt = ltb-true green 10000 small in omega arith)) in
    let number : natural_in 4 (decimal green) ≡ Some green = natural_decimal 4 green (omega arith) (omega arith) (ltb-true green 10000 small) in
    cond-false (bytes_eq (phase ++ 32 ∷ decimal green) (codes "ctm-plan 1")) Head (line_by (words_of (phase ++ 32 ∷ decimal green))) other
    ∙ ap line_by words
    ∙ cond-false (bytes_eq phase (codes "signal") && is_name (decimal green)) (OfSignal (decimal green)) (run_line phase (natural_in 4 (decimal green))) (and_right (bytes_eq phase (codes "signal")) (is_name (decimal green)) no_name)
    ∙ ap (run_line phase) number
    ∙ cond-true (is_name phase) (OfRun phase green) Other named

-- and is read back from them
good_is_read : (line : Line) → is_good line ≡ true → line_of (bytes_of line) ≡ line
good_is_read Head good = refl
good_is_read (OfSignal name) good =
    let words = words_of_two (codes "signal") name (stands_not (λ x. not (x == 32)) 32 (codes "signal") refl refl) (name_without 32 name refl good) in
    ap line_by words ∙ cond-true (bytes_eq (codes "signal") (codes "signal") && is_name name) (OfSignal name) (run_line (codes "signal") (natural_in 4 name)) good
good_is_read (OfRun phase green) good =
    let parts = and_parts (is_name phase) (nat_lt green 10000) good in
    run_is_read phase green parts.0 parts.1
good_is_read End good = refl
good_is_read Other good = absurd (cc)
good_is_read Nothing good = absurd (cc)
good_is_read Cut good = absurd (cc)

-- lines of good form are read back from their text
pub read_back : (lines : List Line) (rest : List ℕ) → list_all is_good lines ≡ true → lines_in (text_of lines ++ rest) ≡ lines ++ lines_in rest
read_back [] rest good = refl
read_back (line ∷ lines) rest good =
    let parts = and_parts (is_good line) (list_all is_good lines) good in
    ap lines_in (append_assoc (full_of line) (text_of lines) rest ∙ append_assoc (bytes_of line) (10 ∷ []) (text_of lines ++ rest))
    ∙ lines_in-first (bytes_of line ++ 10 ∷ (text_of lines ++ rest)) (bytes_of line) (text_of lines ++ rest) (first_line (bytes_of line ++ 10 ∷ (text_of lines ++ rest)) (bytes_of line) (text_of lines ++ rest) (record { joined = refl; first = good_feeds_not line parts.0 }))
    ∙ ap (λ first. first ∷ lines_in (text_of lines ++ rest)) (good_is_read line parts.0)
    ∙ ap (λ lines. line ∷ lines) (read_back lines rest parts.1)
