-- Laws of lines and words: what stands off the front of a text, and that joining and cutting are each other's inverse.
use Rattle.std.proofs.Common.{◌≡◌, ℕ, ◌<◌, Bool, true, false, List, [], ◌∷◌, ◌++◌, length, refl, sym, ap, ◌∙◌, arith}
use Rattle.std.specs.Prelude.{◌==◌, All, cond}
use Rattle.std.specs.List.{join_with_byte, onto_first, slice_split}
use Rattle.std.proofs.lemmas.List.{append_assoc, append-nil, length-append}
use Rattle.std.proofs.lemmas.List.Concat.{flat_map-append}
use Rattle.std.proofs.lemmas.List.Elements.{All-append, All-cons, All-head, All-tail}
use Rattle.std.proofs.lemmas.List.Splits.{join_with_byte-slice_split, length-slice_split, slice_split_at, slice_split_none}
use Rattle.texts.specs.Lines.{IsCut, IsFirstLine, IsFirstWord, IsNoLine, IsOneWord, Lacks, behind_lines, between_feeds, last_of, line_of_words, lines_of, text_of_lines, without_last, words_of}

-- there is at least one part
pub some_part : (text : List ℕ) → 0 < length (between_feeds text)
some_part text = omega (arith, length-slice_split (λ byte. byte == 10) text)

-- a part before others
without_last-cons : (part : List ℕ) (parts : List (List ℕ)) → 0 < length parts → without_last (part ∷ parts) ≡ part ∷ without_last parts
without_last-cons part [] some = absurd (omega arith)
without_last-cons part (next ∷ more) some = refl

last_of-cons : (part : List ℕ) (parts : List (List ℕ)) → 0 < length parts → last_of (part ∷ parts) ≡ last_of parts
last_of-cons part [] some = absurd (omega arith)
last_of-cons part (next ∷ more) some = refl

-- ---- one line off the front

parts_of-feed : (line rest : List ℕ) → Lacks 10 line → between_feeds (line ++ 10 ∷ rest) ≡ line ∷ between_feeds rest
parts_of-feed line rest lacks = slice_split_at (λ byte. byte == 10) line 10 rest lacks refl

pub lines_of-feed : (line rest : List ℕ) → Lacks 10 line → lines_of (line ++ 10 ∷ rest) ≡ line ∷ lines_of rest
unfolding lines_of
lines_of-feed line rest lacks = ap without_last (parts_of-feed line rest lacks) ∙ without_last-cons line (between_feeds rest) (some_part rest)

pub behind_lines-feed : (line rest : List ℕ) → Lacks 10 line → behind_lines (line ++ 10 ∷ rest) ≡ behind_lines rest
unfolding behind_lines
behind_lines-feed line rest lacks = ap last_of (parts_of-feed line rest lacks) ∙ last_of-cons line (between_feeds rest) (some_part rest)

-- a text without a line feed
pub lines_of-none : (text : List ℕ) → Lacks 10 text → lines_of text ≡ []
unfolding lines_of
lines_of-none text lacks = ap without_last (slice_split_none (λ byte. byte == 10) text lacks)

pub behind_lines-none : (text : List ℕ) → Lacks 10 text → behind_lines text ≡ text
unfolding behind_lines
behind_lines-none text lacks = ap last_of (slice_split_none (λ byte. byte == 10) text lacks)

-- what stands behind is shorter
pub cut_is_shorter : (byte : ℕ) (text before behind : List ℕ) → IsCut byte text before behind → length behind < length text
cut_is_shorter byte text before behind cut = omega (arith, ap length cut.joined, length-append before (byte ∷ behind))

pub first_line : (text line behind : List ℕ) → IsCut 10 text line behind → IsFirstLine text line behind
first_line text line behind cut = record {
  cut = cut;
  lines = ap lines_of cut.joined ∙ lines_of-feed line behind cut.first;
  last = ap behind_lines cut.joined ∙ behind_lines-feed line behind cut.first;
  shorter = cut_is_shorter 10 text line behind cut;
}

pub no_line : (text : List ℕ) → Lacks 10 text → IsNoLine text
no_line text lacks = record { feeds = lacks; lines = lines_of-none text lacks; last = behind_lines-none text lacks }

-- ---- one word off the front

pub first_word : (line word behind : List ℕ) → IsCut 32 line word behind → IsFirstWord line word behind
first_word line word behind cut = record {
  cut = cut;
  words = ap words_of cut.joined ∙ slice_split_at (λ byte. byte == 32) word 32 behind cut.first refl;
  shorter = cut_is_shorter 32 line word behind cut;
}

pub one_word : (line : List ℕ) → Lacks 32 line → IsOneWord line
one_word line lacks = record { spaces = lacks; words = slice_split_none (λ byte. byte == 32) line lacks }

-- ---- all lines

-- lines that were written are read before what stands behind them
pub lines_of-text : (lines : List (List ℕ)) (rest : List ℕ) → All (Lacks 10) lines → lines_of (text_of_lines lines ++ rest) ≡ lines ++ lines_of rest
lines_of-text [] rest lack = refl
lines_of-text (line ∷ lines) rest lack =
    ap lines_of (append_assoc (line ++ 10 ∷ []) (text_of_lines lines) rest ∙ append_assoc line (10 ∷ []) (text_of_lines lines ++ rest))
    ∙ lines_of-feed line (text_of_lines lines ++ rest) (All-head (Lacks 10) line lines lack)
    ∙ ap (λ lines. line ∷ lines) (lines_of-text lines rest (All-tail (Lacks 10) line lines lack))

pub behind_lines-text : (lines : List (List ℕ)) (rest : List ℕ) → All (Lacks 10) lines → behind_lines (text_of_lines lines ++ rest) ≡ behind_lines rest
behind_lines-text [] rest lack = refl
behind_lines-text (line ∷ lines) rest lack =
    ap behind_lines (append_assoc (line ++ 10 ∷ []) (text_of_lines lines) rest ∙ append_assoc line (10 ∷ []) (text_of_lines lines ++ rest))
    ∙ behind_lines-feed line (text_of_lines lines ++ rest) (All-head (Lacks 10) line lines lack)
    ∙ behind_lines-text lines rest (All-tail (Lacks 10) line lines lack)

pub lines_of-written : (lines : List (List ℕ)) → All (Lacks 10) lines → lines_of (text_of_lines lines) ≡ lines
lines_of-written lines lack =
    ap lines_of (sym (append-nil (text_of_lines lines))) ∙ lines_of-text lines [] lack
    ∙ ap (λ rest. lines ++ rest) (lines_of-none [] (λ k d within. absurd (omega arith))) ∙ append-nil lines

pub behind_lines-written : (lines : List (List ℕ)) → All (Lacks 10) lines → behind_lines (text_of_lines lines) ≡ []
behind_lines-written lines lack =
    ap behind_lines (sym (append-nil (text_of_lines lines))) ∙ behind_lines-text lines [] lack ∙ behind_lines-none [] (λ k d within. absurd (omega arith))

-- parts are joined by line feeds
joined_parts : (parts : List (List ℕ)) → 0 < length parts → text_of_lines (without_last parts) ++ last_of parts ≡ join_with_byte 10 parts
joined_parts [] some = absurd (omega arith)
joined_parts (last ∷ []) some = refl
joined_parts (part ∷ next ∷ more) some =
    append_assoc (part ++ 10 ∷ []) (text_of_lines (without_last (next ∷ more))) (last_of (next ∷ more))
    ∙ append_assoc part (10 ∷ []) (text_of_lines (without_last (next ∷ more)) ++ last_of (next ∷ more))
    ∙ ap (λ rest. part ++ 10 ∷ rest) (joined_parts (next ∷ more) (omega arith))

pub text_of_lines-read : (text : List ℕ) → text_of_lines (lines_of text) ++ behind_lines text ≡ text
unfolding lines_of behind_lines
text_of_lines-read text = joined_parts (between_feeds text) (some_part text) ∙ join_with_byte-slice_split 10 text

-- ---- lines and words hold none of the bytes between them

parts_lack-more : (byte x : ℕ) (parts : List (List ℕ)) (is : Bool) → (x == byte) ≡ is → All (Lacks byte) parts → All (Lacks byte) (cond is ([] ∷ parts) (onto_first x parts))
parts_lack-more byte x parts true same lack = All-cons (Lacks byte) [] parts (λ k d within. absurd (omega arith)) lack
parts_lack-more byte x [] false same lack = All-cons (Lacks byte) (x ∷ []) [] (All-cons (λ x. (x == byte) ≡ false) x [] same (λ k d within. absurd (omega arith))) lack
parts_lack-more byte x (part ∷ parts) false same lack =
    All-cons (Lacks byte) (x ∷ part) parts (All-cons (λ x. (x == byte) ≡ false) x part same (All-head (Lacks byte) part parts lack)) (All-tail (Lacks byte) part parts lack)

-- what stands between bytes of a kind has none of them
pub parts_lack : (byte : ℕ) (text : List ℕ) → All (Lacks byte) (slice_split (λ x. x == byte) text)
parts_lack byte [] = All-cons (Lacks byte) [] [] (λ k d within. absurd (omega arith)) (λ k d within. absurd (omega arith))
parts_lack byte (x ∷ xs) = parts_lack-more byte x (slice_split (λ x. x == byte) xs) (x == byte) refl (parts_lack byte xs)

all_without_last : (P : List ℕ → Type 0) (parts : List (List ℕ)) → All P parts → All P (without_last parts)
all_without_last P [] all = all
all_without_last P (last ∷ []) all = λ k d within. absurd (omega arith)
all_without_last P (part ∷ next ∷ more) all = All-cons P part (without_last (next ∷ more)) (All-head P part (next ∷ more) all) (all_without_last P (next ∷ more) (All-tail P part (next ∷ more) all))

lacks_last : (byte : ℕ) (parts : List (List ℕ)) → All (Lacks byte) parts → Lacks byte (last_of parts)
lacks_last byte [] lack = λ k d within. absurd (omega arith)
lacks_last byte (last ∷ []) lack = All-head (Lacks byte) last [] lack
lacks_last byte (part ∷ next ∷ more) lack = lacks_last byte (next ∷ more) (All-tail (Lacks byte) part (next ∷ more) lack)

pub lines_lack : (text : List ℕ) → All (Lacks 10) (lines_of text)
unfolding lines_of
lines_lack text = all_without_last (Lacks 10) (between_feeds text) (parts_lack 10 text)

pub behind_lines_lacks : (text : List ℕ) → Lacks 10 (behind_lines text)
unfolding behind_lines
behind_lines_lacks text = lacks_last 10 (between_feeds text) (parts_lack 10 text)

-- a text that ends with a line feed is that of its lines
pub text_of_lines-ended : (text : List ℕ) → text_of_lines (lines_of (text ++ 10 ∷ [])) ≡ text ++ 10 ∷ []
text_of_lines-ended text =
    let lines : List (List ℕ) = lines_of text in
    let last : List ℕ = behind_lines text in
    let whole : text_of_lines (lines ++ last ∷ []) ≡ text ++ 10 ∷ [] =
    flat_map-append (λ (line : List ℕ). line ++ 10 ∷ []) lines (last ∷ [])
    ∙ ap (λ end. text_of_lines lines ++ end) (append-nil (last ++ 10 ∷ []))
    ∙ sym (append_assoc (text_of_lines lines) last (10 ∷ []))
    ∙ ap (λ text. text ++ 10 ∷ []) (text_of_lines-read text) in
    let lack : All (Lacks 10) (lines ++ last ∷ []) =
    All-append (Lacks 10) lines (last ∷ []) (lines_lack text) (All-cons (Lacks 10) last [] (behind_lines_lacks text) (λ k d within. absurd (omega arith))) in
    ap (λ text. text_of_lines (lines_of text)) (sym whole) ∙ ap text_of_lines (lines_of-written (lines ++ last ∷ []) lack) ∙ whole

-- ---- all words

pub words_of-written : (words : List (List ℕ)) → 0 < length words → All (Lacks 32) words → words_of (line_of_words words) ≡ words
words_of-written [] some lack = absurd (omega arith)
words_of-written (word ∷ []) some lack = slice_split_none (λ byte. byte == 32) word (All-head (Lacks 32) word [] lack)
words_of-written (word ∷ next ∷ more) some lack =
    slice_split_at (λ byte. byte == 32) word 32 (line_of_words (next ∷ more)) (All-head (Lacks 32) word (next ∷ more) lack) refl
    ∙ ap (λ words. word ∷ words) (words_of-written (next ∷ more) (omega arith) (All-tail (Lacks 32) word (next ∷ more) lack))

pub line_of_words-read : (line : List ℕ) → line_of_words (words_of line) ≡ line
line_of_words-read line = join_with_byte-slice_split 32 line
