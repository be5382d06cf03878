-- Words behind which more comes, and words that are too long for a number.
use Rattle.std.proofs.Common.{◌≡◌, ℕ, ◌<◌, ◌≤◌, Bool, true, false, List, [], ◌∷◌, ◌++◌, length, Option, Some, None, if◌then◌else◌, refl, ap, ◌∙◌, arith}
use Rattle.std.specs.Prelude.{◌==◌, ℤ, pos, option_map}
use Rattle.std.specs.List.{list_all, onto_first}
use Rattle.std.specs.Str.Parse.{digits_value}
use Rattle.std.proofs.lemmas.Bool.{and_parts}
use Rattle.std.proofs.lemmas.List.{append_assoc}
use Rattle.std.proofs.lemmas.List.Elements.{All-head, All-tail}
use Rattle.std.proofs.lemmas.List.Splits.{length-slice_split, slice_split-cons_no, slice_split_at}
use Rattle.texts.specs.Lines.{IsFirstWord, Lacks, words_of}
use Rattle.texts.specs.Numbers.{is_digit, is_natural, natural_in, negative, nonzero, price_in, starts_natural, whole_digits, whole_in}
use Rattle.texts.proofs.NumberLaws.{starts}

-- ---- more behind words

-- the first word stays the first word
pub first_word-more : (words word behind more : List ℕ) → IsFirstWord words word behind → words_of (words ++ more) ≡ word ∷ words_of (behind ++ more)
first_word-more words word behind more first =
    ap (λ words. words_of (words ++ more)) first.cut.joined
    ∙ ap words_of (append_assoc word (32 ∷ behind) more)
    ∙ slice_split_at (λ byte. byte == 32) word 32 (behind ++ more) first.cut.first refl

-- what a word becomes behind which there is more, and the words behind it
pub record Grows (word more : List ℕ) : Type 0 where
  pub rest : List ℕ
  pub words : List (List ℕ)
  pub are : words_of (word ++ more) ≡ (word ++ rest) ∷ words

some_words : (more : List ℕ) (words : List (List ℕ)) → words_of more ≡ words → Grows [] more
some_words more [] are =
    let count = length-slice_split (λ byte. byte == 32) more in
    let none : length (words_of more) ≡ 0 = ap length are in absurd (omega (arith, count, none))
some_words more (word ∷ words) are = record { rest = word; words = words; are = are }

pub word_grows : (word more : List ℕ) → Lacks 32 word → Grows word more
word_grows [] more lacks = some_words more (words_of more) refl
word_grows (byte ∷ word) more lacks =
    let behind : Grows word more = word_grows word more (All-tail (λ byte. (byte == 32) ≡ false) byte word lacks) in
    record {
      rest = behind.rest;
      words = behind.words;
      are = slice_split-cons_no (λ byte. byte == 32) byte (word ++ more) (All-head (λ byte. (byte == 32) ≡ false) byte word lacks) ∙ ap (onto_first byte) behind.are;
    }

-- ---- words that are too long

natural-by : (digits : ℕ) (text : List ℕ) (is : Bool) → starts_natural digits text ≡ is → digits < length text → is ≡ false
natural-by digits text true given long = let few = (starts digits text given).few in absurd (omega (arith, few))
natural-by digits text false given long = refl

-- for a number without a sign
pub long_natural : (digits : ℕ) (text : List ℕ) → digits < length text → natural_in digits text ≡ None
long_natural digits text long =
    let no : starts_natural digits text ≡ false = natural-by digits text (starts_natural digits text) refl long in
    rw no refl

signed : (digits : List ℕ) (byte : ℕ) (minus : Bool) → 15 < length digits → (if minus then negative (natural_in whole_digits digits) else option_map pos (natural_in whole_digits (byte ∷ digits))) ≡ None
signed digits byte true long = ap negative (long_natural 15 digits long)
signed digits byte false long = ap (option_map pos) (long_natural 15 (byte ∷ digits) (omega arith))

-- for a whole number
pub long_whole : (text : List ℕ) → 16 < length text → whole_in text ≡ None
long_whole [] long = refl
long_whole (byte ∷ digits) long = signed digits byte (byte == 45) (omega arith)

-- for a price
pub long_price : (text : List ℕ) → 16 < length text → price_in text ≡ None
long_price text long = ap nonzero (long_whole text long)

-- ---- so numbers are short

natural_short-by : (digits : ℕ) (text : List ℕ) (n : ℕ) (is : Bool) → is_natural digits text ≡ is → (if is then Some (digits_value 10 text) else None) ≡ Some n → length text ≤ digits
natural_short-by digits text n true given named = (starts digits text (and_parts (starts_natural digits text) (list_all is_digit text) given).0).few
natural_short-by digits text n false given named = absurd (cc)

pub short_natural : (digits : ℕ) (text : List ℕ) (n : ℕ) → natural_in digits text ≡ Some n → length text ≤ digits
short_natural digits text n named = natural_short-by digits text n (is_natural digits text) refl named

negative_some : (number : Option ℕ) (z : ℤ) → negative number ≡ Some z → (n : ℕ) × (number ≡ Some n)
negative_some None z is = absurd (cc)
negative_some (Some n) z is = (n, refl)

pos_some : (number : Option ℕ) (z : ℤ) → option_map pos number ≡ Some z → (n : ℕ) × (number ≡ Some n)
pos_some None z is = absurd (cc)
pos_some (Some n) z is = (n, refl)

whole_short-by : (digits : List ℕ) (byte : ℕ) (z : ℤ) (minus : Bool) → (if minus then negative (natural_in whole_digits digits) else option_map pos (natural_in whole_digits (byte ∷ digits))) ≡ Some z → length digits ≤ 15
whole_short-by digits byte z true is =
    let named = negative_some (natural_in whole_digits digits) z is in short_natural 15 digits named.0 named.1
whole_short-by digits byte z false is =
    let named = pos_some (natural_in whole_digits (byte ∷ digits)) z is in
    let short = short_natural 15 (byte ∷ digits) named.0 named.1 in omega (arith, short)

pub short_whole : (text : List ℕ) (z : ℤ) → whole_in text ≡ Some z → length text ≤ 16
short_whole [] z is = absurd (cc)
short_whole (byte ∷ digits) z is = let short = whole_short-by digits byte z (byte == 45) is in omega (arith, short)

nonzero_some : (whole : Option ℤ) (z : ℤ) → nonzero whole ≡ Some z → (y : ℤ) × (whole ≡ Some y)
nonzero_some None z is = absurd (cc)
nonzero_some (Some y) z is = (y, refl)

pub short_price : (text : List ℕ) (z : ℤ) → price_in text ≡ Some z → length text ≤ 16
short_price text z is = let named = nonzero_some (whole_in text) z is in short_whole text named.0 named.1
