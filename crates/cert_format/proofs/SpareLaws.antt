-- Pairs of a leaf behind which more comes, and the walk over them.
use Rattle.std.proofs.Common.{◌≡◌, ℕ, ◌+◌, ◌-◌, ◌<◌, ◌≤◌, List, [], ◌∷◌, ◌++◌, length, take, drop, Option, Some, None, refl, sym, ap, subst, ◌∙◌, arith}
use Rattle.std.specs.Prelude.{◌==◌, ℤ, option_map}
use Rattle.std.proofs.Math.Seq.{take-add}
use Rattle.std.proofs.lemmas.List.{append_assoc, length-append, length-drop, take-append-drop, take-append-le, take_at}
use Rattle.std.proofs.lemmas.List.Splits.{slice_split_at}
use Rattle.texts.specs.Lines.{IsFirstWord, IsOneWord, words_of}
use Rattle.texts.specs.Numbers.{natural_in, price_in}
use Rattle.certificate_model.specs.Text.{joined_pair, number_digits, pairs_in}
use Rattle.cert_format.specs.declared.spare.TheConstants.{PAIR_BYTES}
use Rattle.cert_format.specs.inner.SparePairs.{ArePairs, IsFirstPair, IsSpareOfWords, IsWalked, NamesNoPairs}
use Rattle.cert_format.proofs.WordLaws.{Grows, first_word-more, long_natural, long_price, short_natural, short_price, word_grows}

-- ---- pairs before others

none_behind : (named : Option (List (ℕ × ℤ))) → named ≡ option_map (λ (others : List (ℕ × ℤ)). [] ++ others) named
none_behind None = refl
none_behind (Some pairs) = refl

-- no words are no pairs
pub no_pairs : ArePairs [] []
no_pairs more = none_behind (pairs_in (words_of more))

joined_behind : (first second : List (ℕ × ℤ)) (named : Option (List (ℕ × ℤ))) →
    option_map (λ (others : List (ℕ × ℤ)). first ++ others) (option_map (λ (others : List (ℕ × ℤ)). second ++ others) named) ≡ option_map (λ (others : List (ℕ × ℤ)). (first ++ second) ++ others) named
joined_behind first second None = refl
joined_behind first second (Some pairs) = ap (λ (pairs : List (ℕ × ℤ)). Some pairs) (sym (append_assoc first second pairs))

-- pairs behind pairs are pairs
pub pairs_joined : (words others : List ℕ) (first second : List (ℕ × ℤ)) → ArePairs words first → ArePairs others second → ArePairs (words ++ others) (first ++ second)
pairs_joined words others first second are are_too more =
    ap (λ text. pairs_in (words_of text)) (append_assoc words others more)
    ∙ are (others ++ more)
    ∙ ap (option_map (λ (others : List (ℕ × ℤ)). first ++ others)) (are_too more)
    ∙ joined_behind first second (pairs_in (words_of more))

pair_behind : (row : ℕ) (price : ℤ) (named : Option (List (ℕ × ℤ))) → joined_pair (Some row) (Some price) named ≡ option_map (λ (others : List (ℕ × ℤ)). ((row, price) ∷ []) ++ others) named
pair_behind row price None = refl
pair_behind row price (Some pairs) = refl

-- two words with a space behind each
abbrev pub spaced : List ℕ → List ℕ → List ℕ
spaced row value = (row ++ 32 ∷ value) ++ 32 ∷ []

spaced-more : (row value more : List ℕ) → spaced row value ++ more ≡ row ++ 32 ∷ (value ++ 32 ∷ more)
spaced-more row value more =
    append_assoc (row ++ 32 ∷ value) (32 ∷ []) more ∙ append_assoc row (32 ∷ value) (32 ∷ more)

-- they are a pair
pub pair_is : (words row behind value more : List ℕ) (i : ℕ) (z : ℤ) → IsFirstWord words row behind → IsFirstWord behind value more →
    natural_in number_digits row ≡ Some i → price_in value ≡ Some z → IsFirstPair words (length words - length more)
pair_is words row behind value more i z first second is_row is_price =
    let joined : words ≡ spaced row value ++ more = first.cut.joined ∙ ap (λ behind. row ++ 32 ∷ behind) second.cut.joined ∙ sym (spaced-more row value more) in
    let long : length words ≡ length (spaced row value) + length more = ap length joined ∙ length-append (spaced row value) more in
    let spaces : length (spaced row value) ≡ length row + length value + 2 = omega (arith, length-append (row ++ 32 ∷ value) (32 ∷ []), length-append row (32 ∷ value)) in
    let count : length words - length more ≡ length (spaced row value) = omega arith in
    let here : take (length words - length more) words ≡ spaced row value =
    ap (take (length words - length more)) joined ∙ take_at (spaced row value) more (length words - length more) (sym count) in
    record {
      pair = (i, z);
      is = λ others.
          ap (λ text. pairs_in (words_of (text ++ others))) here
          ∙ ap (λ text. pairs_in (words_of text)) (spaced-more row value others)
          ∙ ap pairs_in (slice_split_at (λ byte. byte == 32) row 32 (value ++ 32 ∷ others) first.cut.first refl)
          ∙ ap (λ words. pairs_in (row ∷ words)) (slice_split_at (λ byte. byte == 32) value 32 others second.cut.first refl)
          ∙ rw (is_row, is_price) (pair_behind i z (pairs_in (words_of others)));
      some = omega arith;
      short = (let row_short = short_natural number_digits row i is_row in let value_short = short_price value z is_price in omega (arith, row_short, value_short));
      within = omega arith;
    }

-- ---- words that are no pair

no_row : (words : List (List ℕ)) (row : List ℕ) → natural_in number_digits row ≡ None → pairs_in (row ∷ words) ≡ None
no_row [] row none = refl
no_row (price ∷ words) row none = ap (λ row. joined_pair row (price_in price) (pairs_in words)) none

no_price-by : (row : Option ℕ) (price : Option ℤ) (named : Option (List (ℕ × ℤ))) → price ≡ None → joined_pair row price named ≡ None
no_price-by None price named none = refl
no_price-by (Some row) None named none = refl
no_price-by (Some row) (Some price) named none = absurd (cc)

no_price : (row price : List ℕ) (words : List (List ℕ)) → price_in price ≡ None → pairs_in (row ∷ price ∷ words) ≡ None
no_price row price words none = no_price-by (natural_in number_digits row) (price_in price) (pairs_in words) none

-- a word that is too long for a row
pub long_row : (words : List ℕ) → IsOneWord words → number_digits < length words → NamesNoPairs words
long_row words alone long more =
    let grown : Grows words more = word_grows words more alone.spaces in
    ap pairs_in grown.are ∙ no_row grown.words (words ++ grown.rest) (long_natural number_digits (words ++ grown.rest) (omega (arith, length-append words grown.rest)))

-- a word that is no row
pub other_row : (words row behind : List ℕ) → IsFirstWord words row behind → natural_in number_digits row ≡ None → NamesNoPairs words
other_row words row behind first none more =
    ap pairs_in (first_word-more words row behind more first) ∙ no_row (words_of (behind ++ more)) row none

-- a second word that is no price
pub other_price : (words row behind value others : List ℕ) → IsFirstWord words row behind → IsFirstWord behind value others → price_in value ≡ None → NamesNoPairs words
other_price words row behind value others first second none more =
    ap pairs_in (first_word-more words row behind more first ∙ ap (λ words. row ∷ words) (first_word-more behind value others more second))
    ∙ no_price row value (words_of (others ++ more)) none

-- a second word that is too long for a price
pub long_value : (words row behind : List ℕ) → IsFirstWord words row behind → IsOneWord behind → 16 < length behind → NamesNoPairs words
long_value words row behind first alone long more =
    let grown : Grows behind more = word_grows behind more alone.spaces in
    ap pairs_in (first_word-more words row behind more first ∙ ap (λ words. row ∷ words) grown.are)
    ∙ no_price row (behind ++ grown.rest) grown.words (long_price (behind ++ grown.rest) (omega (arith, length-append behind grown.rest)))

-- ---- the walk over the words of a leaf

-- before the first word
pub at_first_word : (most : ℕ) (words : List ℕ) → IsWalked most words 0 0 0
at_first_word most words = record {
  first = [];
  all = [];
  kept = no_pairs;
  seen = no_pairs;
  same = λ others. refl;
  many = refl;
  few = omega arith;
  next = λ more. refl;
  short = omega arith;
  ordered = omega arith;
  within = omega arith;
}

-- one pair more
seen_more : (words : List ℕ) (end count : ℕ) (all : List (ℕ × ℤ)) (pair : IsFirstPair (drop end words) count) → ArePairs (take end words) all → ArePairs (take (end + count) words) (all ++ pair.pair ∷ [])
seen_more words end count all pair seen more =
    ap (λ text. pairs_in (words_of (text ++ more))) (take-add end count words)
    ∙ pairs_joined (take end words) (take count (drop end words)) all (pair.pair ∷ []) seen pair.is more

one_more : (pairs : List (ℕ × ℤ)) (pair : ℕ × ℤ) → length (pairs ++ pair ∷ []) ≡ length pairs + 1
one_more pairs pair = length-append pairs (pair ∷ [])

-- it is among the first
pub pair_kept : (most : ℕ) (words : List ℕ) (count start end bytes : ℕ) → IsWalked most words count start end → IsFirstPair (drop end words) bytes → count < most →
    IsWalked most words (count + 1) (end + bytes) (end + bytes)
pair_kept most words count start end bytes walked pair more =
    let here : start ≡ end = walked.next more in
    let kept : ArePairs (take end words) walked.first = subst (λ start. ArePairs (take start words) walked.first) here walked.kept in
    record {
      first = walked.first ++ pair.pair ∷ [];
      all = walked.first ++ pair.pair ∷ [];
      kept = seen_more words end bytes walked.first pair kept;
      seen = seen_more words end bytes walked.first pair kept;
      same = λ others. refl;
      many = one_more walked.first pair.pair ∙ ap (λ count. count + 1) walked.many;
      few = omega arith;
      next = λ less. refl;
      short = omega arith;
      ordered = omega arith;
      within = omega (arith, length-drop end words);
    }

first_of_many : (most : ℕ) (first others : List (ℕ × ℤ)) → most ≤ length first → take most (first ++ others) ≡ take most first
first_of_many most first others many = take-append-le most first others many

-- it is behind them
pub pair_spared : (most : ℕ) (words : List ℕ) (count start end bytes : ℕ) → IsWalked most words count start end → IsFirstPair (drop end words) bytes → most ≤ count →
    IsWalked most words count start (end + bytes)
pair_spared most words count start end bytes walked pair full =
    let many : most ≤ length walked.first = omega arith in
    record {
      first = walked.first;
      all = walked.all ++ pair.pair ∷ [];
      kept = walked.kept;
      seen = seen_more words end bytes walked.all pair walked.seen;
      same = λ others.
          ap (take most) (append_assoc walked.all (pair.pair ∷ []) others)
          ∙ walked.same (pair.pair ∷ others)
          ∙ first_of_many most walked.first (pair.pair ∷ others) many
          ∙ sym (first_of_many most walked.first others many);
      many = walked.many;
      few = walked.few;
      next = λ less. absurd (omega arith);
      short = walked.short;
      ordered = omega arith;
      within = omega (arith, length-drop end words);
    }

same_first : (most : ℕ) (first all : List (ℕ × ℤ)) (named : Option (List (ℕ × ℤ))) → ((others : List (ℕ × ℤ)) → take most (all ++ others) ≡ take most (first ++ others)) →
    option_map (take most) (option_map (λ (others : List (ℕ × ℤ)). first ++ others) named) ≡ option_map (take most) (option_map (λ (others : List (ℕ × ℤ)). all ++ others) named)
same_first most first all None same = refl
same_first most first all (Some others) same = ap (λ (pairs : List (ℕ × ℤ)). Some pairs) (sym (same others))

behind_take : (at : ℕ) (words more : List ℕ) → words ++ more ≡ take at words ++ (drop at words ++ more)
behind_take at words more = ap (λ words. words ++ more) (sym (take-append-drop at words)) ∙ append_assoc (take at words) (drop at words) more

-- behind the last whole pair is no more than a part of one
pub part_is_left : (most : ℕ) (words : List ℕ) (count start end : ℕ) → IsWalked most words count start end → length (drop end words) < PAIR_BYTES →
    IsSpareOfWords most words (record { start = start; end = end })
part_is_left most words count start end walked part = record {
  same = λ more.
      ap (λ text. option_map (take most) (pairs_in (words_of text))) (append_assoc (take start words) (drop end words) more)
      ∙ ap (option_map (take most)) (walked.kept (drop end words ++ more))
      ∙ same_first most walked.first walked.all (pairs_in (words_of (drop end words ++ more))) walked.same
      ∙ ap (option_map (take most)) (sym (walked.seen (drop end words ++ more)))
      ∙ ap (λ text. option_map (take most) (pairs_in (words_of text))) (sym (behind_take end words more));
  ordered = walked.ordered;
  within = walked.within;
  few = omega (arith, length-drop end words);
}

-- behind it are words that are no pair
pub nothing_is_left : (most : ℕ) (words : List ℕ) (count start end : ℕ) → IsWalked most words count start end → NamesNoPairs (drop end words) → NamesNoPairs words
nothing_is_left most words count start end walked none more =
    ap (λ text. pairs_in (words_of text)) (behind_take end words more)
    ∙ walked.seen (drop end words ++ more)
    ∙ ap (option_map (λ (others : List (ℕ × ℤ)). walked.all ++ others)) (none more)
