-- Laws of numbers of one spelling: a text spells a number exactly where it is the number's decimal.
use Rattle.std.proofs.Common.{◌≡◌, inl, inr, ℕ, zero, suc, ◌+◌, ◌-◌, ◌*◌, ◌^◌, ◌<◌, ◌≤◌, Bool, true, false, List, [], ◌∷◌, length, get_or, take, Some, None, if◌then◌else◌, refl, sym, ap, subst, ◌∙◌, arith}
use Rattle.std.specs.Prelude.{not, ◌||◌, nat_le, ◌==◌}
use Rattle.std.specs.Char.{digit_value}
use Rattle.std.specs.Fmt.{decimal}
use Rattle.std.specs.Int.{IsInRange}
use Rattle.std.specs.List.{list_all}
use Rattle.std.specs.Str.Parse.{digits_value}
use Rattle.std.proofs.lemmas.Bool.{and_from, and_parts, cases_eq, eq-eqb, le-leb, leb-true, ne_eqb, or_cases, or_right}
use Rattle.std.proofs.Math.Nat.{pow-le-pow_right}
use Rattle.std.proofs.lemmas.Fmt.{decimal-digits_value, decimal_digit, decimal_nonempty, digits_decimal, digits_value-decimal, first_decimal, length-decimal-le}
use Rattle.std.proofs.lemmas.Int.Digits.{digits_value_more}
use Rattle.std.proofs.lemmas.List.{length-take-le}
use Rattle.std.proofs.lemmas.List.Folds.{list_all_more}
use Rattle.std.proofs.lemmas.Str.{digit_value_digit}
use Rattle.std.proofs.lemmas.Str.Parse.{IsDigitsTest, IsNumeralModel, digits_value_short, numerals_by_value}
use Rattle.texts.specs.Numbers.{IsNaturalText, is_digit, is_natural, natural_in, starts_natural}

-- a digit lies between 0 and 9
pub digit_in_range : (c : ℕ) → is_digit c ≡ true → IsInRange 48 57 c
digit_in_range c is =
    let parts = and_parts (nat_le 48 c) (nat_le c 57) is in
    (leb-true 48 c parts.0, leb-true c 57 parts.1)

-- the test of digits tells the texts of digits
tells_digits : IsDigitsTest (λ ds. list_all is_digit ds ≡ true)
tells_digits = record {
  empty = refl;
  parts = λ c cs all. let parts = and_parts (is_digit c) (list_all is_digit cs) all in (digit_in_range c parts.0, parts.1);
  more = λ c cs in_range all. and_from (is_digit c) (list_all is_digit cs) (and_from (nat_le 48 c) (nat_le c 57) (le-leb 48 c in_range.0) (le-leb c 57 in_range.1)) all;
}

-- the words of this crate are those of std
pub numerals : IsNumeralModel (λ ds. list_all is_digit ds ≡ true) (digits_value 10)
numerals = numerals_by_value (λ ds. list_all is_digit ds ≡ true) tells_digits

-- each of some digits is a digit
pub digit_at : (text : List ℕ) (i : ℕ) → list_all is_digit text ≡ true → i < length text → IsInRange 48 57 (get_or text i 0)
digit_at [] i all within = absurd (omega arith)
digit_at (c ∷ cs) zero all within = digit_in_range c (and_parts (is_digit c) (list_all is_digit cs) all).0
digit_at (c ∷ cs) (suc i) all within = digit_at cs i (and_parts (is_digit c) (list_all is_digit cs) all).1 (omega arith)

-- one digit more
pub digits_more : (text : List ℕ) (i : ℕ) → list_all is_digit (take i text) ≡ true → is_digit (get_or text i 0) ≡ true → i < length text → list_all is_digit (take (i + 1) text) ≡ true
digits_more text i all digit within =
    list_all_more is_digit text i 0 within ∙ and_from (list_all is_digit (take i text)) (is_digit (get_or text i 0)) all digit

-- fewer than 18 digits leave room for one more
pub value_small : (text : List ℕ) (i : ℕ) → list_all is_digit (take i text) ≡ true → length text ≤ 18 → i < length text → digits_value 10 (take i text) < 10 ^ 17
value_small text i all few within =
    let long : length (take i text) ≡ i = length-take-le i text (omega arith) in
    digits_value_short numerals (take i text) 17 all (omega arith)

-- the value with one digit more
pub value_more : (text : List ℕ) (i : ℕ) → is_digit (get_or text i 0) ≡ true → i < length text → digits_value 10 (take (i + 1) text) ≡ digits_value 10 (take i text) * 10 + (get_or text i 0 - 48)
value_more text i is within =
    let in_range = digit_in_range (get_or text i 0) is in
    let digit = digit_value_digit (get_or text i 0) in_range in
    let same : digit_value (get_or text i 0) ≡ get_or text i 0 - 48 = omega arith in
    digits_value_more 10 text i within ∙ ap (λ d. digits_value 10 (take i text) * 10 + d) same

-- a number's text is of digits
pub natural_digits : (digits : ℕ) (text : List ℕ) → is_natural digits text ≡ true → list_all is_digit text ≡ true
natural_digits digits text is = (and_parts (starts_natural digits text) (list_all is_digit text) is).1

-- how a number's text starts
pub record Starts (digits : ℕ) (text : List ℕ) : Type 0 where
  pub some : 0 < length text
  pub few : length text ≤ digits
  pub led : get_or text 0 0 ≡ 48 → length text ≡ 1

pub starts : (digits : ℕ) (text : List ℕ) → starts_natural digits text ≡ true → Starts digits text
starts digits [] is = absurd (cc)
starts digits (c ∷ cs) is =
    let parts = and_parts (nat_le (length cs + 1) digits) (not (c == 48) || nat_le (length cs) 0) is in
    record {
      some = omega arith;
      few = (let le = leb-true (length cs + 1) digits parts.0 in omega arith);
      led = λ zero_first.
          elim (or_cases (not (c == 48)) (nat_le (length cs) 0) parts.1) [
            | inl other ↦ absurd (let same = eq-eqb c 48 zero_first in cc)
            | inr none ↦ let few : length cs ≤ 0 = leb-true (length cs) 0 none in omega arith
          ];
    }

spells_value : (digits : ℕ) (text : List ℕ) → digits ≤ 18 → is_natural digits text ≡ true → IsNaturalText digits text (digits_value 10 text)
spells_value digits text few is =
    let parts = and_parts (starts_natural digits text) (list_all is_digit text) is in
    let start : Starts digits text = starts digits text parts.0 in
    let small : digits_value 10 text < 10 ^ digits = digits_value_short numerals text digits parts.1 start.few in
    let fits : digits_value 10 text < 10 ^ 18 = digits_value_short numerals text 18 parts.1 (let few_bytes = start.few in omega arith) in
    record {
      written = sym (decimal-digits_value numerals text parts.1 start.some start.led (omega arith));
      small = small;
    }

spells_some : (digits : ℕ) (text : List ℕ) (n : ℕ) (is : Bool) → digits ≤ 18 → is_natural digits text ≡ is → (if is then Some (digits_value 10 text) else None) ≡ Some n → IsNaturalText digits text n
spells_some digits text n false few same is = absurd (cc)
spells_some digits text n true few same is =
    let value : digits_value 10 text ≡ n = cc in
    subst (IsNaturalText digits text) value (spells_value digits text few same)

-- a text that spells a number is its decimal
pub natural_spells : (digits : ℕ) (text : List ℕ) (n : ℕ) → digits ≤ 18 → natural_in digits text ≡ Some n → IsNaturalText digits text n
natural_spells digits text n few is = spells_some digits text n (is_natural digits text) few refl is

-- where a first digit of 0 stands alone
not_led : (c : ℕ) (cs : List ℕ) → (c ≡ 48 → length (c ∷ cs) ≡ 1) → (not (c == 48) || nat_le (length cs) 0) ≡ true
not_led c cs first =
    elim (cases_eq c 48) [
      | inl zero_first ↦ or_right (not (c == 48)) (nat_le (length cs) 0) (le-leb (length cs) 0 (let alone = first zero_first in omega arith))
      | inr other ↦ rw (ne_eqb c 48 other)
    ]

-- digits that do not begin with 0, or are 0
shape : (digits : ℕ) (text : List ℕ) → list_all is_digit text ≡ true → 0 < length text → length text ≤ digits → (get_or text 0 0 ≡ 48 → length text ≡ 1) → is_natural digits text ≡ true
shape digits [] all some few first = absurd (omega arith)
shape digits (c ∷ cs) all some few first =
    and_from (starts_natural digits (c ∷ cs)) (list_all is_digit (c ∷ cs))
    (and_from (nat_le (length cs + 1) digits) _ (le-leb (length cs + 1) digits (omega arith)) (not_led c cs first)) all

-- the decimal of a number begins with 0 where the number is 0 alone
led : (n : ℕ) → n < 2 ^ 64 → get_or (decimal n) 0 0 ≡ 48 → length (decimal n) ≡ 1
led zero fits first = ap length (decimal_digit 0 (omega arith))
led (suc n) fits first = absurd (let more = first_decimal (suc n) (omega arith) fits in omega arith)

-- and the decimal of a number spells it
pub natural_decimal : (digits n : ℕ) → 1 ≤ digits → digits ≤ 18 → n < 10 ^ digits → natural_in digits (decimal n) ≡ Some n
natural_decimal digits n some few small =
    let most : 10 ^ digits ≤ 10 ^ 18 = pow-le-pow_right (omega arith) few in
    let fits : n < 2 ^ 64 = omega arith in
    let is : is_natural digits (decimal n) ≡ true =
    shape digits (decimal n) (digits_decimal numerals n fits) (decimal_nonempty n fits) (length-decimal-le digits n (omega arith) small fits) (led n fits) in
    let value : digits_value 10 (decimal n) ≡ n = digits_value-decimal numerals n fits in
    rw (is, value)

pub natural_is_read : (digits : ℕ) (text : List ℕ) (n : ℕ) → 1 ≤ digits → digits ≤ 18 → IsNaturalText digits text n → natural_in digits text ≡ Some n
natural_is_read digits text n some few is = ap (natural_in digits) is.written ∙ natural_decimal digits n some few is.small

-- a number that was read is small
pub natural_small : (digits : ℕ) (text : List ℕ) → list_all is_digit text ≡ true → starts_natural digits text ≡ true → digits_value 10 text < 10 ^ digits
natural_small digits text all start = digits_value_short numerals text digits all (starts digits text start).few
