-- Laws of whole numbers and prices: a text spells one exactly where it is its decimal.
use Rattle.std.proofs.Common.{◌≡◌, ◌≢◌, ℕ, zero, suc, ◌<◌, ◌≤◌, ◌^◌, Bool, true, false, List, [], ◌∷◌, length, get_or, Option, Some, None, if◌then◌else◌, refl, sym, ap, subst, ◌∙◌, arith}
use Rattle.std.specs.Prelude.{◌==◌, ℤ, pos, negsuc, option_map, unsigned_abs}
use Rattle.std.specs.Fmt.{decimal, signed_decimal}
use Rattle.std.proofs.lemmas.Bool.{cond-false, eqb-true, ne_eqb}
use Rattle.std.proofs.lemmas.Fmt.{decimal_nonempty, digits_decimal}
use Rattle.std.proofs.lemmas.List.Elements.{All-cons}
use Rattle.texts.specs.Lines.{Lacks}
use Rattle.texts.specs.Numbers.{IsNaturalText, IsPriceText, IsWholeText, is_digit, natural_in, negative, nonzero, price_in, whole_digits, whole_in}
use Rattle.texts.proofs.NameLaws.{stands_not}
use Rattle.texts.proofs.NumberLaws.{digit_at, natural_decimal, natural_spells, numerals}

-- a decimal does not begin with a minus
decimal_first : (n c : ℕ) (cs : List ℕ) → n < 2 ^ 64 → decimal n ≡ c ∷ cs → 48 ≤ c
decimal_first n c cs fits is =
    let range = digit_at (decimal n) 0 (digits_decimal numerals n fits) (decimal_nonempty n fits) in
    subst (λ text. 48 ≤ get_or text 0 0) is range.0

-- ---- a text that spells a whole number is its decimal

-- with a minus
negative_spells : (digits : List ℕ) (n : Option ℕ) (z : ℤ) → natural_in whole_digits digits ≡ n → negative n ≡ Some z → IsWholeText (45 ∷ digits) z
negative_spells digits None z is signed = absurd (cc)
negative_spells digits (Some zero) z is signed = absurd (cc)
negative_spells digits (Some (suc n)) z is signed =
    let spells : IsNaturalText whole_digits digits (suc n) = natural_spells whole_digits digits (suc n) (omega arith) is in
    let own : IsWholeText (45 ∷ digits) (negsuc n) = record { written = ap (λ digits. 45 ∷ digits) spells.written; small = spells.small } in
    let same : negsuc n ≡ z = cc in
    subst (IsWholeText (45 ∷ digits)) same own

-- without
positive_spells : (text : List ℕ) (n : Option ℕ) (z : ℤ) → natural_in whole_digits text ≡ n → option_map pos n ≡ Some z → IsWholeText text z
positive_spells text None z is signed = absurd (cc)
positive_spells text (Some n) z is signed =
    let spells : IsNaturalText whole_digits text n = natural_spells whole_digits text n (omega arith) is in
    let own : IsWholeText text (pos n) = record { written = spells.written; small = spells.small } in
    let same : pos n ≡ z = cc in
    subst (IsWholeText text) same own

whole_spells-by : (c : ℕ) (cs : List ℕ) (z : ℤ) (minus : Bool) → (c == 45) ≡ minus →
    (if minus then negative (natural_in whole_digits cs) else option_map pos (natural_in whole_digits (c ∷ cs))) ≡ Some z → IsWholeText (c ∷ cs) z
whole_spells-by c cs z true is signed =
    subst (λ (first : ℕ). IsWholeText (first ∷ cs) z) (sym (eqb-true c 45 is)) (negative_spells cs (natural_in whole_digits cs) z refl signed)
whole_spells-by c cs z false is signed = positive_spells (c ∷ cs) (natural_in whole_digits (c ∷ cs)) z refl signed

pub whole_spells : (text : List ℕ) (z : ℤ) → whole_in text ≡ Some z → IsWholeText text z
whole_spells [] z is = absurd (cc)
whole_spells (c ∷ cs) z is = whole_spells-by c cs z (c == 45) refl is

-- ---- and the decimal of a whole number spells it

positive_read : (text : List ℕ) (n : ℕ) → n < 10 ^ whole_digits → decimal n ≡ text → whole_in text ≡ Some (pos n)
positive_read [] n small is = absurd (let some = decimal_nonempty n (omega arith) in let none = ap length is in omega arith)
positive_read (c ∷ cs) n small is =
    let plain : (c == 45) ≡ false = ne_eqb c 45 (λ same. let high = decimal_first n c cs (omega arith) is in omega arith) in
    let read : natural_in whole_digits (c ∷ cs) ≡ Some n = ap (natural_in whole_digits) (sym is) ∙ natural_decimal whole_digits n (omega arith) (omega arith) small in
    cond-false (c == 45) (negative (natural_in whole_digits cs)) (option_map pos (natural_in whole_digits (c ∷ cs))) plain ∙ ap (option_map pos) read

pub whole_decimal : (z : ℤ) → unsigned_abs z < 10 ^ whole_digits → whole_in (signed_decimal z) ≡ Some z
whole_decimal (pos n) small = positive_read (decimal n) n small refl
whole_decimal (negsuc n) small = ap negative (natural_decimal whole_digits (suc n) (omega arith) (omega arith) small)

pub whole_is_read : (text : List ℕ) (z : ℤ) → IsWholeText text z → whole_in text ≡ Some z
whole_is_read text z is = ap whole_in is.written ∙ whole_decimal z is.small

-- ---- prices

nonzero_is : (whole : Option ℤ) (z : ℤ) → nonzero whole ≡ Some z → (whole ≡ Some z) × (0 < unsigned_abs z)
nonzero_is None z is = absurd (cc)
nonzero_is (Some (pos zero)) z is = absurd (cc)
nonzero_is (Some (pos (suc n))) z is = let same : pos (suc n) ≡ z = cc in (is, subst (λ z. 0 < unsigned_abs z) same (omega arith))
nonzero_is (Some (negsuc n)) z is = let same : negsuc n ≡ z = cc in (is, subst (λ z. 0 < unsigned_abs z) same (omega arith))

nonzero_some : (z : ℤ) → 0 < unsigned_abs z → nonzero (Some z) ≡ Some z
nonzero_some (pos zero) some = absurd (omega arith)
nonzero_some (pos (suc n)) some = refl
nonzero_some (negsuc n) some = refl

pub price_spells : (text : List ℕ) (z : ℤ) → price_in text ≡ Some z → IsPriceText text z
price_spells text z is =
    let parts = nonzero_is (whole_in text) z is in
    record { whole = whole_spells text z parts.0; some = parts.1 }

pub price_is_read : (text : List ℕ) (z : ℤ) → IsPriceText text z → price_in text ≡ Some z
price_is_read text z is = ap nonzero (whole_is_read text z is.whole) ∙ nonzero_some z is.some

-- ---- which bytes do not stand in a number

pub decimal_lacks : (byte n : ℕ) → is_digit byte ≡ false → n < 2 ^ 64 → Lacks byte (decimal n)
decimal_lacks byte n refused fits = stands_not is_digit byte (decimal n) refused (digits_decimal numerals n fits)

pub signed_decimal_lacks : (byte : ℕ) (z : ℤ) → is_digit byte ≡ false → byte ≢ 45 → unsigned_abs z < 2 ^ 64 → Lacks byte (signed_decimal z)
signed_decimal_lacks byte (pos n) refused other fits = decimal_lacks byte n refused fits
signed_decimal_lacks byte (negsuc n) refused other fits =
    All-cons (λ x. (x == byte) ≡ false) 45 (decimal (suc n)) (ne_eqb 45 byte (λ same. other (sym same))) (decimal_lacks byte (suc n) refused fits)
