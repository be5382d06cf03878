-- Numbers of one spelling each (docs/plan-file.md, "Numbers").
use Rattle.std.specs.Prelude.{◌≡◌, ℕ, zero, suc, ◌+◌, ◌^◌, ◌<◌, Bool, false, not, ◌&&◌, ◌||◌, nat_le, ◌==◌, if◌then◌else◌, List, [], ◌∷◌, length, Option, Some, None, ℤ, pos, negsuc, unsigned_abs, option_map}
use Rattle.std.specs.Fmt.{decimal, signed_decimal}
use Rattle.std.specs.List.{list_all}
use Rattle.std.specs.Str.Parse.{digits_value}

-- 0 to 9
abbrev pub is_digit : ℕ → Bool
is_digit c = nat_le 48 c && nat_le c 57

-- one byte, or at most so many of which the first is not `0`
abbrev pub starts_natural : ℕ → List ℕ → Bool
starts_natural digits [] = false
starts_natural digits (c ∷ cs) = nat_le (length cs + 1) digits && (not (c == 48) || nat_le (length cs) 0)

-- one digit, or at most so many of which the first is not 0
abbrev pub is_natural : ℕ → List ℕ → Bool
is_natural digits text = starts_natural digits text && list_all is_digit text

-- the number that a text spells, where it spells one
abbrev pub natural_in : ℕ → List ℕ → Option ℕ
natural_in digits text = if is_natural digits text then Some (digits_value 10 text) else None

-- the most digits of a whole number
abbrev pub whole_digits : ℕ
whole_digits = 15

-- the number behind a minus, which is never 0
abbrev pub negative : Option ℕ → Option ℤ
negative None = None
negative (Some zero) = None
negative (Some (suc n)) = Some (negsuc n)

-- the whole number that a text spells, where it spells one: a number of at most so many digits, or a minus and such a number other than 0
abbrev pub whole_in : List ℕ → Option ℤ
whole_in [] = None
whole_in (c ∷ cs) = if c == 45 then negative (natural_in whole_digits cs) else option_map pos (natural_in whole_digits (c ∷ cs))

-- a number other than 0
abbrev pub nonzero : Option ℤ → Option ℤ
nonzero None = None
nonzero (Some (pos zero)) = None
nonzero (Some z) = Some z

-- the price that a text spells, where it spells one: a whole number other than 0
abbrev pub price_in : List ℕ → Option ℤ
price_in text = nonzero (whole_in text)

-- the text is the decimal of a number of at most so many digits
pub record IsNaturalText (digits : ℕ) (text : List ℕ) (n : ℕ) : Type 0 where
  pub written : text ≡ decimal n
  pub small : n < 10 ^ digits

-- the text is the decimal of a whole number of at most 15 digits
pub record IsWholeText (text : List ℕ) (z : ℤ) : Type 0 where
  pub written : text ≡ signed_decimal z
  pub small : unsigned_abs z < 10 ^ whole_digits

-- the text is the decimal of a whole number other than 0 of at most 15 digits
pub record IsPriceText (text : List ℕ) (z : ℤ) : Type 0 where
  pub whole : IsWholeText text z
  pub some : 0 < unsigned_abs z
