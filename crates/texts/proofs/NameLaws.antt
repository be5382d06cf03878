-- Laws of names: which bytes stand in one, and that no number is one.
use Rattle.std.proofs.Common.{◌≡◌, ℕ, ◌<◌, ◌≤◌, Bool, true, false, List, [], ◌∷◌, length, refl, sym, ap, ◌∙◌, arith}
use Rattle.std.specs.Prelude.{nat_le, nat_lt, ◌==◌, All}
use Rattle.std.specs.List.{list_all}
use Rattle.std.proofs.lemmas.Bool.{and_from, and_left, and_parts, leb-true, lt-leb, ne_eqb, or_left, true≢false}
use Rattle.std.proofs.lemmas.List.Elements.{All-weaker}
use Rattle.std.proofs.lemmas.List.Sums.{AllPass-from_list_all}
use Rattle.limits.specs.declared.TheConstants.{MAX_NAME_BYTES}
use Rattle.texts.specs.Names.{is_name, is_name_character, is_small_letter}
use Rattle.texts.specs.Numbers.{is_digit}

-- a byte that a test refuses does not stand among bytes that pass it
pub stands_not : (test : ℕ → Bool) (byte : ℕ) (bytes : List ℕ) → test byte ≡ false → list_all test bytes ≡ true → All (λ x. (x == byte) ≡ false) bytes
stands_not test byte bytes refused all =
    All-weaker (λ x. test x ≡ true) (λ x. (x == byte) ≡ false)
    (λ x passes. ne_eqb x byte (λ same. true≢false (sym passes ∙ ap test same ∙ refused)))
    bytes (AllPass-from_list_all test bytes all)

-- each byte of a name is a character of names
pub name_characters : (name : List ℕ) → is_name name ≡ true → list_all is_name_character name ≡ true
name_characters [] is = absurd (cc)
name_characters (c ∷ cs) is =
    let first = and_parts (is_small_letter c) _ is in
    let rest = and_parts (nat_lt (length cs) MAX_NAME_BYTES) _ first.1 in
    and_from (is_name_character c) (list_all is_name_character cs) (or_left _ (c == 95) (or_left (is_small_letter c) _ first.0)) rest.1

-- a name has a character
pub name_some : (name : List ℕ) → is_name name ≡ true → 0 < length name
name_some [] is = absurd (cc)
name_some (c ∷ cs) is = omega arith

-- digits are no name
pub digits_are_no_name : (text : List ℕ) → list_all is_digit text ≡ true → is_name text ≡ false
digits_are_no_name [] all = refl
digits_are_no_name (c ∷ cs) all =
    let first = and_parts (is_digit c) (list_all is_digit cs) all in
    let high : c ≤ 57 = leb-true c 57 (and_parts (nat_le 48 c) (nat_le c 57) first.0).1 in
    and_left (is_small_letter c) _ (and_left (nat_le 97 c) _ (lt-leb 97 c (omega arith)))
