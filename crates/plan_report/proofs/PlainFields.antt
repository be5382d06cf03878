-- Plain fields need no quotes: names and numbers are plain, and a record of plain fields is the fields with commas between
-- them.
use Rattle.std.proofs.Common.{◌≡◌, ◌∙◌, ℕ, ◌^◌, ◌<◌, true, false, List, [], ◌∷◌, ◌++◌, refl, sym, ap, append_assoc}
use Rattle.std.specs.Prelude.{◌==◌, codes}
use Rattle.std.specs.Fmt.{decimal}
use Rattle.std.specs.List.{list_all}
use Rattle.std.proofs.lemmas.Bool.{and_from, and_parts, ne_eqb, or_left, or_right, true≢false}
use Rattle.std.proofs.lemmas.Fmt.{digits_decimal}
use Rattle.texts.specs.Names.{is_name, is_name_character, is_small_letter}
use Rattle.texts.specs.Numbers.{is_digit}
use Rattle.texts.proofs.NameLaws.{name_characters}
use Rattle.texts.proofs.NumberLaws.{numerals}
use Rattle.plan_report.specs.inner.Writing.{is_plain}
use Rattle.csv.specs.Writing.{default_writer, field_text, fields_text, is_blank, needs_byte, needs_quotes, row_text}

-- a name is plain
pub name_plain : (name : List ℕ) → is_name name ≡ true → is_plain name ≡ true
name_plain name is = name_characters name is

-- and so are digits
digits_plain : (text : List ℕ) → list_all is_digit text ≡ true → is_plain text ≡ true
digits_plain [] all = refl
digits_plain (c ∷ cs) all =
    let parts = and_parts (is_digit c) (list_all is_digit cs) all in
    and_from (is_name_character c) (is_plain cs) (or_left _ (c == 95) (or_right (is_small_letter c) (is_digit c) parts.0)) (digits_plain cs parts.1)

pub decimal_plain : (n : ℕ) → n < 2 ^ 64 → is_plain (decimal n) ≡ true
decimal_plain n fits = digits_plain (decimal n) (digits_decimal numerals n fits)

-- a character of names is none that is not
differs : (byte c : ℕ) → is_name_character byte ≡ false → is_name_character c ≡ true → (c == byte) ≡ false
differs byte c refused is = ne_eqb c byte (λ same. true≢false (sym is ∙ ap is_name_character same ∙ refused))

-- it is no comma, no quote and no mark of a line
character_plain : (c : ℕ) → is_name_character c ≡ true → needs_byte default_writer c ≡ false
character_plain c is = rw (differs 44 c refl is, differs 34 c refl is, differs 13 c refl is, differs 10 c refl is) refl

no_quotes : (field : List ℕ) → is_plain field ≡ true → needs_quotes default_writer field ≡ false
no_quotes [] plain = refl
no_quotes (c ∷ cs) plain =
    let parts = and_parts (is_name_character c) (is_plain cs) plain in
    rw (character_plain c parts.0) (no_quotes cs parts.1)

-- a plain field is written as it is
field_plain : (field : List ℕ) → is_plain field ≡ true → field_text default_writer field ≡ field
field_plain field plain = rw (no_quotes field plain) refl

-- fields behind a comma each, and then an end
abbrev pub fields_then : List (List ℕ) → List ℕ → List ℕ
fields_then [] end = end
fields_then (field ∷ fields) end = codes "," ++ (field ++ fields_then fields end)

fields_plain : (fields : List (List ℕ)) (end : List ℕ) → list_all is_plain fields ≡ true → fields_text default_writer fields ++ end ≡ fields_then fields end
unfolding fields_text
fields_plain [] end plain = refl
fields_plain (field ∷ fields) end plain =
    let parts = and_parts (is_plain field) (list_all is_plain fields) plain in
    rw (field_plain field parts.0) (ap (λ text. codes "," ++ text) (append_assoc field (fields_text default_writer fields) end ∙ ap (λ text. field ++ text) (fields_plain fields end parts.1)))

-- and so is a record of two plain fields or more
pub record_plain : (first second : List ℕ) (rest : List (List ℕ)) → list_all is_plain (first ∷ second ∷ rest) ≡ true
    → row_text default_writer (first ∷ second ∷ rest) ≡ first ++ fields_then (second ∷ rest) (codes "\n")
unfolding is_blank
record_plain first second rest plain =
    let parts = and_parts (is_plain first) (list_all is_plain (second ∷ rest)) plain in
    rw (field_plain first parts.0) (append_assoc first (fields_text default_writer (second ∷ rest)) (codes "\n") ∙ ap (λ text. first ++ text) (fields_plain (second ∷ rest) (codes "\n") parts.1))
