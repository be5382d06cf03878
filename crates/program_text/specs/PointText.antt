-- Points as texts: the text of a list of values, and the list that a text spells (docs/program.md, "Texts").
use Rattle.std.specs.Prelude.{◌≡◌, ℕ, ◌+◌, ◌^◌, ◌<◌, ℤ, unsigned_abs, if◌then◌else◌, List, [], ◌∷◌, ◌++◌, All, map, filter_map, Result, Ok, Err, codes}
use Rattle.std.specs.Fmt.{signed_decimal}
use Rattle.std.specs.List.{before_first, common_prefix_len}
use Rattle.std.specs.Str.{bytes_eq}
use Rattle.texts.specs.Lines.{lines_of, text_of_lines}
use Rattle.texts.specs.Numbers.{whole_digits, whole_in}
use Rattle.program_text.specs.declared.fault.PointFault.{PointFault}
use Rattle.program_text.specs.declared.fault.PointFault.TheVariants.{Form}

-- a whole number of at most 15 digits
abbrev pub IsWhole : ℤ → Type 0
IsWhole z = unsigned_abs z < 10 ^ whole_digits

-- the lines of the text of some values: one for each value, between the first line and the last
abbrev pub point_lines : List ℤ → List (List ℕ)
point_lines values = codes "ctm-point 1" ∷ (map signed_decimal values ++ codes "end" ∷ [])

-- the text of some values
unfoldable pub point_text : List ℤ → List ℕ
point_text values = text_of_lines (point_lines values)

-- the text spells the values: it is theirs, and they are whole numbers of at most 15 digits
pub record SpellsPoint (text : List ℕ) (values : List ℤ) : Type 0 where
  pub written : text ≡ point_text values
  pub wholes : All IsWhole values

-- the values that lines name: the whole numbers among the lines before the first `end`
abbrev pub values_among : List (List ℕ) → List ℤ
values_among lines = filter_map whole_in (before_first (bytes_eq (codes "end")) lines)

-- how many lines of a text are those of the text of some values
abbrev pub lines_in_common : List ℕ → List ℤ → ℕ
lines_in_common text values = common_prefix_len bytes_eq (lines_of text) (point_lines values)

-- the values that the lines of a text name, where the text is theirs, or else the number of the first line that is not of their text
unfoldable pub spelled_point : List ℕ → Result (List ℤ) PointFault
spelled_point text =
    let values = values_among (lines_of text) in
    if bytes_eq text (point_text values) then Ok values else Err (Form (lines_in_common text values + 1))
