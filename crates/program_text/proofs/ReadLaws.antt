-- A text of which some lines were read: the first line, those of some values, and then what is left of it.
use Rattle.std.proofs.Common.{◌≡◌, ◌≢◌, ℕ, ◌+◌, ◌<◌, List, [], ◌∷◌, ◌++◌, length, map, Some, None, Result, Ok, Err, true, false, refl, sym, ap, subst, ◌∙◌, arith}
use Rattle.std.specs.Prelude.{◌==◌, ℤ, codes, All}
use Rattle.std.specs.Fmt.{signed_decimal}
use Rattle.std.specs.List.{common_prefix_len}
use Rattle.std.specs.Str.{bytes_eq}
use Rattle.std.proofs.lemmas.Bool.{cond-false, eqb-true, true≢false}
use Rattle.std.proofs.lemmas.Slice.Eq.{bytes_eq-Decides}
use Rattle.std.proofs.lemmas.List.{append-nil, append_assoc, length-append, length-map, map-append}
use Rattle.std.proofs.lemmas.List.Elements.{All-head}
use Rattle.refusals.specs.Memory.{OrMemory}
use Rattle.texts.specs.Lines.{IsFirstLine, IsNoLine, lines_of, text_of_lines}
use Rattle.texts.specs.Numbers.{whole_in}
use Rattle.texts.proofs.LineLaws.{lines_of-text}
use Rattle.texts.proofs.WholeLaws.{whole_spells}
use Rattle.program_text.specs.PointText.{IsWhole, lines_in_common, point_lines, point_text, spelled_point, values_among}
use Rattle.program_text.specs.declared.fault.PointFault.{PointFault}
use Rattle.program_text.specs.declared.fault.PointFault.TheVariants.{Form, Memory}
use Rattle.program_text.proofs.PointLaws.{all_in_common, common-none, common-other, common-same, end, equal, front, front_lacks, spelled-other, spelled-theirs, value_is_no_other, values_among-end, values_among-front, values_among-other, values_among-wholes}
use Rattle.program_text.proofs.TextLaws.{text_of_both}

-- the text whose first line is read, and then lines of values, before what is left
abbrev pub read_before : List ℤ → List ℕ → List ℕ
read_before values rest = text_of_lines (front values) ++ rest

lines_of-read : (values : List ℤ) (rest : List ℕ) → All IsWhole values → lines_of (read_before values rest) ≡ front values ++ lines_of rest
lines_of-read values rest wholes = lines_of-text (front values) rest (front_lacks values wholes)

-- what its lines name: the values, and what the lines that are left name
values_read : (values more : List ℤ) (rest : List ℕ) → All IsWhole values → values_among (lines_of rest) ≡ more → values_among (lines_of (read_before values rest)) ≡ values ++ more
values_read values more rest wholes left =
    ap values_among (lines_of-read values rest wholes) ∙ values_among-front values (lines_of rest) wholes ∙ ap (λ more. values ++ more) left

point_lines-both : (values more : List ℤ) → point_lines (values ++ more) ≡ front values ++ (map signed_decimal more ++ end ∷ [])
point_lines-both values more =
    ap (λ lines. codes "ctm-point 1" ∷ (lines ++ end ∷ [])) (map-append signed_decimal values more)
    ∙ ap (λ lines. codes "ctm-point 1" ∷ lines) (append_assoc (map signed_decimal values) (map signed_decimal more) (end ∷ []))

-- how many of its lines are those of these values and more
common_read : (values more : List ℤ) (rest : List ℕ) → All IsWhole values →
    lines_in_common (read_before values rest) (values ++ more) ≡ length values + 1 + common_prefix_len bytes_eq (lines_of rest) (map signed_decimal more ++ end ∷ [])
common_read values more rest wholes =
    ap (λ lines. common_prefix_len bytes_eq lines (point_lines (values ++ more))) (lines_of-read values rest wholes)
    ∙ ap (common_prefix_len bytes_eq (front values ++ lines_of rest)) (point_lines-both values more)
    ∙ common-same (front values) (lines_of rest) (map signed_decimal more ++ end ∷ [])
    ∙ (let long = length-map values signed_decimal in omega arith)

-- a text is refused where fewer lines are in common than the text of its values has
refused_short : (text : List ℕ) (values : List ℤ) (n : ℕ) → values_among (lines_of text) ≡ values → lines_in_common text values ≡ n → n < length values + 2 → spelled_point text ≡ Err (Form (n + 1))
refused_short text values n named common short =
    let wholes : All IsWhole values = subst (λ (values : List ℤ). All IsWhole values) named (values_among-wholes (lines_of text)) in
    let other : text ≢ point_text values = λ same. let all = ap (λ text. lines_in_common text values) same ∙ all_in_common values wholes in absurd (omega arith) in
    spelled-other text (λ same. other (same ∙ ap point_text named))
    ∙ ap (λ (values : List ℤ). Err (Form (lines_in_common text values + 1))) named
    ∙ ap (λ (n : ℕ). Err (Form (n + 1))) common

-- ---- what tests say

pub equal_texts : (a b : List ℕ) → bytes_eq a b ≡ true → a ≡ b
equal_texts a b is = (bytes_eq-Decides a b).0 is

pub other_texts : (a b : List ℕ) → bytes_eq a b ≡ false → b ≢ a
other_texts a b is same = true≢false (sym (equal a b (sym same)) ∙ is)

no_bytes : (text : List ℕ) → length text ≡ 0 → text ≡ []
no_bytes [] none = refl
no_bytes (byte ∷ bytes) none = absurd (omega arith)

pub no_bytes_by : (text : List ℕ) → (length text == 0) ≡ true → text ≡ []
no_bytes_by text none = no_bytes text (eqb-true (length text) 0 none)

pub some_bytes_by : (text : List ℕ) → (length text == 0) ≡ false → text ≢ []
some_bytes_by text some none = true≢false (ap (λ text. length text == 0) (sym none) ∙ some)

-- ---- what is left of a text decides

-- no line is left
pub no_line_left : (values : List ℤ) (rest : List ℕ) → All IsWhole values → IsNoLine rest → spelled_point (read_before values rest) ≡ Err (Form (length values + 2))
no_line_left values rest wholes none =
    let common : lines_in_common (read_before values rest) (values ++ []) ≡ length values + 1 =
    common_read values [] rest wholes ∙ ap (λ lines. length values + 1 + common_prefix_len bytes_eq lines (end ∷ [])) none.lines ∙ omega arith in
    refused_short (read_before values rest) (values ++ []) (length values + 1) (values_read values [] rest wholes (ap values_among none.lines)) common (let long = ap length (append-nil values) in omega arith)
    ∙ ap (λ (n : ℕ). Err (Form n)) (omega arith)

-- a line that is no value and not the end differs from the line of the text of the values that are left
common_of_other : (line : List ℕ) (lines : List (List ℕ)) (more : List ℤ) → All IsWhole more → end ≢ line → whole_in line ≡ None → common_prefix_len bytes_eq (line ∷ lines) (map signed_decimal more ++ end ∷ []) ≡ 0
common_of_other line lines [] wholes other none = common-other line end lines [] (λ same. other (sym same))
common_of_other line lines (z ∷ more) wholes other none =
    common-other line (signed_decimal z) lines (map signed_decimal more ++ end ∷ []) (value_is_no_other z line (All-head IsWhole z more wholes) none)

pub another_line_left : (values : List ℤ) (rest line behind : List ℕ) → All IsWhole values → IsFirstLine rest line behind → end ≢ line → whole_in line ≡ None → spelled_point (read_before values rest) ≡ Err (Form (length values + 2))
another_line_left values rest line behind wholes first other none =
    let more : List ℤ = values_among (lines_of behind) in
    let left : values_among (lines_of rest) ≡ more = ap values_among first.lines ∙ values_among-other line (lines_of behind) other none in
    let common : lines_in_common (read_before values rest) (values ++ more) ≡ length values + 1 =
    common_read values more rest wholes
    ∙ ap (λ lines. length values + 1 + common_prefix_len bytes_eq lines (map signed_decimal more ++ end ∷ [])) first.lines
    ∙ ap (λ n. length values + 1 + n) (common_of_other line (lines_of behind) more (values_among-wholes (lines_of behind)) other none) ∙ omega arith in
    refused_short (read_before values rest) (values ++ more) (length values + 1) (values_read values more rest wholes left) common (let long = length-append values more in omega arith)
    ∙ ap (λ (n : ℕ). Err (Form n)) (omega arith)

-- the line `end` is left
read_to_end : (values : List ℤ) → read_before values (end ++ 10 ∷ []) ≡ point_text values
unfolding point_text
read_to_end values = ap (λ last. text_of_lines (front values) ++ last) (sym (append-nil (end ++ 10 ∷ []))) ∙ sym (text_of_both (front values) (end ∷ []))

-- and nothing behind it
pub end_left : (values : List ℤ) (rest line behind : List ℕ) → All IsWhole values → IsFirstLine rest line behind → line ≡ end → behind ≡ [] → spelled_point (read_before values rest) ≡ Ok values
end_left values rest line behind wholes first is nothing =
    let left : rest ≡ end ++ 10 ∷ [] = first.cut.joined ∙ ap (λ line. line ++ 10 ∷ behind) is ∙ ap (λ behind. end ++ 10 ∷ behind) nothing in
    let text : read_before values rest ≡ point_text values = ap (read_before values) left ∙ read_to_end values in
    let named : values_among (lines_of (read_before values rest)) ≡ values =
    values_read values [] rest wholes (ap values_among (first.lines ∙ ap (λ line. line ∷ lines_of behind) is) ∙ values_among-end (lines_of behind)) ∙ append-nil values in
    spelled-theirs (read_before values rest) (text ∙ ap point_text (sym named)) ∙ ap (λ (values : List ℤ). Ok values) named

-- or more
pub more_behind_the_end : (values : List ℤ) (rest line behind : List ℕ) → All IsWhole values → IsFirstLine rest line behind → line ≡ end → behind ≢ [] → spelled_point (read_before values rest) ≡ Err (Form (length values + 3))
more_behind_the_end values rest line behind wholes first is some =
    let text : List ℕ = read_before values rest in
    let lines : lines_of rest ≡ end ∷ lines_of behind = first.lines ∙ ap (λ line. line ∷ lines_of behind) is in
    let named : values_among (lines_of text) ≡ values ++ [] = values_read values [] rest wholes (ap values_among lines ∙ values_among-end (lines_of behind)) in
    let common : lines_in_common text (values ++ []) ≡ length values + 2 =
    common_read values [] rest wholes
    ∙ ap (λ lines. length values + 1 + common_prefix_len bytes_eq lines (end ∷ [])) lines
    ∙ ap (λ n. length values + 1 + n) (common-same (end ∷ []) (lines_of behind) [] ∙ ap (λ n. 1 + n) (common-none (lines_of behind)))
    ∙ omega arith in
    let other : text ≢ point_text (values_among (lines_of text)) =
    λ same.
    (let left : rest ≡ end ++ 10 ∷ behind = first.cut.joined ∙ ap (λ line. line ++ 10 ∷ behind) is in
    let longer = ap length left ∙ length-append end (10 ∷ behind) in
    let whole : text ≡ read_before values (end ++ 10 ∷ []) = same ∙ ap point_text (named ∙ append-nil values) ∙ sym (read_to_end values) in
    let long = sym (length-append (text_of_lines (front values)) rest) ∙ ap length whole ∙ length-append (text_of_lines (front values)) (end ++ 10 ∷ []) in
    some (no_bytes behind (omega arith))) in
    spelled-other text other
    ∙ ap (λ (values : List ℤ). Err (Form (lines_in_common text values + 1))) named
    ∙ ap (λ (n : ℕ). Err (Form (n + 1))) common
    ∙ ap (λ (n : ℕ). Err (Form n)) (omega arith)

-- ---- a value is left

pub value_left : (values : List ℤ) (z : ℤ) (rest line behind : List ℕ) → IsFirstLine rest line behind → whole_in line ≡ Some z → read_before values rest ≡ read_before (values ++ z ∷ []) behind
value_left values z rest line behind first is =
    let left : rest ≡ (signed_decimal z ++ 10 ∷ []) ++ behind = first.cut.joined ∙ ap (λ line. line ++ 10 ∷ behind) (whole_spells line z is).written ∙ sym (append_assoc (signed_decimal z) (10 ∷ []) behind) in
    let lines : text_of_lines (front (values ++ z ∷ [])) ≡ text_of_lines (front values) ++ (signed_decimal z ++ 10 ∷ []) =
    ap (λ lines. text_of_lines (codes "ctm-point 1" ∷ lines)) (map-append signed_decimal values (z ∷ []))
    ∙ text_of_both (front values) (signed_decimal z ∷ []) ∙ ap (λ line. text_of_lines (front values) ++ line) (append-nil (signed_decimal z ++ 10 ∷ [])) in
    ap (read_before values) left
    ∙ sym (append_assoc (text_of_lines (front values)) (signed_decimal z ++ 10 ∷ []) behind)
    ∙ ap (λ lines. lines ++ behind) (sym lines)

-- ---- the first line

-- it is the right one
pub behind_the_first : (text line behind : List ℕ) (r : Result (List ℤ) PointFault) → IsFirstLine text line behind → bytes_eq line (codes "ctm-point 1") ≡ true →
    OrMemory Memory (spelled_point (codes "ctm-point 1\n" ++ behind)) r → OrMemory Memory (spelled_point text) r
behind_the_first text line behind r first is given =
    let whole : text ≡ codes "ctm-point 1\n" ++ behind = first.cut.joined ∙ ap (λ line. line ++ 10 ∷ behind) (equal_texts line (codes "ctm-point 1") is) in
    subst (λ text. OrMemory Memory (spelled_point text) r) (sym whole) given

-- it is another
pub another_first_line : (text line behind : List ℕ) → IsFirstLine text line behind → bytes_eq line (codes "ctm-point 1") ≡ false → spelled_point text ≡ Err (Form 1)
another_first_line text line behind first other =
    let values : List ℤ = values_among (lines_of text) in
    let common : lines_in_common text values ≡ 0 = ap (λ lines. common_prefix_len bytes_eq lines (point_lines values)) first.lines ∙ cond-false (bytes_eq line (codes "ctm-point 1")) _ _ other in
    refused_short text values 0 refl common (omega arith)

-- there is none
pub no_first_line : (text : List ℕ) → IsNoLine text → spelled_point text ≡ Err (Form 1)
no_first_line text none =
    let values : List ℤ = values_among (lines_of text) in
    refused_short text values 0 refl (ap (λ lines. common_prefix_len bytes_eq lines (point_lines values)) none.lines) (omega arith)
