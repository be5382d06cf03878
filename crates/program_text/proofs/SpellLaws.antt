-- Points and their texts stand for each other one by one, and the first line that breaks is the one that is named.
use Rattle.std.proofs.Common.{◌≡◌, ◌≢◌, ℕ, ◌+◌, ◌≤◌, Bool, true, false, List, [], ◌∷◌, ◌++◌, map, Option, Some, None, Ok, Err, if◌then◌else◌, refl, sym, ap, subst, ◌∙◌, arith}
use Rattle.std.specs.Prelude.{ℤ, codes, All}
use Rattle.std.specs.Fmt.{signed_decimal}
use Rattle.std.specs.List.{common_prefix_len}
use Rattle.std.specs.Str.{bytes_eq}
use Rattle.std.proofs.lemmas.Bool.{cond-false, cond-true, true≢false}
use Rattle.std.proofs.lemmas.List.{append-nil}
use Rattle.std.proofs.lemmas.List.Elements.{All-head, All-tail}
use Rattle.texts.specs.Lines.{lines_of}
use Rattle.texts.specs.Numbers.{whole_in}
use Rattle.texts.proofs.WholeLaws.{whole_spells}
use Rattle.program_text.specs.PointText.{IsWhole, SpellsPoint, lines_in_common, point_lines, point_text, spelled_point, values_among}
use Rattle.program_text.specs.declared.fault.PointFault.{PointFault}
use Rattle.program_text.specs.declared.fault.PointFault.TheVariants.{Form}
use Rattle.program_text.proofs.PointLaws.{common-none, common-other, end, equal, lines_of-point, spelled-theirs, value_is_no_end, value_is_no_other, values_among-end, values_among-front, values_among-value, values_among-wholes}
use Rattle.program_text.proofs.ReadLaws.{equal_texts}

-- ---- what is read

reads-by : (text : List ℕ) (theirs values : List ℤ) (fault : PointFault) (is : Bool) → bytes_eq text (point_text theirs) ≡ is → All IsWhole theirs → (if is then Ok theirs else Err fault) ≡ Ok values → SpellsPoint text values
reads-by text theirs values fault false same wholes read = absurd (cc)
reads-by text theirs values fault true same wholes read =
    let named : theirs ≡ values = cc in
    subst (SpellsPoint text) named (record { written = equal_texts text (point_text theirs) same; wholes = wholes })

-- what is read from a text has this text
pub reads_what_is_spelled : (text : List ℕ) (values : List ℤ) → spelled_point text ≡ Ok values → SpellsPoint text values
unfolding spelled_point
reads_what_is_spelled text values read =
    reads-by text (values_among (lines_of text)) values (Form (lines_in_common text (values_among (lines_of text)) + 1)) (bytes_eq text (point_text (values_among (lines_of text)))) refl (values_among-wholes (lines_of text)) read

-- the lines of the text of some values name them
named_in_their_text : (values : List ℤ) → All IsWhole values → values_among (lines_of (point_text values)) ≡ values
named_in_their_text values wholes =
    ap values_among (lines_of-point values wholes) ∙ values_among-front values (end ∷ []) wholes ∙ ap (λ more. values ++ more) (values_among-end []) ∙ append-nil values

-- the text of some values is read as them
pub written_is_read : (values : List ℤ) → All IsWhole values → spelled_point (point_text values) ≡ Ok values
written_is_read values wholes =
    let named = named_in_their_text values wholes in
    spelled-theirs (point_text values) (ap point_text (sym named)) ∙ ap (λ (values : List ℤ). Ok values) named

pub spelled_is_read : (text : List ℕ) (values : List ℤ) → SpellsPoint text values → spelled_point text ≡ Ok values
spelled_is_read text values spells = ap spelled_point spells.written ∙ written_is_read values spells.wholes

-- ---- what is refused

names-by : (theirs : List ℤ) (m n : ℕ) (is : Bool) → (if is then Ok theirs else Err (Form m)) ≡ Err (Form n) → m ≡ n
names-by theirs m n true refused = absurd (cc)
names-by theirs m n false refused = cc

-- the line that is named stands behind those in common with the text of what the lines name
pub names_the_next : (text : List ℕ) (n : ℕ) → spelled_point text ≡ Err (Form n) → lines_in_common text (values_among (lines_of text)) + 1 ≡ n
unfolding spelled_point
names_the_next text n refused = names-by (values_among (lines_of text)) (lines_in_common text (values_among (lines_of text)) + 1) n (bytes_eq text (point_text (values_among (lines_of text)))) refused

-- one line more is at most one line more in common
one_line_more-by : (is : Bool) (n : ℕ) → (if is then 1 + n else 0) ≤ 1 + n
one_line_more-by true n = omega arith
one_line_more-by false n = omega arith

one_line_more : (line other : List ℕ) (lines others : List (List ℕ)) → common_prefix_len bytes_eq (line ∷ lines) (other ∷ others) ≤ 1 + common_prefix_len bytes_eq lines others
one_line_more line other lines others = one_line_more-by (bytes_eq line other) (common_prefix_len bytes_eq lines others)

-- the lines of values and the end
abbrev pub back : List ℤ → List (List ℕ)
back values = map signed_decimal values ++ end ∷ []

-- where the first line is `end`
most-end : (lines : List (List ℕ)) (values : List ℤ) → All IsWhole values → common_prefix_len bytes_eq (end ∷ lines) (back values) ≤ 1
most-end lines [] wholes = (let one = one_line_more end end lines [] in let none = common-none lines in omega arith)
most-end lines (z ∷ values) wholes = let none = common-other end (signed_decimal z) lines (back values) (value_is_no_end z (All-head IsWhole z values wholes)) in omega arith

-- where it is a value's, and of the lines behind it the most are in common with what they name
most-value : (line : List ℕ) (lines : List (List ℕ)) (values more : List ℤ) → end ≢ line → All IsWhole values →
    ((values : List ℤ) → All IsWhole values → common_prefix_len bytes_eq lines (back values) ≤ common_prefix_len bytes_eq lines (back more)) →
    common_prefix_len bytes_eq (line ∷ lines) (back values) ≤ 1 + common_prefix_len bytes_eq lines (back more)
most-value line lines [] more other wholes most = let none = common-other line end lines [] (λ same. other (sym same)) in omega arith
most-value line lines (z ∷ values) more other wholes most =
    let one = one_line_more line (signed_decimal z) lines (back values) in let rest = most values (All-tail IsWhole z values wholes) in omega arith

-- where it is another
most-other : (line : List ℕ) (lines : List (List ℕ)) (values : List ℤ) → end ≢ line → whole_in line ≡ None → All IsWhole values → common_prefix_len bytes_eq (line ∷ lines) (back values) ≤ 0
most-other line lines [] other none wholes = let zero_lines = common-other line end lines [] (λ same. other (sym same)) in omega arith
most-other line lines (z ∷ values) other none wholes =
    let zero_lines = common-other line (signed_decimal z) lines (back values) (value_is_no_other z line (All-head IsWhole z values wholes) none) in omega arith

-- the same line first
same_first : (line : List ℕ) (lines others : List (List ℕ)) → common_prefix_len bytes_eq (line ∷ lines) (line ∷ others) ≡ 1 + common_prefix_len bytes_eq lines others
same_first line lines others = cond-true (bytes_eq line line) _ _ (equal line line refl)

not_end : (line : List ℕ) → bytes_eq end line ≡ false → end ≢ line
not_end line is same = true≢false (sym (equal end line same) ∙ is)

most-by : (line : List ℕ) (lines : List (List ℕ)) (values : List ℤ) (is_end : Bool) (whole : Option ℤ) → bytes_eq end line ≡ is_end → whole_in line ≡ whole → All IsWhole values →
    ((values : List ℤ) → All IsWhole values → common_prefix_len bytes_eq lines (back values) ≤ common_prefix_len bytes_eq lines (back (values_among lines))) →
    common_prefix_len bytes_eq (line ∷ lines) (back values) ≤ common_prefix_len bytes_eq (line ∷ lines) (back (values_among (line ∷ lines)))
most-by line lines values true whole is read wholes most =
    let P : List ℕ → Type 0 = λ line. common_prefix_len bytes_eq (line ∷ lines) (back values) ≤ common_prefix_len bytes_eq (line ∷ lines) (back (values_among (line ∷ lines))) in
    let theirs = ap (λ values. common_prefix_len bytes_eq (end ∷ lines) (back values)) (values_among-end lines) ∙ same_first end lines [] in
    let few = most-end lines values wholes in
    let here : P end = omega arith in
    subst P (equal_texts end line is) here
most-by line lines values false (Some z) is read wholes most =
    let other : end ≢ line = not_end line is in
    let written : line ≡ signed_decimal z = (whole_spells line z read).written in
    let theirs = ap (λ values. common_prefix_len bytes_eq (line ∷ lines) (back values)) (values_among-value line z lines other read)
    ∙ ap (λ first. common_prefix_len bytes_eq (line ∷ lines) (first ∷ back (values_among lines))) (sym written) ∙ same_first line lines (back (values_among lines)) in
    let few = most-value line lines values (values_among lines) other wholes most in
    omega arith
most-by line lines values false None is read wholes most =
    let other : end ≢ line = not_end line is in
    let few = most-other line lines values other read wholes in
    omega arith

-- of no text of values more lines are in common than of that of what the lines name
most_behind : (lines : List (List ℕ)) (values : List ℤ) → All IsWhole values → common_prefix_len bytes_eq lines (back values) ≤ common_prefix_len bytes_eq lines (back (values_among lines))
most_behind [] values wholes = omega arith
most_behind (line ∷ lines) values wholes = most-by line lines values (bytes_eq end line) (whole_in line) refl refl wholes (most_behind lines)

most-first : (line : List ℕ) (lines : List (List ℕ)) (values : List ℤ) (is : Bool) → bytes_eq line (codes "ctm-point 1") ≡ is → All IsWhole values →
    common_prefix_len bytes_eq (line ∷ lines) (point_lines values) ≤ common_prefix_len bytes_eq (line ∷ lines) (point_lines (values_among (line ∷ lines)))
most-first line lines values false is wholes =
    let none = cond-false (bytes_eq line (codes "ctm-point 1")) (1 + common_prefix_len bytes_eq lines (back values)) 0 is in omega arith
most-first line lines values true is wholes =
    let P : List ℕ → Type 0 = λ line. common_prefix_len bytes_eq (line ∷ lines) (point_lines values) ≤ common_prefix_len bytes_eq (line ∷ lines) (point_lines (values_among (line ∷ lines))) in
    let own = same_first (codes "ctm-point 1") lines (back values) in
    let theirs = ap (λ values. common_prefix_len bytes_eq (codes "ctm-point 1" ∷ lines) (point_lines values)) (values_among-front [] lines (λ k d within. absurd (omega arith))) ∙ same_first (codes "ctm-point 1") lines (back (values_among lines)) in
    let few = most_behind lines values wholes in
    let here : P (codes "ctm-point 1") = omega arith in
    subst P (sym (equal_texts line (codes "ctm-point 1") is)) here

pub most_in_common : (lines : List (List ℕ)) (values : List ℤ) → All IsWhole values → common_prefix_len bytes_eq lines (point_lines values) ≤ common_prefix_len bytes_eq lines (point_lines (values_among lines))
most_in_common [] values wholes = omega arith
most_in_common (line ∷ lines) values wholes = most-first line lines values (bytes_eq line (codes "ctm-point 1")) refl wholes
