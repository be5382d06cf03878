-- Laws of points as texts: what the lines of a text name, and how many of them are those of the text of some values.
use Rattle.std.proofs.Common.{◌≡◌, ◌≢◌, ℕ, ◌+◌, Bool, true, false, List, [], ◌∷◌, ◌++◌, length, map, Option, Some, None, Ok, Err, refl, sym, ap, ◌∙◌, arith, zero-add}
use Rattle.std.specs.Prelude.{not, ℤ, codes, All, filter_map}
use Rattle.std.specs.Fmt.{signed_decimal}
use Rattle.std.specs.List.{before_first, common_prefix_len, cons_option}
use Rattle.std.specs.Str.{bytes_eq}
use Rattle.std.proofs.lemmas.Bool.{cond-false, cond-true, true≢false}
use Rattle.std.proofs.lemmas.List.{length-append, length-map}
use Rattle.std.proofs.lemmas.List.Elements.{All-append, All-cons, All-head, All-tail}
use Rattle.std.proofs.lemmas.List.Sums.{take_while-cons}
use Rattle.std.proofs.lemmas.Slice.Eq.{bytes_eq-Decides}
use Rattle.texts.specs.Lines.{Lacks, lines_of}
use Rattle.texts.specs.Numbers.{whole_in}
use Rattle.texts.proofs.LineLaws.{lines_of-written}
use Rattle.texts.proofs.NameLaws.{stands_not}
use Rattle.texts.proofs.WholeLaws.{signed_decimal_lacks, whole_decimal, whole_spells}
use Rattle.program_text.specs.PointText.{IsWhole, lines_in_common, point_lines, point_text, spelled_point, values_among}
use Rattle.program_text.specs.declared.fault.PointFault.TheVariants.{Form}

-- the line `end`
abbrev pub end : List ℕ
end = codes "end"

-- the first line, and a line for each of some values
abbrev pub front : List ℤ → List (List ℕ)
front values = codes "ctm-point 1" ∷ map signed_decimal values

-- ---- equal texts

pub equal : (a b : List ℕ) → a ≡ b → bytes_eq a b ≡ true
equal a b same = (bytes_eq-Decides a b).1 same

unequal_by : (a b : List ℕ) (is : Bool) → bytes_eq a b ≡ is → a ≢ b → bytes_eq a b ≡ false
unequal_by a b true is other = absurd (other ((bytes_eq-Decides a b).0 is))
unequal_by a b false is other = is

pub unequal : (a b : List ℕ) → a ≢ b → bytes_eq a b ≡ false
unequal a b other = unequal_by a b (bytes_eq a b) refl other

-- ---- a value's line

value_is_read : (z : ℤ) → IsWhole z → whole_in (signed_decimal z) ≡ Some z
value_is_read z small = whole_decimal z small

-- it is not the line `end`
pub value_is_no_end : (z : ℤ) → IsWhole z → end ≢ signed_decimal z
value_is_no_end z small same = let none : None ≡ Some z = ap whole_in same ∙ value_is_read z small in cc

-- it is no line that names no number
pub value_is_no_other : (z : ℤ) (line : List ℕ) → IsWhole z → whole_in line ≡ None → line ≢ signed_decimal z
value_is_no_other z line small none same = let both : None ≡ Some z = sym none ∙ ap whole_in same ∙ value_is_read z small in cc

value_lacks : (z : ℤ) → IsWhole z → Lacks 10 (signed_decimal z)
value_lacks z small = signed_decimal_lacks 10 z refl (λ same. absurd (omega arith)) (omega arith)

values_lack : (values : List ℤ) → All IsWhole values → All (Lacks 10) (map signed_decimal values)
values_lack [] wholes = λ k d within. absurd (omega arith)
values_lack (z ∷ values) wholes =
    All-cons (Lacks 10) (signed_decimal z) (map signed_decimal values) (value_lacks z (All-head IsWhole z values wholes)) (values_lack values (All-tail IsWhole z values wholes))

head_lacks : Lacks 10 (codes "ctm-point 1")
head_lacks = stands_not (λ x. not (bytes_eq (x ∷ []) (10 ∷ []))) 10 (codes "ctm-point 1") refl refl

end_lacks : Lacks 10 end
end_lacks = stands_not (λ x. not (bytes_eq (x ∷ []) (10 ∷ []))) 10 end refl refl

pub front_lacks : (values : List ℤ) → All IsWhole values → All (Lacks 10) (front values)
front_lacks values wholes = All-cons (Lacks 10) (codes "ctm-point 1") (map signed_decimal values) head_lacks (values_lack values wholes)

lines_lack : (values : List ℤ) → All IsWhole values → All (Lacks 10) (point_lines values)
lines_lack values wholes =
    All-append (Lacks 10) (front values) (end ∷ []) (front_lacks values wholes) (All-cons (Lacks 10) end [] end_lacks (λ k d within. absurd (omega arith)))

-- the lines of the text of some values
pub lines_of-point : (values : List ℤ) → All IsWhole values → lines_of (point_text values) ≡ point_lines values
unfolding point_text
lines_of-point values wholes = lines_of-written (point_lines values) (lines_lack values wholes)

-- ---- what lines name

-- nothing from the line `end` on
pub values_among-end : (lines : List (List ℕ)) → values_among (end ∷ lines) ≡ []
values_among-end lines = ap (filter_map whole_in) (take_while-cons (λ line. not (bytes_eq end line)) end lines)

-- a value, and what the lines behind it name
pub values_among-value : (line : List ℕ) (z : ℤ) (lines : List (List ℕ)) → end ≢ line → whole_in line ≡ Some z → values_among (line ∷ lines) ≡ z ∷ values_among lines
values_among-value line z lines other is =
    let inner : not (bytes_eq end line) ≡ true = ap not (unequal end line other) in
    ap (filter_map whole_in) (take_while-cons (λ line. not (bytes_eq end line)) line lines ∙ cond-true (not (bytes_eq end line)) _ _ inner)
    ∙ rw is refl

-- a line that names no value
pub values_among-other : (line : List ℕ) (lines : List (List ℕ)) → end ≢ line → whole_in line ≡ None → values_among (line ∷ lines) ≡ values_among lines
values_among-other line lines other is =
    let inner : not (bytes_eq end line) ≡ true = ap not (unequal end line other) in
    ap (filter_map whole_in) (take_while-cons (λ line. not (bytes_eq end line)) line lines ∙ cond-true (not (bytes_eq end line)) _ _ inner)
    ∙ rw is refl

values_among-values : (values : List ℤ) (more : List (List ℕ)) → All IsWhole values → values_among (map signed_decimal values ++ more) ≡ values ++ values_among more
values_among-values [] more wholes = refl
values_among-values (z ∷ values) more wholes =
    let small = All-head IsWhole z values wholes in
    values_among-value (signed_decimal z) z (map signed_decimal values ++ more) (value_is_no_end z small) (value_is_read z small)
    ∙ ap (λ values. z ∷ values) (values_among-values values more (All-tail IsWhole z values wholes))

pub values_among-front : (values : List ℤ) (more : List (List ℕ)) → All IsWhole values → values_among (front values ++ more) ≡ values ++ values_among more
values_among-front values more wholes =
    let other : end ≢ codes "ctm-point 1" = λ same. true≢false (sym (equal end (codes "ctm-point 1") same)) in
    values_among-other (codes "ctm-point 1") (map signed_decimal values ++ more) other refl ∙ values_among-values values more wholes

-- what lines name are whole numbers
one_more_whole : (line : List ℕ) (z : Option ℤ) (values : List ℤ) → whole_in line ≡ z → All IsWhole values → All IsWhole (cons_option z values)
one_more_whole line None values is wholes = wholes
one_more_whole line (Some z) values is wholes = All-cons IsWhole z values (whole_spells line z is).small wholes

all_whole : (lines : List (List ℕ)) → All IsWhole (filter_map whole_in lines)
all_whole [] = λ k d within. absurd (omega arith)
all_whole (line ∷ lines) = one_more_whole line (whole_in line) (filter_map whole_in lines) refl (all_whole lines)

pub values_among-wholes : (lines : List (List ℕ)) → All IsWhole (values_among lines)
values_among-wholes lines = all_whole (before_first (bytes_eq end) lines)

-- ---- lines in common

-- lines that are equal, and what stands behind them
pub common-same : (lines more other : List (List ℕ)) → common_prefix_len bytes_eq (lines ++ more) (lines ++ other) ≡ length lines + common_prefix_len bytes_eq more other
common-same [] more other = sym (zero-add _)
common-same (line ∷ lines) more other =
    cond-true (bytes_eq line line) _ _ (equal line line refl) ∙ ap (λ n. 1 + n) (common-same lines more other) ∙ omega arith

-- lines that differ
pub common-other : (line other : List ℕ) (lines others : List (List ℕ)) → line ≢ other → common_prefix_len bytes_eq (line ∷ lines) (other ∷ others) ≡ 0
common-other line other lines others differ = cond-false (bytes_eq line other) _ _ (unequal line other differ)

pub common-none : (lines : List (List ℕ)) → common_prefix_len bytes_eq lines [] ≡ 0
common-none [] = refl
common-none (line ∷ lines) = refl

pub common-all : (lines : List (List ℕ)) → common_prefix_len bytes_eq lines lines ≡ length lines
common-all [] = refl
common-all (line ∷ lines) = cond-true (bytes_eq line line) _ _ (equal line line refl) ∙ ap (λ n. 1 + n) (common-all lines) ∙ omega arith

-- the text of some values has all their lines
pub all_in_common : (values : List ℤ) → All IsWhole values → lines_in_common (point_text values) values ≡ length values + 2
all_in_common values wholes =
    ap (λ lines. common_prefix_len bytes_eq lines (point_lines values)) (lines_of-point values wholes) ∙ common-all (point_lines values)
    ∙ (let long = length-append (map signed_decimal values) (end ∷ []) in let values_long = length-map values signed_decimal in omega arith)

-- ---- what a text spells

-- the text of what its lines name spells that
pub spelled-theirs : (text : List ℕ) → text ≡ point_text (values_among (lines_of text)) → spelled_point text ≡ Ok (values_among (lines_of text))
unfolding spelled_point
spelled-theirs text same = cond-true (bytes_eq text (point_text (values_among (lines_of text)))) _ _ (equal text _ same)

-- another text is refused at the first line that is not in common
pub spelled-other : (text : List ℕ) → text ≢ point_text (values_among (lines_of text)) → spelled_point text ≡ Err (Form (lines_in_common text (values_among (lines_of text)) + 1))
unfolding spelled_point
spelled-other text other = cond-false (bytes_eq text (point_text (values_among (lines_of text)))) _ _ (unequal text _ other)
