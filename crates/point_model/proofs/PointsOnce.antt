-- An integer point is the point of an admissible plan, of which its bits are the letters, and of no other plan.
use Rattle.std.proofs.Common.{◌≡◌, ◌⊎◌, inl, inr, ℕ, zero, suc, ◌<◌, ◌≤◌, Bool, true, false, List, [], ◌∷◌, ◌++◌, length, get_or, map, take, refl, ap, subst, ◌∙◌, sym, arith}
use Rattle.std.specs.Prelude.{ℤ, pos, ◌≤ℤ◌, unsigned_abs}
use Rattle.std.proofs.lemmas.Bool.{cases_eq}
use Rattle.std.proofs.lemmas.Int.{ints}
use Rattle.std.proofs.lemmas.List.{ext_get_or, get_or-map, get_or-take, length-map, map-append}
use Rattle.ct_base.specs.Access.{signal_of}
use Rattle.ct_base.specs.Validity.{IsValid}
use Rattle.ct_base.specs.declared.net.Net.{Net}
use Rattle.ct_base.specs.declared.plan.Letter.{Letter}
use Rattle.ct_base.specs.declared.plan.Letter.TheVariants.{Clear}
use Rattle.ct_base.specs.declared.plan.Plan.{Plan}
use Rattle.sparse_program.specs.Program.{Holds, col_of, no_col, no_row}
use Rattle.traffic_model.specs.Runs.{IsAdmissiblePlan, word_of}
use Rattle.traffic_model.proofs.LetterLaws.{letters_at-signal}
use Rattle.program_model.specs.Columns.{Bit, Column, Units, columns, plan_columns}
use Rattle.program_model.specs.Existence.{IsColumn, IsLetterOf}
use Rattle.program_model.specs.FlowRows.{flow_rows}
use Rattle.program_model.specs.Numbers.{number_of, plan_count}
use Rattle.program_model.specs.Points.{IsIntegerPoint, col, point_of, program_of, rows, value_at}
use Rattle.program_model.specs.RuleRows.{rule_rows}
use Rattle.program_model.specs.Rows.{AllMeet, SumRow}
use Rattle.program_model.specs.Sparse.{sparse}
use Rattle.program_model.specs.Values.{least_of, most_of, one_where}
use Rattle.program_model.proofs.ColumnLaws.{Each-at, columns_are}
use Rattle.program_model.proofs.LetterSums.{is_letter-itself, is_letter-same}
use Rattle.program_model.proofs.NumberLaws.{bit_stands, length-plan_columns}
use Rattle.program_model.proofs.PlaceLaws.{column_stands}
use Rattle.program_model.proofs.PlanBits.{word_keeps}
use Rattle.program_model.proofs.PlanFloors.{counted}
use Rattle.program_model.proofs.PointLaws.{points_are_integer, value_at-number}
use Rattle.program_model.proofs.RuleLaws.{bit}
use Rattle.program_model.proofs.Segments.{letter_in}
use Rattle.program_model.proofs.SparseLaws.{holds-sparse}
use Rattle.program_model.proofs.SumLaws.{AllMeet-parts}
use Rattle.rule_breaks.specs.Bits.{AreBitsOfPlan, AreOffOrOn, BeginAsFixed, rule_rows_within}
use Rattle.rule_breaks.proofs.PlanRows.{plan_of_rows}
use Rattle.point_model.specs.PlansOfPoints.{IsPlanOf, plan_bits}
use Rattle.point_model.proofs.PlacesOnce.{place_once}
use Rattle.point_model.proofs.Solutions.{IsSolution}
use Rattle.point_model.proofs.StepsOnce.{columns_once}

-- ---- what a point says of columns

-- what stands for a column that is not there
abbrev no_column : Column
no_column = Units 0 0

-- the value that a point has for a column
abbrev at_column : Net → List ℤ → Column → ℤ
at_column net point c = value_at point (number_of net c)

-- as many columns
program_cols : (net : Net) → length (program_of net).columns ≡ length (columns net)
unfolding program_of
program_cols net = length-map (columns net) (col net)

-- the column of the program at a place
program_col : (net : Net) (j : ℕ) → j < length (columns net) → col_of (program_of net).columns j ≡ col net (get_or (columns net) j no_column)
unfolding program_of
program_col net j inside = get_or-map (col net) (columns net) j no_column no_col inside

-- rows that hold at a point are met by what it says of columns
rows_met : (net : Net) (point : List ℤ) (some : List (SumRow Column)) → ((i : ℕ) → i < length some → Holds (get_or (map (sparse (number_of net)) some) i no_row) (value_at point)) →
    AllMeet (at_column net point) some
rows_met net point [] hold = tt
rows_met net point (row ∷ some) hold =
    ((holds-sparse (value_at point) (number_of net) row).0 (hold 0 (omega arith)), rows_met net point some (λ i inside. hold (suc i) (omega (arith, inside))))

all_met : (net : Net) (point : List ℤ) → IsIntegerPoint (program_of net) point → AllMeet (at_column net point) (rule_rows net) × AllMeet (at_column net point) (flow_rows net)
unfolding program_of
all_met net point integer =
    AllMeet-parts (at_column net point) (rule_rows net) (flow_rows net)
    (rows_met net point (rows net) (λ i inside. integer.rows i (omega (arith, inside, length-map (rows net) (sparse (number_of net))))))

-- within the bounds of its column
within : (net : Net) (point : List ℤ) (c : Column) → IsIntegerPoint (program_of net) point → IsColumn net c →
    (pos (least_of net c) ≤ℤ at_column net point c) × (at_column net point c ≤ℤ pos (most_of net c))
within net point c integer is =
    let stands = column_stands net c no_column is in
    let there : number_of net c < length (program_of net).columns = omega (arith, stands.0, program_cols net) in
    let column : col_of (program_of net).columns (number_of net c) ≡ col net c = program_col net (number_of net c) stands.0 ∙ ap (col net) stands.1 in (
      subst (λ bounds. bounds.low ≤ℤ at_column net point c) column (integer.low (number_of net c) there),
      subst (λ bounds. at_column net point c ≤ℤ bounds.high) column (integer.high (number_of net c) there),
    )

-- so it is a solution
solution : (net : Net) (point : List ℤ) → IsIntegerPoint (program_of net) point → IsSolution net (at_column net point)
solution net point integer = record {
  low = λ c is. (within net point c integer is).0;
  high = λ c is. (within net point c integer is).1;
  meets = (all_met net point integer).1;
}

-- ---- its bits

-- two points have the same bits
abbrev SameBits : Net → List ℤ → List ℤ → Type 0
SameBits net point other = (t s : ℕ) (letter : Letter) → IsColumn net (Bit t s letter) → at_column net point (Bit t s letter) ≡ at_column net other (Bit t s letter)

-- so they are one point
bits_decide : (net : Net) (point other : List ℤ) → IsValid net → IsIntegerPoint (program_of net) point → IsIntegerPoint (program_of net) other → SameBits net point other → point ≡ other
bits_decide net point other valid integer too bits =
    ext_get_or (pos 0) point other (integer.one_per_column ∙ sym too.one_per_column) (λ j inside.
    let there : j < length (columns net) = omega (arith, inside, integer.one_per_column, program_cols net) in
    let c : Column = get_or (columns net) j no_column in
    let at : number_of net c ≡ j = place_once net j no_column there in
    let same : at_column net point c ≡ at_column net other c =
    columns_once net (at_column net point) (at_column net other) c
    (record { valid = valid; one = solution net point integer; two = solution net other too; bits = bits })
    (Each-at (IsColumn net) (columns net) j no_column (columns_are net) there) in
    ap (value_at point) (sym at) ∙ same ∙ ap (value_at other) at)

-- a test counts at most one
one_at_most : (test : Bool) → one_where test ≤ 1
one_at_most true = omega arith
one_at_most false = omega arith

-- a bit is at most one
bit_at_most : (net : Net) (t s : ℕ) (letter : Letter) → most_of net (Bit t s letter) ≤ 1
bit_at_most net zero s letter = one_at_most _
bit_at_most net (suc t) s letter = omega arith

-- a whole number from 0 to 1
off_or_on : (z : ℤ) (low high : ℕ) → pos low ≤ℤ z → z ≤ℤ pos high → high ≤ 1 → (z ≡ pos 0) ⊎ (z ≡ pos 1)
off_or_on z low high above below small =
    elim (cases_eq (unsigned_abs z) 0) [ inl off ↦ inl (omega (arith, ints, above, off)) | inr on ↦ inr (omega (arith, ints, above, below, small, on)) ]

-- the plan whose letters the bits of a point are
plan_of_bits : (net : Net) (point : List ℤ) → IsValid net → IsIntegerPoint (program_of net) point → (plan : Plan) × AreBitsOfPlan net net.steps (at_column net point) plan
unfolding rule_rows
plan_of_bits net point valid integer =
    let small : AreOffOrOn net net.steps (at_column net point) =
    λ t s letter before inside of.
    let bounds = within net point (Bit t s letter) integer (before, inside, of) in
    off_or_on (at_column net point (Bit t s letter)) (least_of net (Bit t s letter)) (most_of net (Bit t s letter)) bounds.0 bounds.1 (bit_at_most net t s letter) in
    let fixed : BeginAsFixed net (at_column net point) =
    λ s letter inside of.
    let bounds = within net point (Bit 0 s letter) integer (omega (arith, valid.steps.0), inside, of) in
    omega (arith, ints, bounds.0, bounds.1) in
    let met : AllMeet (at_column net point) (rule_rows_within net net.steps) = (all_met net point integer).0 in
    plan_of_rows net net.steps (at_column net point) valid.each_signal valid.steps.0 small fixed met

-- each integer point is the point of a plan
pub plan_of_point : (net : Net) (point : List ℤ) → IsValid net → IsIntegerPoint (program_of net) point → (plan : Plan) × IsPlanOf net point plan
plan_of_point net point valid integer =
    let found : (plan : Plan) × AreBitsOfPlan net net.steps (at_column net point) plan = plan_of_bits net point valid integer in
    let plan : Plan = found.0 in
    let admissible : IsAdmissiblePlan net plan = found.1.admissible in
    let is : point ≡ point_of net plan.words =
    bits_decide net point (point_of net plan.words) valid integer (points_are_integer net plan valid admissible)
    (λ t s letter is. found.1.bits t s letter is.0 is.1 is.2 ∙ sym (value_at-number net plan.words (Bit t s letter) is)) in
    (plan, record { admissible = admissible; is = is })

-- ---- one plan

-- a test that counts one holds
one_holds : (test : Bool) → one_where test ≡ 1 → test ≡ true
one_holds true is = refl
one_holds false is = absurd (omega (arith, is))

-- a bit of a plan counts the letter of its word
bit_of_word : (net : Net) (plan : Plan) (t s : ℕ) (letter : Letter) → s < length plan.words → counted net plan.words (Bit t s letter) ≡ pos (bit letter (letter_in (word_of plan s) t))
bit_of_word net plan t s letter inside = ap (λ (shown : Letter). pos (bit letter shown)) (letters_at-signal plan.words t s inside)

-- two plans with one point show the same letter
same_letter : (net : Net) (plan other : Plan) (t s : ℕ) → IsValid net → IsAdmissiblePlan net plan → IsAdmissiblePlan net other → point_of net plan.words ≡ point_of net other.words →
    t < net.steps → s < length net.signals → letter_in (word_of plan s) t ≡ letter_in (word_of other s) t
same_letter net plan other t s valid admissible too same before inside =
    let letter : Letter = letter_in (word_of plan s) t in
    let of : IsLetterOf (signal_of net.signals s) letter = (word_keeps net plan s valid admissible inside).of t before in
    let is : IsColumn net (Bit t s letter) = (before, inside, of) in
    let bits : counted net plan.words (Bit t s letter) ≡ counted net other.words (Bit t s letter) =
    sym (value_at-number net plan.words (Bit t s letter) is) ∙ ap (λ (point : List ℤ). at_column net point (Bit t s letter)) same ∙ value_at-number net other.words (Bit t s letter) is in
    let shown : pos (bit letter letter) ≡ pos (bit letter (letter_in (word_of other s) t)) =
    sym (bit_of_word net plan t s letter (omega (arith, inside, admissible.words.one_per_signal))) ∙ bits ∙ bit_of_word net other t s letter (omega (arith, inside, too.words.one_per_signal)) in
    let one : bit letter letter ≡ 1 = ap one_where (is_letter-itself letter) in
    is_letter-same letter (letter_in (word_of other s) t) (one_holds _ (omega (arith, ints, shown, one)))

-- a plan is its words
plan_of_words : (words others : List (List Letter)) → words ≡ others → let one : Plan = record { words = words } in let two : Plan = record { words = others } in one ≡ two
plan_of_words words others same = ap (λ (all : List (List Letter)). let plan : Plan = record { words = all } in plan) same

-- so they are one plan
pub plans_once : (net : Net) (plan other : Plan) → IsValid net → IsAdmissiblePlan net plan → IsAdmissiblePlan net other → point_of net plan.words ≡ point_of net other.words → plan ≡ other
plans_once net plan other valid admissible too same =
    let words : plan.words ≡ other.words =
    ext_get_or [] plan.words other.words (admissible.words.one_per_signal ∙ sym too.words.one_per_signal) (λ s inside.
    let there : s < length other.words = omega (arith, inside, admissible.words.one_per_signal, too.words.one_per_signal) in
    ext_get_or (Clear 0) (word_of plan s) (word_of other s) (admissible.words.letters s inside ∙ sym (too.words.letters s there)) (λ t before.
    same_letter net plan other t s valid admissible too same (omega (arith, before, admissible.words.letters s inside)) (omega (arith, inside, admissible.words.one_per_signal)))) in
    plan_of_words plan.words other.words words

-- ---- the plan columns alone

-- what a point begins with decides its bits
bits_at_front : (net : Net) (point other : List ℤ) → take (plan_count net) point ≡ take (plan_count net) other → SameBits net point other
bits_at_front net point other same t s letter is =
    let j : ℕ = number_of net (Bit t s letter) in
    let stands = bit_stands net t s letter no_column is.0 is.1 is.2 in
    sym (get_or-take (plan_count net) point j (pos 0) stands.0) ∙ ap (λ (bits : List ℤ). get_or bits j (pos 0)) same ∙ get_or-take (plan_count net) other j (pos 0) stands.0

pub points_once : (net : Net) (point other : List ℤ) → IsValid net → IsIntegerPoint (program_of net) point → IsIntegerPoint (program_of net) other →
    take (plan_count net) point ≡ take (plan_count net) other → point ≡ other
points_once net point other valid integer too same = bits_decide net point other valid integer too (bits_at_front net point other same)

-- the front of a list of two parts
take_front : {X : Type 0} (xs ys : List X) (n : ℕ) → length xs ≡ n → take n (xs ++ ys) ≡ xs
take_front xs ys n is = rw (← is) (take_all xs ys)
  where
    take_all : {X : Type 0} (xs ys : List X) → take (length xs) (xs ++ ys) ≡ xs
    take_all [] ys = refl
    take_all (x ∷ xs) ys = ap (λ rest. x ∷ rest) (take_all xs ys)

-- the point of a plan begins with the bits of its letters
pub point_begins : (net : Net) (words : List (List Letter)) → take (plan_count net) (point_of net words) ≡ plan_bits net words
unfolding point_of columns
point_begins net words =
    ap (take (plan_count net)) (map-append (counted net words) (plan_columns net) _)
    ∙ take_front (map (counted net words) (plan_columns net)) _ (plan_count net) (length-map (plan_columns net) (counted net words) ∙ length-plan_columns net)

-- and an integer point that does is the point of that plan
pub bits_of_plan_decide : (net : Net) (point : List ℤ) (plan : Plan) → IsValid net → IsIntegerPoint (program_of net) point → IsAdmissiblePlan net plan →
    take (plan_count net) point ≡ plan_bits net plan.words → point ≡ point_of net plan.words
bits_of_plan_decide net point plan valid integer admissible begins =
    points_once net point (point_of net plan.words) valid integer (points_are_integer net plan valid admissible) (begins ∙ sym (point_begins net plan.words))
