-- Bits of 0 and 1 with the fixed bits at step 0 meet the rule rows exactly where they are those of an admissible plan.
use Rattle.std.proofs.Common.{◌≡◌, ℕ, ◌<◌, ◌≤◌, List, [], ◌∷◌, length, get_or, refl, ap, ◌∙◌, sym, subst, arith}
use Rattle.std.specs.Prelude.{◌↔◌, ℤ, pos, ◌+ℤ◌, ◌*ℤ◌, All}
use Rattle.std.proofs.lemmas.Int.{ints}
use Rattle.listed.specs.Below.{join_below}
use Rattle.ct_base.specs.Access.{no_signal, signal_of}
use Rattle.ct_base.specs.Validity.{IsSignal}
use Rattle.ct_base.specs.declared.net.Net.{Net}
use Rattle.ct_base.specs.declared.plan.Letter.{Letter}
use Rattle.ct_base.specs.declared.plan.Letter.TheVariants.{Green}
use Rattle.ct_base.specs.declared.plan.Plan.{Plan}
use Rattle.traffic_model.specs.Runs.{IsAdmissible}
use Rattle.traffic_model.proofs.LetterLaws.{letters_at-signal}
use Rattle.program_model.specs.Columns.{Bit, Column}
use Rattle.program_model.specs.Existence.{IsColumn, IsLetterOf}
use Rattle.program_model.specs.Rows.{AllMeet, Compares, SumRow, sum_at, terms_at}
use Rattle.program_model.specs.RuleRows.{rule_rows, rule_rows_at}
use Rattle.program_model.specs.Values.{is_letter, one_where, value_of}
use Rattle.program_model.proofs.ColumnLaws.{Each}
use Rattle.program_model.proofs.LetterSums.{is_letter-same}
use Rattle.program_model.proofs.RowColumns.{RowNames, rule_rows_name}
use Rattle.program_model.proofs.RuleLaws.{bit, rules_are_met}
use Rattle.program_model.proofs.Segments.{letter_in}
use Rattle.program_model.proofs.SumLaws.{AllMeet-join_below}
use Rattle.program_model.proofs.WordSegments.{KeepsRules, admissible_keeps}
use Rattle.rule_breaks.specs.Bits.{AreBitsOfPlan, AreOffOrOn, BeginAsFixed, rule_rows_within}
use Rattle.rule_breaks.proofs.MetRows.{bit-itself, holds_where, meets_part, met_keeps}
use Rattle.rule_breaks.proofs.ShownWords.{ShownWord, ShownWords, shown_words, word_of_rows}
use Rattle.rule_breaks.proofs.WindowLaws.{keeps_admissible}

-- ---- values that are the same where rows look

terms_same : (value other : Column → ℤ) (P : Column → Type 0) (terms : List (Column × ℤ)) → ((c : Column) → P c → value c ≡ other c) → Each (λ (term : Column × ℤ). P term.0) terms → terms_at value terms ≡ terms_at other terms
terms_same value other P [] same names = refl
terms_same value other P (term ∷ terms) same names =
    ap (λ (x : ℤ). term.1 *ℤ x +ℤ terms_at value terms) (same term.0 names.0) ∙ ap (λ (x : ℤ). term.1 *ℤ other term.0 +ℤ x) (terms_same value other P terms same names.1)

rows_same : (value other : Column → ℤ) (P : Column → Type 0) (rows : List (SumRow Column)) → ((c : Column) → P c → value c ≡ other c) →
    Each (λ (row : SumRow Column). Each (λ (term : Column × ℤ). P term.0) row.sum.terms) rows → AllMeet value rows → AllMeet other rows
rows_same value other P [] same names met = tt
rows_same value other P (row ∷ rows) same names met =
    let sums : sum_at value row.sum ≡ sum_at other row.sum = ap (λ (x : ℤ). row.sum.constant +ℤ x) (terms_same value other P row.sum.terms same names.0) in
    (subst (λ (x : ℤ). Compares row.equal x row.rhs) sums met.0, rows_same value other P rows same names.1 met.1)

-- the bits of some words, and else the values as they are
abbrev mixed : (Column → ℤ) → List (List Letter) → Column → ℤ
mixed value words (Bit t s letter) = pos (bit letter (letter_in (get_or words s []) t))
mixed value words c = value c

-- values that count the letters of words
abbrev Count : Net → ℕ → (Column → ℤ) → List (List Letter) → Type 0
Count net steps value words =
    (t s : ℕ) (letter : Letter) → t < steps → s < length net.signals → IsLetterOf (signal_of net.signals s) letter → value (Bit t s letter) ≡ pos (bit letter (letter_in (get_or words s []) t))

-- the network with another horizon
abbrev within : Net → ℕ → Net
within net steps = record net { steps = steps }

mixed_is : (net : Net) (steps : ℕ) (value : Column → ℤ) (words : List (List Letter)) → Count net steps value words → (c : Column) → IsColumn (within net steps) c → value c ≡ mixed value words c
mixed_is net steps value words count (Bit t s letter) is = count t s letter is.0 is.1 is.2
mixed_is net steps value words count _ is = refl

names_within : (net : Net) (steps : ℕ) → Each (RowNames (within net steps)) (rule_rows_within net steps)
unfolding rule_rows
names_within net steps = rule_rows_name (within net steps)

-- rows are met by the values where they are met by the bits of the words that they count
mixed_meets : (net : Net) (steps : ℕ) (value : Column → ℤ) (words : List (List Letter)) → Count net steps value words →
    AllMeet value (rule_rows_within net steps) → AllMeet (mixed value words) (rule_rows_within net steps)
mixed_meets net steps value words count met =
    rows_same value (mixed value words) (IsColumn (within net steps)) (rule_rows_within net steps) (mixed_is net steps value words count) (names_within net steps) met

mixed_met : (net : Net) (steps : ℕ) (value : Column → ℤ) (words : List (List Letter)) → Count net steps value words →
    AllMeet (mixed value words) (rule_rows_within net steps) → AllMeet value (rule_rows_within net steps)
mixed_met net steps value words count met =
    rows_same (mixed value words) value (IsColumn (within net steps)) (rule_rows_within net steps) (λ c is. sym (mixed_is net steps value words count c is)) (names_within net steps) met

-- ---- from rows to a plan

-- the rows of a signal at a step
rows_of : (net : Net) (steps : ℕ) (value : Column → ℤ) (s t : ℕ) → AllMeet value (rule_rows_within net steps) → s < length net.signals → t < steps → AllMeet value (rule_rows_at (signal_of net.signals s) steps s t)
rows_of net steps value s t met inside before =
    meets_part value steps t (rule_rows_at (signal_of net.signals s) steps s)
    (meets_part value (length net.signals) s (λ r. join_below steps (rule_rows_at (signal_of net.signals r) steps r)) met inside) before

-- the first letter of a word that is shown is the green of the starting phase
begins_right : (net : Net) (steps : ℕ) (value : Column → ℤ) (s : ℕ) (word : List Letter) → BeginAsFixed net value → s < length net.signals → 1 ≤ steps → ShownWord value (signal_of net.signals s) s steps word →
    letter_in word 0 ≡ Green (signal_of net.signals s).start
begins_right net steps value s word fixed inside some shown =
    let first : Letter = letter_in word 0 in
    let shows = shown.shows 0 (omega (arith, some)) in
    let start : Letter = Green (signal_of net.signals s).start in
    let on : pos (bit first first) ≡ pos (one_where (is_letter first start)) = sym (shows.bits first shows.of) ∙ fixed s first inside shows.of in
    is_letter-same first start (holds_where (is_letter first start) (omega (arith, ints, on, bit-itself first)))

-- and the word is admissible
word_admissible : (net : Net) (steps : ℕ) (value : Column → ℤ) (s : ℕ) (words : List (List Letter)) → IsSignal (signal_of net.signals s) → BeginAsFixed net value → 1 ≤ steps →
    s < length net.signals → Count net steps value words → ShownWord value (signal_of net.signals s) s steps (get_or words s []) → AllMeet (mixed value words) (rule_rows_within net steps) →
    IsAdmissible (signal_of net.signals s) (get_or words s [])
word_admissible net steps value s words valid fixed some inside count shown met =
    let word : List Letter = get_or words s [] in
    let keeps : KeepsRules (signal_of net.signals s) steps (letter_in word) =
    met_keeps (mixed value words) (signal_of net.signals s) s steps (letter_in word)
    (record { bits = λ t before letter. refl; of = λ t before. (shown.shows t before).of; rows = λ t before. rows_of net steps (mixed value words) s t met inside before }) in
    keeps_admissible (signal_of net.signals s) word valid (subst (λ (n : ℕ). KeepsRules (signal_of net.signals s) n (letter_in word)) (sym shown.long) keeps)
    (begins_right net steps value s word fixed inside some shown)

-- a bit of the words of a plan
bit_of_plan : (net : Net) (plan : Plan) (t s : ℕ) (letter : Letter) → s < length plan.words → pos (value_of net plan.words (Bit t s letter)) ≡ pos (bit letter (letter_in (get_or plan.words s []) t))
bit_of_plan net plan t s letter inside = ap (λ (shown : Letter). pos (bit letter shown)) (letters_at-signal plan.words t s inside)

pub plan_of_rows : (net : Net) (steps : ℕ) (value : Column → ℤ) → All IsSignal net.signals → 1 ≤ steps → AreOffOrOn net steps value → BeginAsFixed net value →
    AllMeet value (rule_rows_within net steps) → (plan : Plan) × AreBitsOfPlan net steps value plan
plan_of_rows net steps value valid some small fixed met =
    let found : (words : List (List Letter)) × ShownWords net steps value (length net.signals) words =
    shown_words net steps value (length net.signals) (λ s inside. word_of_rows net steps value s small inside (λ t before. rows_of net steps value s t met inside before)) in
    let words : List (List Letter) = found.0 in
    let plan : Plan = record { words = words } in
    let shown : ShownWords net steps value (length net.signals) words = found.1 in
    let count : Count net steps value words = λ t s letter before inside of. ((shown.each s inside).shows t before).bits letter of in
    let long : length words ≡ length net.signals = shown.one_per_signal in (
      plan,
      record {
        admissible = record {
          words = record { one_per_signal = long; letters = λ s inside. (shown.each s (omega (arith, inside, long))).long };
          each = λ s inside.
              let there : s < length net.signals = omega (arith, inside, long) in
              word_admissible net steps value s words (valid s no_signal there) fixed some there count (shown.each s there) (mixed_meets net steps value words count met);
        };
        bits = λ t s letter before inside of. count t s letter before inside of ∙ sym (bit_of_plan net plan t s letter (omega (arith, inside, long)));
      },
    )

-- ---- from a plan to rows

pub rows_of_plan : (net : Net) (steps : ℕ) (value : Column → ℤ) (plan : Plan) → All IsSignal net.signals → AreBitsOfPlan net steps value plan → AllMeet value (rule_rows_within net steps)
rows_of_plan net steps value plan valid are =
    let words : List (List Letter) = plan.words in
    let long : length words ≡ length net.signals = are.admissible.words.one_per_signal in
    let count : Count net steps value words = λ t s letter before inside of. are.bits t s letter before inside of ∙ bit_of_plan net plan t s letter (omega (arith, inside, long)) in
    mixed_met net steps value words count
    (AllMeet-join_below (mixed value words) (length net.signals) _
    (λ s inside. AllMeet-join_below (mixed value words) steps (rule_rows_at (signal_of net.signals s) steps s)
    (λ t before.
    let there : s < length words = omega (arith, inside, long) in
    let keeps : KeepsRules (signal_of net.signals s) (length (get_or words s [])) (letter_in (get_or words s [])) =
    admissible_keeps (signal_of net.signals s) (get_or words s []) (valid s no_signal inside) (are.admissible.each s there) in
    rules_are_met (signal_of net.signals s) (mixed value words) s steps (letter_in (get_or words s [])) (λ u early letter. refl)
    (subst (λ (n : ℕ). KeepsRules (signal_of net.signals s) n (letter_in (get_or words s []))) (are.admissible.words.letters s there) keeps) t before)))

-- both
pub rows_where_plan : (net : Net) (steps : ℕ) (value : Column → ℤ) → All IsSignal net.signals → 1 ≤ steps → AreOffOrOn net steps value → BeginAsFixed net value →
    AllMeet value (rule_rows_within net steps) ↔ ((plan : Plan) × AreBitsOfPlan net steps value plan)
rows_where_plan net steps value valid some small fixed =
    (plan_of_rows net steps value valid some small fixed, λ (plan, are). rows_of_plan net steps value plan valid are)
