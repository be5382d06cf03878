-- The plan that values show is the one whose bits they have.
use Rattle.std.proofs.Common.{◌≡◌, inl, inr, ℕ, ◌<◌, ◌≤◌, Bool, true, false, List, [], ◌∷◌, length, ◌++◌, map, filter, get_or, take, sum_by, refl, sym, ap, subst, ◌∙◌, arith}
use Rattle.std.specs.Prelude.{ℤ, pos}
use Rattle.std.specs.Ordering.{int_eq}
use Rattle.std.proofs.lemmas.Bool.{cases_Bool}
use Rattle.std.proofs.lemmas.List.{get_or-map, get_or-take, length-map, map-append}
use Rattle.std.proofs.lemmas.List.Sums.{sum_by-cons}
use Rattle.std.proofs.Math.Seq.{take-append_seam}
use Rattle.listed.specs.Below.{join_below, table_of}
use Rattle.listed.proofs.TableLaws.{fill_elements}
use Rattle.ct_base.specs.Access.{signal_of}
use Rattle.ct_base.specs.Validity.{IsValid}
use Rattle.ct_base.specs.declared.net.Net.{Net}
use Rattle.ct_base.specs.declared.plan.Letter.{Letter}
use Rattle.ct_base.specs.declared.plan.Letter.TheVariants.{Clear}
use Rattle.ct_base.specs.declared.plan.Plan.{Plan}
use Rattle.ct_base.specs.declared.signal.Signal.{Signal}
use Rattle.traffic_model.specs.Runs.{IsAdmissiblePlan, word_of}
use Rattle.program_model.specs.Columns.{Bit, Column, Units, columns, columns_of_cells, letters_of, plan_columns}
use Rattle.program_model.specs.Existence.{IsLetterOf}
use Rattle.program_model.specs.Numbers.{number_of, plan_count}
use Rattle.program_model.specs.Points.{point_of, value_at}
use Rattle.program_model.specs.Values.{is_letter, one_where}
use Rattle.program_model.proofs.ColumnLaws.{Each, letters_are}
use Rattle.program_model.proofs.LetterSums.{is_letter-same, one_is_shown}
use Rattle.program_model.proofs.NumberLaws.{bit_stands, length-plan_columns}
use Rattle.program_model.proofs.PlanBits.{bits_are, word_keeps}
use Rattle.program_model.proofs.PlanFloors.{counted}
use Rattle.program_model.proofs.PointLaws.{value_at-number}
use Rattle.program_model.proofs.Segments.{letter_in}
use Rattle.certificate_model.specs.Leaves.{bits_of}
use Rattle.point_model.specs.PlansOfPoints.{IsPlanOf}
use Rattle.point_decode.specs.Decoded.{letters_shown, plan_shown, word_shown}

-- ---- the letter of a step

-- the first letter that passes a test which one letter alone passes
first_that_passes : (signal : Signal) (test : Letter → Bool) (shown : Letter) (letters : List Letter) → Each (IsLetterOf signal) letters →
    ((letter : Letter) → IsLetterOf signal letter → test letter ≡ is_letter letter shown) → 1 ≤ sum_by (λ other. one_where (is_letter other shown)) letters →
    get_or (filter test letters) 0 (Clear 0) ≡ shown
first_that_passes signal test shown [] are same some = absurd (omega (arith, some))
first_that_passes signal test shown (other ∷ letters) are same some =
    elim (cases_Bool (is_letter other shown)) [
      | inl is ↦
          let passes : test other ≡ true = same other are.0 ∙ is in
          rw passes (is_letter-same other shown is)
      | inr differs ↦
          let fails : test other ≡ false = same other are.0 ∙ differs in
          let none : one_where (is_letter other shown) ≡ 0 = rw differs refl in
          rw fails (first_that_passes signal test shown letters are.1 same (omega (arith, some, none, sum_by-cons (λ other. one_where (is_letter other shown)) other letters)))
    ]

-- a bit is 1 where its test holds
one_bit : (holds : Bool) (value : ℤ) → value ≡ pos (one_where holds) → int_eq value (pos 1) ≡ holds
one_bit true value is = rw is refl
one_bit false value is = rw is refl

-- ---- values that have the bits of a plan

-- the value of each plan column is the bit of the plan's letter
pub record HasBits (net : Net) (point : List ℤ) (plan : Plan) : Type 0 where
  pub each : (t s : ℕ) (letter : Letter) → t < net.steps → s < length net.signals → IsLetterOf (signal_of net.signals s) letter →
      value_at point (number_of net (Bit t s letter)) ≡ counted net plan.words (Bit t s letter)

-- the letter that they show is the plan's
letter_is : (net : Net) (point : List ℤ) (plan : Plan) → IsValid net → IsAdmissiblePlan net plan → HasBits net point plan → (s t : ℕ) → s < length net.signals → t < net.steps →
    get_or (letters_shown net point s t) 0 (Clear 0) ≡ letter_in (word_of plan s) t
letter_is net point plan valid admissible has s t inside before =
    let signal : Signal = signal_of net.signals s in
    let shown : Letter = letter_in (word_of plan s) t in
    let of : IsLetterOf signal shown = (word_keeps net plan s valid admissible inside).of t before in
    first_that_passes signal _ shown (letters_of signal) (letters_are signal)
    (λ letter letter_of. one_bit (is_letter letter shown) _ (has.each t s letter before inside letter_of ∙ bits_are net plan s admissible inside t before letter))
    (omega (arith, one_is_shown signal shown of))

-- and so is the plan
pub plan_is_shown : (net : Net) (point : List ℤ) (plan : Plan) → IsValid net → IsAdmissiblePlan net plan → HasBits net point plan → plan_shown net point ≡ plan
unfolding plan_shown
plan_is_shown net point plan valid admissible has =
    let words : plan.words ≡ table_of (length net.signals) (word_shown net point) =
    fill_elements plan.words (length net.signals) (word_shown net point) [] admissible.words.one_per_signal
    (λ s inside. fill_elements (word_of plan s) net.steps (λ t. get_or (letters_shown net point s t) 0 (Clear 0)) (Clear 0)
    (admissible.words.letters s (omega (arith, inside, admissible.words.one_per_signal)))
    (λ t before. sym (letter_is net point plan valid admissible has s t inside before))) in
    ap (λ (words : List (List Letter)). record { words = words }) (sym words)

-- ---- where the bits are

-- the point of a plan has its bits
pub point_has_bits : (net : Net) (plan : Plan) → HasBits net (point_of net plan.words) plan
point_has_bits net plan = record { each = λ t s letter before inside of. value_at-number net plan.words (Bit t s letter) (before, inside, of) }

-- the first values are the bits of a plan
pub front_has_bits : (net : Net) (point : List ℤ) (plan : Plan) → take (plan_count net) point ≡ bits_of net plan.words → HasBits net point plan
front_has_bits net point plan is = record {
  each = λ t s letter before inside of.
      let there = bit_stands net t s letter (Units 0 0) before inside of in
      let number : ℕ = number_of net (Bit t s letter) in
      sym (get_or-take (plan_count net) point number (pos 0) there.0)
      ∙ ap (λ (values : List ℤ). get_or values number (pos 0)) is
      ∙ get_or-map (counted net plan.words) (plan_columns net) number (Units 0 0) (pos 0) (omega (arith, there.0, length-plan_columns net))
      ∙ ap (counted net plan.words) there.1;
}

-- the bits of a plan are the front of its point
bits_are_the_front : (net : Net) (plan : Plan) → take (plan_count net) (point_of net plan.words) ≡ bits_of net plan.words
unfolding point_of columns
bits_are_the_front net plan =
    let f : Column → ℤ = counted net plan.words in
    let rest : List Column = join_below net.steps (columns_of_cells net.cells) in
    let long : plan_count net ≡ length (map f (plan_columns net)) = sym (length-map (plan_columns net) f ∙ length-plan_columns net) in
    ap (λ (n : ℕ). take n (map f (plan_columns net ++ rest))) long
    ∙ ap (take (length (map f (plan_columns net)))) (map-append f (plan_columns net) rest)
    ∙ take-append_seam (map f (plan_columns net)) (map f rest)

-- and so of the list that is its point
pub point_begins_with_bits : (net : Net) (point : List ℤ) (plan : Plan) → IsPlanOf net point plan → take (plan_count net) point ≡ bits_of net plan.words
point_begins_with_bits net point plan of = ap (take (plan_count net)) of.is ∙ bits_are_the_front net plan

-- ---- the plan whose bits a point begins with

-- is the one that it shows
pub plan_of_bits_is_shown : (net : Net) (point : List ℤ) (plan : Plan) → IsValid net → IsAdmissiblePlan net plan → take (plan_count net) point ≡ bits_of net plan.words → plan ≡ plan_shown net point
plan_of_bits_is_shown net point plan valid admissible is = sym (plan_is_shown net point plan valid admissible (front_has_bits net point plan is))

-- and the one whose point it is
pub plan_of_bits_is_of : (net : Net) (point : List ℤ) (plan other : Plan) → IsValid net → IsAdmissiblePlan net plan → take (plan_count net) point ≡ bits_of net plan.words → IsPlanOf net point other → IsPlanOf net point plan
plan_of_bits_is_of net point plan other valid admissible is of =
    let same : other ≡ plan =
    plan_of_bits_is_shown net point other valid of.admissible (point_begins_with_bits net point other of) ∙ sym (plan_of_bits_is_shown net point plan valid admissible is) in
    subst (IsPlanOf net point) same of
