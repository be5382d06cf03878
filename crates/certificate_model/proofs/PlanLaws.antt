-- A box that leaves one plan alone: each plan whose point lies in it shows the letters of that plan, and so has its delay.
use Rattle.std.proofs.Common.{◌≡◌, ℕ, ◌<◌, Bool, true, false, List, length, get_or, take, refl, ap, ◌∙◌, sym, arith, ext_get_or}
use Rattle.std.specs.Prelude.{ℤ, pos, ◌≤ℤ◌, ◌<ℤ◌}
use Rattle.std.proofs.lemmas.Int.{ints}
use Rattle.std.proofs.lemmas.List.{get_or-map, get_or-take}
use Rattle.ct_base.specs.Access.{signal_of}
use Rattle.ct_base.specs.Validity.{IsValid}
use Rattle.ct_base.specs.declared.net.Net.{Net}
use Rattle.ct_base.specs.declared.plan.Letter.{Letter}
use Rattle.ct_base.specs.declared.plan.Letter.TheVariants.{Clear}
use Rattle.ct_base.specs.declared.plan.Plan.{Plan}
use Rattle.sparse_program.specs.Box.{Ranges, high_of, low_of}
use Rattle.traffic_model.specs.Delay.{letters_at}
use Rattle.traffic_model.specs.Flow.{letter_of}
use Rattle.traffic_model.specs.Runs.{IsAdmissiblePlan, word_of}
use Rattle.traffic_model.proofs.TrafficLaws.{delay_of-agree, length-letters_at, letters_at-signal}
use Rattle.program_model.specs.Columns.{Bit, Units, plan_columns}
use Rattle.program_model.specs.Existence.{IsLetterOf}
use Rattle.program_model.specs.Numbers.{number_of, plan_count}
use Rattle.program_model.specs.Points.{point_of, program_of, value_at}
use Rattle.program_model.specs.Values.{is_letter, one_where, value_of}
use Rattle.program_model.proofs.LetterSums.{is_letter-itself, is_letter-same}
use Rattle.program_model.proofs.NumberLaws.{bit_stands, length-plan_columns}
use Rattle.program_model.proofs.PlaceLaws.{column_stands}
use Rattle.program_model.proofs.PlanBits.{word_keeps}
use Rattle.program_model.proofs.PlanFloors.{counted}
use Rattle.program_model.proofs.PointLaws.{value_at-number}
use Rattle.program_model.proofs.Segments.{letter_in}
use Rattle.certificate_model.specs.Leaves.{FixesPlan, bits_of, plan_delay}
use Rattle.certificate_model.specs.Reasons.{IsUnfixed}
use Rattle.certificate_model.specs.Value.{IsInside}
use Rattle.certificate_model.proofs.PointLaws.{columns_there}

-- a bound that begins as the bits of a plan is at a bit's number that bit
bit_at_number : (net : Net) (words : List (List Letter)) (bounds : List ℤ) (t s : ℕ) (letter : Letter) → take (plan_count net) bounds ≡ bits_of net words → t < net.steps → s < length net.signals →
    IsLetterOf (signal_of net.signals s) letter → get_or bounds (number_of net (Bit t s letter)) (pos 0) ≡ counted net words (Bit t s letter)
bit_at_number net words bounds t s letter is before inside of =
    let j : ℕ = number_of net (Bit t s letter) in
    let stands : (j < plan_count net) × (get_or (plan_columns net) j (Units 0 0) ≡ Bit t s letter) = bit_stands net t s letter (Units 0 0) before inside of in
    let there : j < length (plan_columns net) = omega (arith, stands.0, length-plan_columns net) in
    sym (get_or-take (plan_count net) bounds j (pos 0) stands.0)
    ∙ ap (λ (bits : List ℤ). get_or bits j (pos 0)) is
    ∙ get_or-map (counted net words) (plan_columns net) j (Units 0 0) (pos 0) there
    ∙ ap (counted net words) stands.1

-- a test that counts one holds
one_holds : (b : Bool) → one_where b ≡ 1 → b ≡ true
one_holds true is = refl
one_holds false is = absurd (omega (arith, is))

-- two plans have the same bits
abbrev AgreeOnBits : Net → List (List Letter) → List (List Letter) → Type 0
AgreeOnBits net words others = (t s : ℕ) (letter : Letter) → t < net.steps → s < length net.signals → IsLetterOf (signal_of net.signals s) letter →
    counted net words (Bit t s letter) ≡ counted net others (Bit t s letter)

-- so they show the same letters
same_letter : (net : Net) (plan other : Plan) (t s : ℕ) → IsValid net → IsAdmissiblePlan net plan → AgreeOnBits net plan.words other.words → t < net.steps → s < length net.signals →
    letter_of (letters_at plan.words t) s ≡ letter_of (letters_at other.words t) s
same_letter net plan other t s valid admissible agree before there =
    let within : s < length plan.words = omega (arith, there, admissible.words.one_per_signal) in
    let shown : letter_of (letters_at plan.words t) s ≡ letter_in (word_of plan s) t = letters_at-signal plan.words t s within in
    let letter : Letter = letter_of (letters_at plan.words t) s in
    let of : IsLetterOf (signal_of net.signals s) letter = rw shown ((word_keeps net plan s valid admissible there).of t before) in
    let same : counted net plan.words (Bit t s letter) ≡ counted net other.words (Bit t s letter) = agree t s letter before there of in
    let one : value_of net plan.words (Bit t s letter) ≡ 1 = ap one_where (is_letter-itself letter) in
    let too : value_of net other.words (Bit t s letter) ≡ 1 = omega (arith, ints, same, one) in
    is_letter-same letter (letter_of (letters_at other.words t) s) (one_holds (is_letter letter (letter_of (letters_at other.words t) s)) too)

-- and have one delay
delay_by_bits : (net : Net) (plan other : Plan) → IsValid net → IsAdmissiblePlan net plan → IsAdmissiblePlan net other → AgreeOnBits net plan.words other.words →
    plan_delay net plan ≡ plan_delay net other
delay_by_bits net plan other valid admissible too agree =
    ap pos (delay_of-agree net.cells (letters_at plan.words) (letters_at other.words) net.steps
    (λ t before. ext_get_or (Clear 0) (letters_at plan.words t) (letters_at other.words t)
    (length-letters_at plan.words t ∙ admissible.words.one_per_signal ∙ sym (length-letters_at other.words t ∙ too.words.one_per_signal))
    (λ s within. same_letter net plan other t s valid admissible agree before (omega (arith, within, length-letters_at plan.words t, admissible.words.one_per_signal)))))

-- a plan whose point lies in a box that leaves another plan alone has that plan's bits
agree_inside : (net : Net) (box : Ranges) (plan other : Plan) → FixesPlan net box other → IsInside (length (program_of net).columns) box (value_at (point_of net plan.words)) →
    AgreeOnBits net plan.words other.words
agree_inside net box plan other fixes inside t s letter before there of =
    let j : ℕ = number_of net (Bit t s letter) in
    let stands = column_stands net (Bit t s letter) (Units 0 0) (before, there, of) in
    let bounds : (low_of box j ≤ℤ value_at (point_of net plan.words) j) × (value_at (point_of net plan.words) j ≤ℤ high_of box j) = inside j (omega (arith, stands.0, columns_there net)) in
    let low : low_of box j ≡ counted net other.words (Bit t s letter) = bit_at_number net other.words box.lows t s letter fixes.lows before there of in
    let high : high_of box j ≡ counted net other.words (Bit t s letter) = bit_at_number net other.words box.highs t s letter fixes.highs before there of in
    let here : value_at (point_of net plan.words) j ≡ counted net plan.words (Bit t s letter) = value_at-number net plan.words (Bit t s letter) (before, there, of) in
    omega (arith, ints, bounds, low, high, here)

-- so it has that plan's delay
pub one_delay : (net : Net) (box : Ranges) (plan other : Plan) → IsValid net → IsAdmissiblePlan net plan → FixesPlan net box other →
    IsInside (length (program_of net).columns) box (value_at (point_of net plan.words)) → plan_delay net plan ≡ plan_delay net other
one_delay net box plan other valid admissible fixes inside =
    delay_by_bits net plan other valid admissible fixes.admissible (agree_inside net box plan other fixes inside)

-- two plans that a box leaves alone have one delay
pub one_fixed_delay : (net : Net) (box : Ranges) (plan other : Plan) → IsValid net → FixesPlan net box plan → FixesPlan net box other → plan_delay net plan ≡ plan_delay net other
one_fixed_delay net box plan other valid first second =
    delay_by_bits net plan other valid first.admissible second.admissible
    (λ t s letter before there of. sym (bit_at_number net plan.words box.lows t s letter first.lows before there of) ∙ bit_at_number net other.words box.lows t s letter second.lows before there of)

-- a box that leaves one plan alone leaves each plan column one number
pub fixed_is_no_more : (net : Net) (box : Ranges) (plan : Plan) → FixesPlan net box plan → ¬ IsUnfixed net box
fixed_is_no_more net box plan fixes several =
    let j : ℕ = several.column in
    let same : low_of box j ≡ high_of box j =
    sym (get_or-take (plan_count net) box.lows j (pos 0) several.of_plan)
    ∙ ap (λ (bits : List ℤ). get_or bits j (pos 0)) (fixes.lows ∙ sym fixes.highs)
    ∙ get_or-take (plan_count net) box.highs j (pos 0) several.of_plan in
    let less : low_of box j <ℤ high_of box j = several.several in
    absurd (omega (arith, ints, same, less))
