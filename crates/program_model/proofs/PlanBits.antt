-- The bits of an admissible plan: what they count, and that they meet the rule rows.
use Rattle.std.proofs.Common.{◌≡◌, ℕ, ◌<◌, List, length, map, filter, ap, subst, ◌∙◌, arith, inl, inr}
use Rattle.std.specs.Prelude.{pos, if◌then◌else◌, Option, Some, None, IfSome}
use Rattle.std.proofs.lemmas.Int.{ints}
use Rattle.std.proofs.lemmas.Bool.{cases_Bool}
use Rattle.ct_base.specs.Access.{no_signal, signal_of}
use Rattle.ct_base.specs.Validity.{IsGate, IsSignal, IsValid}
use Rattle.ct_base.specs.declared.cell.Gate.{Gate}
use Rattle.ct_base.specs.declared.net.Net.{Net}
use Rattle.ct_base.specs.declared.plan.Letter.{Letter}
use Rattle.ct_base.specs.declared.plan.Plan.{Plan}
use Rattle.ct_base.specs.declared.signal.Signal.{Signal}
use Rattle.traffic_model.specs.Delay.{letters_at}
use Rattle.traffic_model.specs.Flow.{is_green_among, is_open, letter_of}
use Rattle.traffic_model.specs.Runs.{IsAdmissiblePlan, word_of}
use Rattle.traffic_model.proofs.TrafficLaws.{letters_at-signal}
use Rattle.program_model.specs.Columns.{Bit, letters_of}
use Rattle.program_model.specs.FlowRows.{gated_cap}
use Rattle.program_model.specs.Rows.{AllMeet, sum_at, total}
use Rattle.program_model.specs.RuleRows.{rule_rows, rule_rows_at}
use Rattle.program_model.specs.Values.{one_where}
use Rattle.program_model.proofs.LetterSums.{one_passes}
use Rattle.program_model.proofs.PlanFloors.{counted}
use Rattle.program_model.proofs.RuleLaws.{AreBits, bit, rules_are_met}
use Rattle.program_model.proofs.Segments.{letter_in}
use Rattle.program_model.proofs.SumLaws.{AllMeet-join_below, sum_at-number, sum_at-times, sum_at-total}
use Rattle.program_model.proofs.WordSegments.{KeepsRules, admissible_keeps}

-- the signal of a valid network
pub signal_is : (net : Net) (s : ℕ) → IsValid net → s < length net.signals → IsSignal (signal_of net.signals s)
signal_is net s valid inside = valid.each_signal s no_signal inside

-- the letters of a signal's word keep the rules
pub word_keeps : (net : Net) (plan : Plan) (s : ℕ) → IsValid net → IsAdmissiblePlan net plan → s < length net.signals →
    KeepsRules (signal_of net.signals s) net.steps (letter_in (word_of plan s))
word_keeps net plan s valid admissible inside =
    let there : s < length plan.words = omega (arith, inside, admissible.words.one_per_signal) in
    subst (λ (steps : ℕ). KeepsRules (signal_of net.signals s) steps (letter_in (word_of plan s))) (admissible.words.letters s there)
    (admissible_keeps (signal_of net.signals s) (word_of plan s) (signal_is net s valid inside) (admissible.each s there))

-- and the bits count them
pub bits_are : (net : Net) (plan : Plan) (s : ℕ) → IsAdmissiblePlan net plan → s < length net.signals → AreBits (counted net plan.words) s net.steps (letter_in (word_of plan s))
bits_are net plan s admissible inside t before letter =
    ap (λ (shown : Letter). pos (bit letter shown)) (letters_at-signal plan.words t s (omega (arith, inside, admissible.words.one_per_signal)))

-- the bits of an admissible plan meet the rule rows
pub plans_meet_rule_rows : (net : Net) (plan : Plan) → IsValid net → IsAdmissiblePlan net plan → AllMeet (counted net plan.words) (rule_rows net)
unfolding rule_rows
plans_meet_rule_rows net plan valid admissible =
    AllMeet-join_below (counted net plan.words) (length net.signals) _
    (λ s inside. AllMeet-join_below (counted net plan.words) net.steps (rule_rows_at (signal_of net.signals s) net.steps s)
    (λ t before. rules_are_met (signal_of net.signals s) (counted net plan.words) s net.steps (letter_in (word_of plan s))
    (bits_are net plan s admissible inside) (word_keeps net plan s valid admissible inside) t before))

-- the cap of a move, which is 0 where its cell is not open
pub gated_cap_is : (net : Net) (plan : Plan) (t cap : ℕ) (gate : Option Gate) → IsValid net → IsAdmissiblePlan net plan → t < net.steps → IfSome gate (IsGate net.signals) →
    sum_at (counted net plan.words) (gated_cap net.signals t cap gate) ≡ pos (if is_open (letters_at plan.words t) gate then cap else 0)
gated_cap_is net plan t cap None valid admissible before gated = sum_at-number (counted net plan.words) cap
gated_cap_is net plan t cap (Some gate) valid admissible before gated =
    let signal : Signal = signal_of net.signals gate.signal in
    let word : List Letter = word_of plan gate.signal in
    let there : gate.signal < length plan.words = omega (arith, gated.signal, admissible.words.one_per_signal) in
    let shown : letter_of (letters_at plan.words t) gate.signal ≡ letter_in word t = letters_at-signal plan.words t gate.signal there in
    let of_signal = (word_keeps net plan gate.signal valid admissible gated.signal).of t before in
    let greens : sum_at (counted net plan.words) (total (map (Bit t gate.signal) (filter (is_green_among gate.greens) (letters_of signal)))) ≡ pos (one_where (is_green_among gate.greens (letter_in word t))) =
    sum_at-total (counted net plan.words) (Bit t gate.signal) (λ letter. bit letter (letter_in word t)) (bits_are net plan gate.signal admissible gated.signal t before)
    (filter (is_green_among gate.greens) (letters_of signal))
    ∙ ap pos (one_passes signal (is_green_among gate.greens) (letter_in word t) of_signal) in
    rw (sum_at-times (counted net plan.words) (pos cap) (total (map (Bit t gate.signal) (filter (is_green_among gate.greens) (letters_of signal)))), greens, shown)
    (elim (cases_Bool (is_green_among gate.greens (letter_in word t))) [
      | inl green ↦ rw green (omega (arith, ints))
      | inr red ↦ rw red (omega (arith, ints))
    ])
