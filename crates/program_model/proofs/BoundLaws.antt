-- Under an admissible plan each column counts no less than its least value and no more than its greatest.
use Rattle.std.proofs.Common.{◌≡◌, inl, inr, ℕ, zero, suc, ◌-◌, ◌*◌, ◌%◌, ◌<◌, ◌≤◌, ◌^◌, Bool, true, false, List, [], ◌∷◌, ◌++◌, length, ap, ◌∙◌, sym, arith}
use Rattle.std.specs.Prelude.{◌==◌, nat_lt}
use Rattle.std.specs.Int.{bit_at}
use Rattle.std.proofs.Math.Nat.{mod-lt}
use Rattle.std.proofs.lemmas.Bool.{and_parts, cases_eq, ltb-true}
use Rattle.std.proofs.lemmas.List.{get_or_append_left, get_or_default, length-append}
use Rattle.std.proofs.lemmas.Nat.Bits.{bit_at-pow_other}
use Rattle.std.proofs.lemmas.List.Sums.{sum_by-cons}
use Rattle.ct_base.specs.Access.{cell_of, phase_of, signal_of}
use Rattle.ct_base.specs.Validity.{IsSignal, IsSplit, IsValid}
use Rattle.ct_base.specs.declared.cell.Cell.{Cell}
use Rattle.ct_base.specs.declared.cell.Out.{Out}
use Rattle.ct_base.specs.declared.cell.Out.TheVariants.{Exit, To, Turns}
use Rattle.ct_base.specs.declared.net.Net.{Net}
use Rattle.ct_base.specs.declared.plan.Letter.{Letter}
use Rattle.ct_base.specs.declared.plan.Letter.TheVariants.{Green, Clear}
use Rattle.ct_base.specs.declared.plan.Plan.{Plan}
use Rattle.ct_base.specs.declared.signal.Signal.{Signal}
use Rattle.traffic_model.specs.Delay.{letters_at}
use Rattle.traffic_model.specs.Flow.{first_least_term, letter_of, units_of_flow}
use Rattle.traffic_model.specs.Occupancy.{occupancies}
use Rattle.traffic_model.specs.Runs.{AreRuns, IsAdmissible, IsAdmissiblePlan, Run, letters_of_runs, word_of}
use Rattle.traffic_model.proofs.TrafficLaws.{flow-le_cap_of, letters_at-signal}
use Rattle.program_model.specs.Columns.{BranchRest, BranchRoom, Bit, Column, Flow, Parcels, ParcelsRest, Room, RoomRest, Switch, Units, is_led_into}
use Rattle.program_model.specs.Existence.{HasFloor, IsColumn}
use Rattle.program_model.specs.Numbers.{branches_of}
use Rattle.program_model.specs.Values.{branch_of, is_letter, least_of, most_of, most_room, most_units, one_where, room_at, units_at, value_of}
use Rattle.program_model.proofs.PlanBits.{signal_is}
use Rattle.program_model.proofs.PlanFloors.{div_rises, held-least, held-most, room-most_room}
use Rattle.program_model.proofs.Segments.{Segment, here, letter_in, letters_of_segments}
use Rattle.program_model.proofs.WordSegments.{clearing, letters_of_segments-runs, segments_of_runs}

-- a test counts at most one
small : (b : Bool) → one_where b ≤ 1
small true = omega arith
small false = omega arith

-- a rest is below its divisor
rest_below : (n m : ℕ) → 0 < m → n % m ≤ m - 1
rest_below n m some = omega (arith, mod-lt n some)

-- ---- the first letter of a word

-- the set of one number has no other
only_bit : (start p : ℕ) → bit_at (2 ^ start) p ≡ 1 → p ≡ start
only_bit start p is =
    elim (cases_eq p start) [ inl e ↦ e | inr apart ↦ absurd (omega (arith, is, bit_at-pow_other start p apart)) ]

-- the first letter of a word is the green of the first phase
first_letter : (signal : Signal) (word : List Letter) → IsSignal signal → IsAdmissible signal word → 0 < length word → letter_in word 0 ≡ Green signal.start
first_letter signal word valid admissible some = of_runs admissible.runs admissible.are_runs admissible.begins
  where
    of_runs : (runs : List Run) → AreRuns signal (2 ^ signal.start) runs → letters_of_runs signal runs ≡ word ++ admissible.rest → letter_in word 0 ≡ Green signal.start
    of_runs [] are begins = absurd (omega (arith, some, ap length begins, length-append word admissible.rest))
    of_runs (run ∷ runs) are begins =
        let phase = valid.each run.phase are.0.phase in
        let whole : letters_of_segments (segments_of_runs signal (run ∷ runs)) ≡ word ++ admissible.rest = letters_of_segments-runs signal (run ∷ runs) ∙ begins in
        let segment : Segment = record { letter = Green run.phase; steps = run.green } in
        let first : letter_in (letters_of_segments (segments_of_runs signal (run ∷ runs))) 0 ≡ Green run.phase =
        here segment (clearing run.phase (phase_of signal run.phase).clear ++ segments_of_runs signal runs) 0 (omega (arith, phase.min.0, are.0.green.0)) in
        sym (get_or_append_left word admissible.rest (Clear 0) 0 some) ∙ sym (ap (λ (letters : List Letter). letter_in letters 0) whole) ∙ first
        ∙ ap Green (only_bit signal.start run.phase are.0.may_stand)

-- what signal s shows at the first step
first_shown : (net : Net) (plan : Plan) (s : ℕ) → IsValid net → IsAdmissiblePlan net plan → s < length net.signals →
    letter_of (letters_at plan.words 0) s ≡ Green (signal_of net.signals s).start
first_shown net plan s valid admissible inside =
    let there : s < length plan.words = omega (arith, inside, admissible.words.one_per_signal) in
    letters_at-signal plan.words 0 s there
    ∙ first_letter (signal_of net.signals s) (word_of plan s) (signal_is net s valid inside) (admissible.each s there) (omega (arith, admissible.words.letters s there, valid.steps.0))

-- ---- parcels

-- a parcel has units
some_units : (out : Out) → IsSplit out → 0 < units_of_flow out
some_units Exit split = omega arith
some_units (To b) split = omega arith
some_units (Turns []) split = absurd (omega (arith, split.0.0))
some_units (Turns (branch ∷ branches)) split = omega (arith, sum_by-cons (λ (branch : ℕ × ℕ). branch.1) branch branches, (split.2 0 (0, 0) (omega arith)).0)

-- a branch with a floor, at any default
branch_floor : (out : Out) (k : ℕ) → HasFloor out k → 1 < (branch_of out k).1
branch_floor out k floor = rw (get_or_default (branches_of out) k (0, 1) (0, 0) floor.inside) floor.many

-- ---- the bounds

pub value_within : (net : Net) (plan : Plan) (c : Column) → IsValid net → IsAdmissiblePlan net plan → IsColumn net c → (least_of net c ≤ value_of net plan.words c) × (value_of net plan.words c ≤ most_of net c)
value_within net plan (Bit zero s letter) valid admissible is =
    rw (first_shown net plan s valid admissible is.1) (omega arith, omega arith)
value_within net plan (Bit (suc t) s letter) valid admissible is = (omega arith, small (is_letter letter (letter_of (letters_at plan.words (suc t)) s)))
value_within net plan (Units t i) valid admissible place = (held-least net plan.words t i place.inside, held-most net plan.words t i valid place.inside)
value_within net plan (Room t i) valid admissible is = (omega arith, room-most_room net plan.words t i)
value_within net plan (RoomRest t i) valid admissible is =
    let cell : Cell = cell_of net.cells i in
    (omega arith, rest_below (cell.wave_p * (cell.store - units_at net plan.words t i)) cell.wave_q (omega (arith, ltb-true 1 cell.wave_q (and_parts (nat_lt 1 cell.wave_q) (is_led_into net.cells i) is.1).0)))
value_within net plan (Parcels t i) valid admissible is =
    (omega arith, div_rises (units_at net plan.words t i) (most_units (cell_of net.cells i) t) (units_of_flow (cell_of net.cells i).out) (held-most net plan.words t i valid is.0.inside))
value_within net plan (ParcelsRest t i) valid admissible is =
    (omega arith, rest_below (units_at net plan.words t i) (units_of_flow (cell_of net.cells i).out) (some_units (cell_of net.cells i).out (valid.each_cell i is.0.inside).split))
value_within net plan (BranchRoom t i k) valid admissible is =
    let branch : ℕ × ℕ = branch_of (cell_of net.cells i).out k in
    (omega arith, div_rises (room_at net plan.words t branch.0) (most_room (cell_of net.cells branch.0)) branch.1 (room-most_room net plan.words t branch.0))
value_within net plan (BranchRest t i k) valid admissible is =
    let branch : ℕ × ℕ = branch_of (cell_of net.cells i).out k in
    (omega arith, rest_below (room_at net plan.words t branch.0) branch.1 (omega (arith, branch_floor (cell_of net.cells i).out k is.1)))
value_within net plan (Flow t i) valid admissible place =
    (omega arith, flow-le_cap_of net.cells (letters_at plan.words t) (occupancies net.cells (letters_at plan.words) t) i)
value_within net plan (Switch t i m) valid admissible is = (omega arith, small (m == first_least_term net.cells (letters_at plan.words t) (occupancies net.cells (letters_at plan.words) t) i))
