-- Plan columns are the bits of a network: each number of a plan column is that of a bit, and rule rows name bits alone.
use Rattle.std.proofs.Common.{◌≡◌, inl, inr, ℕ, zero, suc, ◌+◌, ◌*◌, ◌<◌, List, [], ◌∷◌, length, map, filter, get_or, refl, ap, ◌∙◌, sym, arith, ext_get_or}
use Rattle.std.specs.Prelude.{if◌then◌else◌, nat_lt, ℤ, pos, neg_ℤ, ◌*ℤ◌}
use Rattle.std.proofs.lemmas.Bool.{cases_Bool}
use Rattle.std.proofs.lemmas.List.{get_or-map, length-map}
use Rattle.listed.specs.Below.{sum_below, table_of}
use Rattle.listed.proofs.JoinLaws.{length-join_below, part_of}
use Rattle.ct_base.specs.Access.{phase_of, signal_of}
use Rattle.ct_base.specs.declared.net.Net.{Net}
use Rattle.ct_base.specs.declared.plan.Letter.{Letter}
use Rattle.ct_base.specs.declared.plan.Letter.TheVariants.{Clear, Green}
use Rattle.ct_base.specs.declared.plan.Plan.{Plan}
use Rattle.ct_base.specs.declared.signal.Signal.{Signal}
use Rattle.program_model.specs.Columns.{BranchRest, BranchRoom, Bit, Column, Flow, Parcels, ParcelsRest, Room, RoomRest, Switch, Units, letters_by, letters_of, plan_columns}
use Rattle.program_model.specs.Existence.{IsLetterOf}
use Rattle.program_model.specs.Numbers.{bits_of_step, letters_before, number_of, place_of_letter, plan_count}
use Rattle.program_model.specs.Rows.{SumRow, column, once, times, total}
use Rattle.program_model.specs.RuleRows.{clear_end_rows, end_rows, follow_row, follow_rows, may_follow, rule_rows, rule_rows_at, stay_row, stay_rows}
use Rattle.program_model.specs.Values.{value_of}
use Rattle.program_model.proofs.ColumnLaws.{Each, Each-append, Each-join_below, Each-map, Each-table_of}
use Rattle.program_model.proofs.NumberLaws.{bit_stands, length-plan_columns}
use Rattle.plan_bits.proofs.PartLaws.{sum_below-equal}
use Rattle.certificate_model.specs.Leaves.{bits_of}
use Rattle.rule_breaks.specs.Bits.{AreBitsOfPlan}
use Rattle.rule_breaks.specs.Breaks.{value_in}

-- ---- the place of a letter

-- a letter of a signal at a place
record LetterAt (signal : Signal) (place : ℕ) : Type 0 where
  letter : Letter
  of : IsLetterOf signal letter
  at : place_of_letter signal letter ≡ place

-- a place among the letters of a phase
letter_of_phase : (signal : Signal) (p place clear : ℕ) → p < length signal.phases → (phase_of signal p).clear ≡ clear → place < length (letters_by p clear) → LetterAt signal (letters_before signal p + place)
letter_of_phase signal p zero clear inside is within = record { letter = Green p; of = inside; at = omega arith }
letter_of_phase signal p (suc zero) zero inside is within = absurd (omega (arith, within))
letter_of_phase signal p (suc zero) (suc clear) inside is within = record { letter = Clear p; of = (inside, omega (arith, is)); at = omega arith }
letter_of_phase signal p (suc (suc place)) zero inside is within = absurd (omega (arith, within))
letter_of_phase signal p (suc (suc place)) (suc clear) inside is within = absurd (omega (arith, within))

-- each place among the letters of a signal is that of a letter
letter_at : (signal : Signal) (place : ℕ) → place < length (letters_of signal) → LetterAt signal place
unfolding letters_of
letter_at signal place within =
    let counts : ℕ → ℕ = λ p. length (letters_by p (phase_of signal p).clear) in
    let all : length (letters_of signal) ≡ sum_below (length signal.phases) counts =
    length-join_below (length signal.phases) (λ p. letters_by p (phase_of signal p).clear) counts (λ p. refl) in
    let part = part_of (length signal.phases) counts place (omega (arith, within, all)) in
    let found : LetterAt signal (letters_before signal part.0 + part.1) = letter_of_phase signal part.0 part.1 (phase_of signal part.0).clear part.2 refl part.3 in
    record { letter = found.letter; of = found.of; at = found.at ∙ sym part.4 }

-- ---- the number of a bit

-- the bit with a number
record BitAt (net : Net) (j : ℕ) : Type 0 where
  t : ℕ
  s : ℕ
  letter : Letter
  before : t < net.steps
  inside : s < length net.signals
  of : IsLetterOf (signal_of net.signals s) letter
  at : number_of net (Bit t s letter) ≡ j

-- each plan column is a bit
bit_at : (net : Net) (j : ℕ) → j < plan_count net → BitAt net j
bit_at net j inside =
    let width : ℕ = bits_of_step net.signals in
    let step = part_of net.steps (λ t. width) j (omega (arith, inside, sum_below-equal net.steps width)) in
    let part = part_of (length net.signals) (λ s. length (letters_of (signal_of net.signals s))) step.1 step.3 in
    let found : LetterAt (signal_of net.signals part.0) part.1 = letter_at (signal_of net.signals part.0) part.1 part.3 in
    let before : sum_below step.0 (λ t. width) ≡ step.0 * width = sum_below-equal step.0 width in
    record {
      t = step.0;
      s = part.0;
      letter = found.letter;
      before = step.2;
      inside = part.2;
      of = found.of;
      at = omega (arith, before, step.4, part.4, found.at);
    }

-- values of the plan columns that are the bits of a plan are its bits in their order
pub bits_of_plan : (net : Net) (bits : List ℤ) (plan : Plan) → length bits ≡ plan_count net → AreBitsOfPlan net net.steps (value_in net bits) plan → bits ≡ bits_of net plan.words
bits_of_plan net bits plan long are =
    let counted : Column → ℤ = λ c. pos (value_of net plan.words c) in
    let as_many : length (bits_of net plan.words) ≡ plan_count net = length-map (plan_columns net) counted ∙ length-plan_columns net in
    ext_get_or (pos 0) bits (bits_of net plan.words) (long ∙ sym as_many)
    (λ j within.
    let found : BitAt net j = bit_at net j (omega (arith, within, long)) in
    let bit : Column = Bit found.t found.s found.letter in
    let stands = bit_stands net found.t found.s found.letter (Units 0 0) found.before found.inside found.of in
    let there : j < length (plan_columns net) = omega (arith, within, long, length-plan_columns net) in
    sym (ap (λ (k : ℕ). get_or bits k (pos 0)) found.at)
    ∙ are.bits found.t found.s found.letter found.before found.inside found.of
    ∙ ap counted (sym stands.1 ∙ ap (λ (k : ℕ). get_or (plan_columns net) k (Units 0 0)) found.at)
    ∙ sym (get_or-map counted (plan_columns net) j (Units 0 0) (pos 0) there))

-- ---- rule rows

-- the column is a bit
abbrev pub IsBit : Column → Type 0
IsBit (Bit t s letter) = Unit {0}
IsBit (Units t i) = ⊥
IsBit (Room t i) = ⊥
IsBit (RoomRest t i) = ⊥
IsBit (Parcels t i) = ⊥
IsBit (ParcelsRest t i) = ⊥
IsBit (BranchRoom t i k) = ⊥
IsBit (BranchRest t i k) = ⊥
IsBit (Flow t i) = ⊥
IsBit (Switch t i m) = ⊥

-- terms name bits alone
abbrev pub AreBitTerms : List (Column × ℤ) → Type 0
AreBitTerms terms = Each (λ (term : Column × ℤ). IsBit term.0) terms

-- and so does a row
abbrev pub NamesBits : SumRow Column → Type 0
NamesBits row = AreBitTerms row.sum.terms

-- what holds of everything holds of each
each_of_all : {X : Type 0} (P : X → Type 0) (xs : List X) → ((x : X) → P x) → Each P xs
each_of_all P [] all = tt
each_of_all P (x ∷ xs) all = (all x, each_of_all P xs all)

-- bits at one step
bits_together : (t s : ℕ) (letters : List Letter) → AreBitTerms (total (map (Bit t s) letters)).terms
bits_together t s letters =
    Each-map (λ (term : Column × ℤ). IsBit term.0) once (map (Bit t s) letters) (Each-map IsBit (Bit t s) letters (each_of_all (λ letter. IsBit (Bit t s letter)) letters (λ letter. tt)))

follow_row_names : (signal : Signal) (s t : ℕ) (letter : Letter) → NamesBits (follow_row signal s t letter)
follow_row_names signal s t letter =
    let passing : List Letter = filter (may_follow signal letter) (letters_of signal) in
    Each-append (λ (term : Column × ℤ). IsBit term.0) (total (map (Bit (t + 1) s) passing)).terms (times (neg_ℤ (pos 1)) (column (Bit t s letter))).terms
    (bits_together (t + 1) s passing) (tt, tt)

follow_rows_name : (signal : Signal) (steps s t : ℕ) → Each NamesBits (follow_rows signal steps s t)
follow_rows_name signal steps s t =
    elim (cases_Bool (nat_lt (t + 1) steps)) [
      | inl within ↦ rw within (Each-map NamesBits (follow_row signal s t) (letters_of signal) (each_of_all (λ letter. NamesBits (follow_row signal s t letter)) (letters_of signal) (follow_row_names signal s t)))
      | inr past ↦ rw past tt
    ]

stay_row_names : (s t : ℕ) (letter : Letter) (k : ℕ) → NamesBits (stay_row s t letter k)
stay_row_names s zero letter k = (tt, (tt, tt))
stay_row_names s (suc t) letter k = (tt, (tt, (tt, tt)))

stay_rows_name : (steps s t : ℕ) (letter : Letter) (least : ℕ) → Each NamesBits (stay_rows steps s t letter least)
stay_rows_name steps s t letter least =
    Each-join_below NamesBits _ (λ j. if nat_lt (t + (j + 1)) steps then stay_row s t letter (j + 1) ∷ [] else [])
    (λ j few.
    elim (cases_Bool (nat_lt (t + (j + 1)) steps)) [
      | inl within ↦ rw within (stay_row_names s t letter (j + 1), tt)
      | inr past ↦ rw past tt
    ])

end_rows_name : (steps s t : ℕ) (letter : Letter) (most : ℕ) → Each NamesBits (end_rows steps s t letter most)
end_rows_name steps s t letter most =
    let window : List Column = table_of (most + 1) (λ k. Bit (t + k) s letter) in
    elim (cases_Bool (nat_lt (t + most) steps)) [
      | inl within ↦
          rw within (
            Each-map (λ (term : Column × ℤ). IsBit term.0) (λ (term : Column × ℤ). (term.0, neg_ℤ (pos 1) *ℤ term.1)) (total window).terms
                (Each-map (λ (term : Column × ℤ). IsBit term.0) once window (Each-table_of IsBit (most + 1) (λ k. Bit (t + k) s letter) (λ k few. tt))),
            tt,
          )
      | inr past ↦ rw past tt
    ]

clear_end_rows_name : (steps s t p clear : ℕ) → Each NamesBits (clear_end_rows steps s t p clear)
clear_end_rows_name steps s t p zero = tt
clear_end_rows_name steps s t p (suc clear) = end_rows_name steps s t (Clear p) (suc clear)

rule_rows_name_at : (signal : Signal) (steps s t : ℕ) → Each NamesBits (rule_rows_at signal steps s t)
unfolding rule_rows_at
rule_rows_name_at signal steps s t =
    let phases : ℕ = length signal.phases in (
      bits_together t s (letters_of signal),
      Each-append NamesBits _ _ (Each-append NamesBits _ _ (Each-append NamesBits _ _ (Each-append NamesBits (follow_rows signal steps s t) _ (follow_rows_name signal steps s t)
          (Each-join_below NamesBits phases _ (λ p inside. stay_rows_name steps s t (Green p) (phase_of signal p).min)))
          (Each-join_below NamesBits phases _ (λ p inside. end_rows_name steps s t (Green p) (phase_of signal p).max)))
          (Each-join_below NamesBits phases _ (λ p inside. stay_rows_name steps s t (Clear p) (phase_of signal p).clear)))
          (Each-join_below NamesBits phases _ (λ p inside. clear_end_rows_name steps s t p (phase_of signal p).clear)),
    )

-- each rule row names bits alone
pub rule_rows_name_bits : (net : Net) → Each NamesBits (rule_rows net)
unfolding rule_rows
rule_rows_name_bits net =
    Each-join_below NamesBits (length net.signals) _ (λ s inside. Each-join_below NamesBits net.steps (rule_rows_at (signal_of net.signals s) net.steps s) (λ t before. rule_rows_name_at (signal_of net.signals s) net.steps s t))
