-- How many rule rows there are: of a letter that stays or ends, of a phase, of a step.
use Rattle.std.proofs.Common.{◌≡◌, inl, inr, ℕ, zero, suc, ◌+◌, ◌-◌, ◌<◌, min, List, [], ◌∷◌, ◌++◌, length, refl, arith}
use Rattle.std.specs.Prelude.{if◌then◌else◌, nat_lt}
use Rattle.std.proofs.lemmas.Bool.{cases_Bool, lt-ltb, ltb-true, ltb-false}
use Rattle.std.proofs.lemmas.List.{length-append, length-map}
use Rattle.listed.specs.Below.{join_below, sum_below}
use Rattle.listed.proofs.JoinLaws.{length-join_below}
use Rattle.listed.proofs.SumLaws.{sum_below-add}
use Rattle.ct_base.specs.Access.{phase_of}
use Rattle.ct_base.specs.declared.plan.Letter.{Letter}
use Rattle.ct_base.specs.declared.plan.Letter.TheVariants.{Clear, Green}
use Rattle.ct_base.specs.declared.signal.Signal.{Signal}
use Rattle.program_model.specs.Columns.{Column, letters_of}
use Rattle.program_model.specs.Rows.{SumRow}
use Rattle.program_model.specs.RuleRows.{clear_end_rows, end_rows, follow_row, follow_rows, rule_rows_at, stay_row, stay_rows}
use Rattle.lo_program.specs.inner.Counts.{ends, follows, stays, step_rows}

-- as many as the first steps that are below the horizon
length_joined : (steps s t n : ℕ) (letter : Letter) → t < steps →
    length (join_below n (λ j. if nat_lt (t + (j + 1)) steps then stay_row s t letter (j + 1) ∷ [] else [])) ≡ min n (steps - (t + 1))
unfolding join_below
length_joined steps s t zero letter before = omega arith
length_joined steps s t (suc n) letter before =
    let rows : ℕ → List (SumRow Column) = λ j. if nat_lt (t + (j + 1)) steps then stay_row s t letter (j + 1) ∷ [] else [] in
    elim (cases_Bool (nat_lt (t + (n + 1)) steps)) [
      | inl below ↦
          let one : length (rows n) ≡ 1 = rw below refl in
          omega (arith, length-append (join_below n rows) (rows n), one, length_joined steps s t n letter before, ltb-true (t + (n + 1)) steps below, before)
      | inr past ↦
          let none : length (rows n) ≡ 0 = rw past refl in
          omega (arith, length-append (join_below n rows) (rows n), none, length_joined steps s t n letter before, ltb-false (t + (n + 1)) steps past, before)
    ]

pub length_stays : (steps s t least : ℕ) (letter : Letter) → t < steps → length (stay_rows steps s t letter least) ≡ stays steps t least
length_stays steps s t least letter before = length_joined steps s t (least - 1) letter before

pub length_ends : (steps s t most : ℕ) (letter : Letter) → length (end_rows steps s t letter most) ≡ ends steps t most
length_ends steps s t most letter = elim (cases_Bool (nat_lt (t + most) steps)) [ inl below ↦ rw below refl | inr past ↦ rw past refl ]

length_clear_ends : (steps s t p clear : ℕ) → length (clear_end_rows steps s t p clear) ≡ (if nat_lt 0 clear then ends steps t clear else 0)
length_clear_ends steps s t p zero = refl
length_clear_ends steps s t p (suc clear) = rw (lt-ltb 0 (suc clear) (omega arith)) (length_ends steps s t (suc clear) (Clear p))

-- ---- a step

length_follows : (signal : Signal) (steps s t : ℕ) → length (follow_rows signal steps s t) ≡ follows signal steps t
length_follows signal steps s t =
    elim (cases_Bool (nat_lt (t + 1) steps)) [
      | inl below ↦ rw below (length-map (letters_of signal) (follow_row signal s t))
      | inr past ↦ rw past refl
    ]

-- four sums over the phases are one
four_sums : (n : ℕ) (f g h i : ℕ → ℕ) → sum_below n (λ p. f p + g p + h p + i p) ≡ sum_below n f + sum_below n g + sum_below n h + sum_below n i
four_sums n f g h i =
    omega (arith, sum_below-add n (λ p. f p + g p + h p) i, sum_below-add n (λ p. f p + g p) h, sum_below-add n f g)

pub length_step : (signal : Signal) (steps s t : ℕ) → t < steps → length (rule_rows_at signal steps s t) ≡ step_rows signal steps t
unfolding rule_rows_at
length_step signal steps s t before =
    let n : ℕ = length signal.phases in
    let first : List (SumRow Column) = follow_rows signal steps s t in
    let a : ℕ → List (SumRow Column) = λ p. stay_rows steps s t (Green p) (phase_of signal p).min in
    let b : ℕ → List (SumRow Column) = λ p. end_rows steps s t (Green p) (phase_of signal p).max in
    let d : ℕ → List (SumRow Column) = λ p. stay_rows steps s t (Clear p) (phase_of signal p).clear in
    let e : ℕ → List (SumRow Column) = λ p. clear_end_rows steps s t p (phase_of signal p).clear in
    let la : length (join_below n a) ≡ sum_below n (λ p. stays steps t (phase_of signal p).min) = length-join_below n a _ (λ p. length_stays steps s t (phase_of signal p).min (Green p) before) in
    let lb : length (join_below n b) ≡ sum_below n (λ p. ends steps t (phase_of signal p).max) = length-join_below n b _ (λ p. length_ends steps s t (phase_of signal p).max (Green p)) in
    let ld : length (join_below n d) ≡ sum_below n (λ p. stays steps t (phase_of signal p).clear) = length-join_below n d _ (λ p. length_stays steps s t (phase_of signal p).clear (Clear p) before) in
    let le : length (join_below n e) ≡ sum_below n (λ p. if nat_lt 0 (phase_of signal p).clear then ends steps t (phase_of signal p).clear else 0) = length-join_below n e _ (λ p. length_clear_ends steps s t p (phase_of signal p).clear) in
    let all = four_sums n (λ p. stays steps t (phase_of signal p).min) (λ p. ends steps t (phase_of signal p).max) (λ p. stays steps t (phase_of signal p).clear) (λ p. if nat_lt 0 (phase_of signal p).clear then ends steps t (phase_of signal p).clear else 0) in
    omega (
      arith,
      la,
      lb,
      ld,
      le,
      all,
      length_follows signal steps s t,
      length-append first (join_below n a),
      length-append (first ++ join_below n a) (join_below n b),
      length-append (first ++ join_below n a ++ join_below n b) (join_below n d),
      length-append (first ++ join_below n a ++ join_below n b ++ join_below n d) (join_below n e),
    )
