-- A network has few rule rows: fewer than 32 bits count.
use Rattle.std.proofs.Common.{inl, inr, ℕ, zero, suc, ◌+◌, ◌-◌, ◌*◌, ◌<◌, ◌≤◌, Bool, List, [], ◌∷◌, ◌++◌, length, refl, arith}
use Rattle.std.specs.Prelude.{nat_lt, if◌then◌else◌}
use Rattle.std.proofs.lemmas.Bool.{cases_Bool}
use Rattle.std.proofs.lemmas.List.{length-append, length-map}
use Rattle.listed.specs.Below.{join_below}
use Rattle.listed.proofs.JoinLaws.{length-join_below}
use Rattle.listed.proofs.SumLaws.{sum_below-bound}
use Rattle.ct_base.specs.Access.{no_signal, phase_of, signal_of}
use Rattle.ct_base.specs.Validity.{IsSignal, IsValid}
use Rattle.ct_base.specs.declared.net.Net.{Net}
use Rattle.ct_base.specs.declared.plan.Letter.{Letter}
use Rattle.ct_base.specs.declared.plan.Letter.TheVariants.{Clear, Green}
use Rattle.ct_base.specs.declared.signal.Signal.{Signal}
use Rattle.program_layout.proofs.CountLaws.{few_letters}
use Rattle.program_model.specs.Columns.{Column, letters_of}
use Rattle.program_model.specs.Rows.{SumRow}
use Rattle.program_model.specs.RuleRows.{clear_end_rows, end_row, end_rows, follow_row, follow_rows, rule_rows, rule_rows_at, stay_row, stay_rows}

-- a join of short parts
few_joined : {X : Type 0} (n most : ℕ) (parts : ℕ → List X) → ((k : ℕ) → k < n → length (parts k) ≤ most) → length (join_below n parts) ≤ n * most
few_joined n most parts each =
    omega (arith, length-join_below n parts (λ k. length (parts k)) (λ k. refl), sum_below-bound n most (λ k. length (parts k)) each)

-- one row, or none
few_where : (test : Bool) (row : SumRow Column) → length (if test then row ∷ [] else []) ≤ 1
few_where test row = elim (cases_Bool test) [ inl is ↦ rw is (omega arith) | inr not ↦ rw not (omega arith) ]

few_stays : (steps s t : ℕ) (letter : Letter) (least : ℕ) → length (stay_rows steps s t letter least) ≤ least
few_stays steps s t letter least =
    omega (
      arith,
      few_joined (least - 1) 1 (λ j. if nat_lt (t + (j + 1)) steps then stay_row s t letter (j + 1) ∷ [] else []) (λ j few. few_where (nat_lt (t + (j + 1)) steps) (stay_row s t letter (j + 1))),
    )

few_ends : (steps s t : ℕ) (letter : Letter) (most : ℕ) → length (end_rows steps s t letter most) ≤ 1
few_ends steps s t letter most = few_where (nat_lt (t + most) steps) (end_row s t letter most)

few_clear_ends : (steps s t p clear : ℕ) → length (clear_end_rows steps s t p clear) ≤ 1
few_clear_ends steps s t p zero = omega arith
few_clear_ends steps s t p (suc clear) = few_ends steps s t (Clear p) (suc clear)

few_follows : (signal : Signal) (steps s t : ℕ) → length signal.phases ≤ 8 → length (follow_rows signal steps s t) ≤ 16
few_follows signal steps s t few =
    elim (cases_Bool (nat_lt (t + 1) steps)) [
      | inl below ↦ rw below (omega (arith, length-map (letters_of signal) (follow_row signal s t), few_letters signal few))
      | inr past ↦ rw past (omega arith)
    ]

-- a step
few_in_step : (signal : Signal) (steps s t : ℕ) → IsSignal signal → length (rule_rows_at signal steps s t) ≤ 1000
unfolding rule_rows_at
few_in_step signal steps s t is =
    let n : ℕ = length signal.phases in
    let first : List (SumRow Column) = follow_rows signal steps s t in
    let a : ℕ → List (SumRow Column) = λ p. stay_rows steps s t (Green p) (phase_of signal p).min in
    let b : ℕ → List (SumRow Column) = λ p. end_rows steps s t (Green p) (phase_of signal p).max in
    let d : ℕ → List (SumRow Column) = λ p. stay_rows steps s t (Clear p) (phase_of signal p).clear in
    let e : ℕ → List (SumRow Column) = λ p. clear_end_rows steps s t p (phase_of signal p).clear in
    let few_a : length (join_below n a) ≤ n * 60 = few_joined n 60 a (λ p inside. omega (arith, few_stays steps s t (Green p) (phase_of signal p).min, (is.each p inside).max.0, (is.each p inside).max.1)) in
    let few_b : length (join_below n b) ≤ n * 1 = few_joined n 1 b (λ p inside. few_ends steps s t (Green p) (phase_of signal p).max) in
    let few_d : length (join_below n d) ≤ n * 20 = few_joined n 20 d (λ p inside. omega (arith, few_stays steps s t (Clear p) (phase_of signal p).clear, (is.each p inside).clear)) in
    let few_e : length (join_below n e) ≤ n * 1 = few_joined n 1 e (λ p inside. few_clear_ends steps s t p (phase_of signal p).clear) in
    omega (
      arith,
      few_a,
      few_b,
      few_d,
      few_e,
      is.phases.1,
      few_follows signal steps s t is.phases.1,
      length-append first (join_below n a),
      length-append (first ++ join_below n a) (join_below n b),
      length-append (first ++ join_below n a ++ join_below n b) (join_below n d),
      length-append (first ++ join_below n a ++ join_below n b ++ join_below n d) (join_below n e),
    )

-- a signal
few_of_signal : (signal : Signal) (steps s : ℕ) → IsSignal signal → steps ≤ 240 → length (join_below steps (rule_rows_at signal steps s)) ≤ 240000
few_of_signal signal steps s is few = omega (arith, few, few_joined steps 1000 (rule_rows_at signal steps s) (λ t before. few_in_step signal steps s t is))

-- all of them
pub few_rule_rows : (net : Net) → IsValid net → length (rule_rows net) ≤ 3840000
unfolding rule_rows
few_rule_rows net valid =
    omega (
      arith,
      valid.signals,
      few_joined (length net.signals) 240000 (λ s. join_below net.steps (rule_rows_at (signal_of net.signals s) net.steps s))
          (λ s inside. few_of_signal (signal_of net.signals s) net.steps s (valid.each_signal s no_signal inside) valid.steps.1),
    )
