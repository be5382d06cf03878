-- What the loops over the steps keep: the replay is where the model says, and the delay is that of the steps so far.
use Rattle.std.proofs.Common.{◌≡◌, ℕ, ◌+◌, ◌<◌, ◌≤◌, ◌^◌, List, length, get_or, sum, [], All, ap, ◌∙◌, sym, arith}
use Rattle.std.proofs.lemmas.List.{get_or_default}
use Rattle.ct_base.specs.Validity.{IsValid}
use Rattle.ct_base.specs.declared.net.Net.{Net}
use Rattle.ct_base.specs.declared.plan.Letter.{Letter}
use Rattle.ct_base.specs.declared.plan.Plan.{Plan}
use Rattle.traffic_model.proofs.TrafficLaws.{delay_of-lt, delay_of-suc, left_of-sum, occupancies-suc, occupancies-zero}
use Rattle.traffic_model.specs.Delay.{delay_of, left_of, step_delay}
use Rattle.traffic_model.specs.Occupancy.{next_units, occupancies}
use Rattle.traffic_model.specs.Runs.{HasWords}
use Rattle.cell_replay.specs.Standing.{IsReplayOf, Standing, at_start, one_step_on}

-- ---- where the replay stands

-- the replay stands at step t of the run under these letters
pub record IsAt (net : Net) (letters : ℕ → List Letter) (t : ℕ) (at : Standing) : Type 0 where
  pub stands : IsReplayOf net at
  pub step : at.step ≡ t
  pub units : at.units ≡ occupancies net.cells letters t

pub begins : (net : Net) (letters : ℕ → List Letter) (at : Standing) → IsReplayOf net at → at ≡ at_start net.cells → IsAt net letters 0 at
begins net letters at stands start = record {
  stands = stands;
  step = ap (λ (s : Standing). s.step) start;
  units = ap (λ (s : Standing). s.units) start ∙ sym (occupancies-zero net.cells letters);
}

pub goes_on : (net : Net) (letters : ℕ → List Letter) (t : ℕ) (at after : Standing) (shown : List Letter) →
    IsAt net letters t at → shown ≡ letters t → after ≡ one_step_on net.cells shown at → IsReplayOf net after → IsAt net letters (t + 1) after
goes_on net letters t at after shown before shows moves stands = record {
  stands = stands;
  step = ap (λ (s : Standing). s.step) moves ∙ ap (λ n. n + 1) before.step;
  units =
      ap (λ (s : Standing). s.units) moves
      ∙ ap (λ list. next_units net.cells list at.step at.units) shows
      ∙ ap (λ n. next_units net.cells (letters t) n at.units) before.step
      ∙ ap (λ list. next_units net.cells (letters t) t list) before.units
      ∙ sym (occupancies-suc net.cells letters t);
}

-- each word of a plan has a letter for a step before the end
pub long_enough : (net : Net) (plan : Plan) (t : ℕ) → HasWords net plan → t < net.steps → All (λ (word : List Letter). t < length word) plan.words
long_enough net plan t words before =
    λ s d within.
    let long : length (get_or plan.words s []) ≡ net.steps = words.letters s within in
    rw (get_or_default plan.words s d [] within) (omega arith)

-- ---- the delay of the steps so far

-- the delay of a step more
pub adds : (net : Net) (letters : ℕ → List Letter) (t : ℕ) (at : Standing) (delay more : ℕ) (shown : List Letter) →
    IsAt net letters t at → shown ≡ letters t → more ≡ step_delay net.cells shown at.units → delay ≡ delay_of net.cells letters t →
    delay + more ≡ delay_of net.cells letters (t + 1)
adds net letters t at delay more shown here shows is before =
    ap (λ n. n + more) before
    ∙ ap (λ n. delay_of net.cells letters t + n)
    (is ∙ ap (λ list. step_delay net.cells list at.units) shows ∙ ap (λ list. step_delay net.cells (letters t) list) here.units)
    ∙ sym (delay_of-suc net.cells letters t)

-- the delay is small at every step
pub is_small : (net : Net) (letters : ℕ → List Letter) (t delay : ℕ) → IsValid net → t ≤ net.steps → delay ≡ delay_of net.cells letters t → delay < 2 ^ 49
is_small net letters t delay valid in_time is = omega (arith, is, delay_of-lt net letters t valid in_time)

-- what is left at a step
pub leaves : (net : Net) (letters : ℕ → List Letter) (t : ℕ) (at : Standing) (k : ℕ) → IsAt net letters t at → t ≡ k → sum at.units ≡ left_of net.cells letters k
leaves net letters t at k here all =
    ap sum here.units ∙ ap (λ n. sum (occupancies net.cells letters n)) all ∙ sym (left_of-sum net.cells letters k)
