-- Switches that are on and off: where the rows of a move hold in natural numbers, one switch is on, at the first of the least
-- terms, and the flow is that term; and the other way round.
use Rattle.std.proofs.Common.{◌≡◌, ◌≢◌, inl, inr, ℕ, zero, suc, ◌+◌, ◌-◌, ◌*◌, ◌<◌, ◌≤◌, refl, ap, ◌∙◌, sym, arith}
use Rattle.std.specs.Prelude.{◌==◌}
use Rattle.std.proofs.lemmas.Bool.{cases_eq, cases_lt, eq-eqb, ne_eqb}
use Rattle.listed.specs.Below.{sum_below}
use Rattle.listed.proofs.SumLaws.{sum_below-none, sum_below-only, sum_below-term}
use Rattle.program_model.specs.Values.{one_where}
use Rattle.program_model.proofs.FirstLeast.{IsFirstLeast}

-- a flow y, terms u with the most that they come to, and switches c, of n terms
pub record SwitchesHold (n : ℕ) (u most : ℕ → ℕ) (y : ℕ) (c : ℕ → ℕ) : Type 0 where
  pub one : sum_below n c ≡ 1
  pub lower : (m : ℕ) → m < n → y + sum_below (n - (m + 1)) (λ k. c (m + 1 + k)) ≤ u m
  pub upper : (m : ℕ) → m < n → u m + most m * c m ≤ y + most m

-- switch f is on, and no other
pub record IsOnlyOn (n : ℕ) (c : ℕ → ℕ) (f : ℕ) : Type 0 where
  pub within : f < n
  pub on : c f ≡ 1
  pub off : (k : ℕ) → k < n → k ≢ f → c k ≡ 0

-- where switches are 0 or 1 and their sum is 1, one is on
pub one_is_on : (n : ℕ) (c : ℕ → ℕ) → sum_below n c ≡ 1 → ((k : ℕ) → k < n → c k ≤ 1) → (f : ℕ) × IsOnlyOn n c f
unfolding sum_below
one_is_on zero c one small = absurd (omega (arith, one))
one_is_on (suc n) c one small =
    elim (cases_eq (c n) 0) [
      | inl off ↦
          let before : (f : ℕ) × IsOnlyOn n c f = one_is_on n c (omega (arith, one, off)) (λ k h. small k (omega arith)) in (
            before.0,
            record {
              within = omega (arith, before.1.within);
              on = before.1.on;
              off = λ k inside apart. elim (cases_eq k n) [ inl last ↦ ap c last ∙ off | inr earlier ↦ before.1.off k (omega (arith, inside, earlier)) apart ];
            },
          )
      | inr on ↦
          let here : c n ≡ 1 = omega (arith, on, small n (omega arith)) in (
            n,
            record {
              within = omega arith;
              on = here;
              off = λ k inside apart. omega (arith, sum_below-term n k c (omega (arith, inside, apart)), one, here);
            },
          )
    ]

-- the switches after one that stands before switch f
later_on : (n : ℕ) (c : ℕ → ℕ) (f m : ℕ) → IsOnlyOn n c f → m < f → sum_below (n - (m + 1)) (λ k. c (m + 1 + k)) ≡ 1
later_on n c f m only before =
    let at : m + 1 + (f - (m + 1)) ≡ f = omega (arith, before) in
    sum_below-only (n - (m + 1)) (f - (m + 1)) (λ k. c (m + 1 + k)) (omega (arith, before, only.within))
    (λ k inside apart. only.off (m + 1 + k) (omega (arith, inside)) (λ e. apart (omega (arith, e))))
    ∙ ap c at ∙ only.on

-- and after one that does not
later_off : (n : ℕ) (c : ℕ → ℕ) (f m : ℕ) → IsOnlyOn n c f → f ≤ m → sum_below (n - (m + 1)) (λ k. c (m + 1 + k)) ≡ 0
later_off n c f m only after =
    sum_below-none (n - (m + 1)) (λ k. c (m + 1 + k)) (λ k inside. only.off (m + 1 + k) (omega (arith, inside)) (λ e. omega (arith, e, after)))

-- the rows hold: the flow is the least term, and the switch of the first least one is on
pub first_least_from_switches : (n : ℕ) (u most : ℕ → ℕ) (y : ℕ) (c : ℕ → ℕ) → SwitchesHold n u most y c → ((k : ℕ) → k < n → c k ≤ 1) →
    (f : ℕ) × IsFirstLeast n u y f × IsOnlyOn n c f
first_least_from_switches n u most y c hold small =
    let found : (f : ℕ) × IsOnlyOn n c f = one_is_on n c hold.one small in
    let f : ℕ = found.0 in
    let only : IsOnlyOn n c f = found.1 in
    let reached : u f + most f * 1 ≤ y + most f = rw (← only.on) (hold.upper f only.within) in
    let low : y + sum_below (n - (f + 1)) (λ k. c (f + 1 + k)) ≤ u f = hold.lower f only.within in (
      f,
      record {
        within = only.within;
        is = omega (arith, reached, low);
        least = λ m inside. omega (arith, hold.lower m inside);
        first = λ m before. omega (arith, hold.lower m (omega (arith, before, only.within)), later_on n c f m only before);
      },
      only,
    )

-- and the other way round
pub switches_from_first_least : (n : ℕ) (u most : ℕ → ℕ) (y : ℕ) (c : ℕ → ℕ) (f : ℕ) → IsFirstLeast n u y f → IsOnlyOn n c f →
    ((m : ℕ) → m < n → u m ≤ most m) → SwitchesHold n u most y c
switches_from_first_least n u most y c f is only within = record {
  one = sum_below-only n f c only.within (λ k inside apart. only.off k inside apart) ∙ only.on;
  lower = λ m inside.
      elim (cases_lt m f) [
        | inl before ↦ omega (arith, later_on n c f m only before, is.first m before)
        | inr after ↦ omega (arith, later_off n c f m only after, is.least m inside)
      ];
  upper = λ m inside.
      elim (cases_eq m f) [
        | inl e ↦ rw (e, only.on) (omega (arith, is.is))
        | inr apart ↦ rw (only.off m inside apart) (omega (arith, within m inside))
      ];
}

-- switches that are on exactly at one place
pub only_on-from_test : (n : ℕ) (c : ℕ → ℕ) (f : ℕ) → f < n → ((k : ℕ) → k < n → c k ≡ one_where (k == f)) → IsOnlyOn n c f
only_on-from_test n c f within is = record {
  within = within;
  on = is f within ∙ ap one_where (eq-eqb f f refl);
  off = λ k inside apart. is k inside ∙ ap one_where (ne_eqb k f apart);
}

-- and as a test
pub only_on-test : (n : ℕ) (c : ℕ → ℕ) (f : ℕ) → IsOnlyOn n c f → (k : ℕ) → k < n → c k ≡ one_where (k == f)
only_on-test n c f only k inside =
    elim (cases_eq k f) [
      | inl e ↦ ap c e ∙ only.on ∙ sym (ap one_where (eq-eqb k f e))
      | inr apart ↦ only.off k inside apart ∙ sym (ap one_where (ne_eqb k f apart))
    ]
