-- Of some numbers the least, and the first place that has it: by their meaning, and from switches that are on and off.
use Rattle.std.proofs.Common.{◌≡◌, ◌⊎◌, inl, inr, ℕ, suc, ◌<◌, ◌≤◌, min, Bool, List, [], ◌∷◌, fold, length, get_or, refl, ◌∙◌, sym, arith}
use Rattle.std.specs.Prelude.{◌==◌}
use Rattle.std.specs.List.{position_or_len}
use Rattle.std.proofs.lemmas.Bool.{both_ways, cases_lt, eq-eqb, eqb-false, eqb-true, lt-ltb}
use Rattle.std.proofs.lemmas.List.Sums.{fails_before_first, passes_at_first}
use Rattle.traffic_model.specs.Flow.{first_least, least}
use Rattle.traffic_model.proofs.TrafficLaws.{least-each}

-- among the first n of some numbers, y is the least, and f is the first place that has it
pub record IsFirstLeast (n : ℕ) (u : ℕ → ℕ) (y f : ℕ) : Type 0 where
  pub within : f < n
  pub is : u f ≡ y
  pub least : (m : ℕ) → m < n → y ≤ u m
  pub first : (m : ℕ) → m < f → y < u m

-- there is one such number, and one such place
pub first_least-only : (n : ℕ) (u : ℕ → ℕ) (y f z g : ℕ) → IsFirstLeast n u y f → IsFirstLeast n u z g → (y ≡ z) × (f ≡ g)
first_least-only n u y f z g one other =
    let same : y ≡ z = omega (arith, one.least g other.within, other.least f one.within, one.is, other.is) in (
      same,
      elim (cases_lt f g) [
        | inl before ↦ absurd (omega (arith, other.first f before, one.is, same))
        | inr after ↦ elim (cases_lt g f) [
          | inl before ↦ absurd (omega (arith, one.first g before, other.is, same))
          | inr same_place ↦ omega arith
        ]
      ],
    )

-- the least is one of them
fold_min-among : (xs : List ℕ) (x : ℕ) → (fold min x xs ≡ x) ⊎ ((k : ℕ) × (k < length xs) × (fold min x xs ≡ get_or xs k 0))
fold_min-among [] x = inl refl
fold_min-among (y ∷ ys) x =
    elim (fold_min-among ys (min x y)) [
      | inl here ↦ elim (cases_lt y x) [
        | inl less ↦ inr (0, omega arith, here ∙ (omega arith))
        | inr more ↦ inl (here ∙ (omega arith))
      ]
      | inr later ↦ inr (suc later.0, omega (arith, later.1), later.2)
    ]

pub least-among : (xs : List ℕ) → 0 < length xs → (k : ℕ) × (k < length xs) × (get_or xs k 0 ≡ least xs)
least-among [] some = absurd (omega arith)
least-among (x ∷ xs) some =
    elim (fold_min-among xs x) [
      | inl here ↦ (0, omega arith, sym here)
      | inr later ↦ (suc later.0, omega (arith, later.1), sym later.2)
    ]

-- the least of a list, and the first place that has it
pub first_least-is : (xs : List ℕ) → 0 < length xs → IsFirstLeast (length xs) (λ m. get_or xs m 0) (least xs) (first_least xs)
first_least-is xs some =
    let is_least : ℕ → Bool = λ x. x == least xs in
    let place : ℕ = position_or_len is_least xs in
    let there : place < length xs =
    elim (cases_lt place (length xs)) [
      | inl inside ↦ inside
      | inr outside ↦
          let among = least-among xs some in
          absurd (both_ways (is_least (get_or xs among.0 0)) (fails_before_first is_least xs among.0 0 (omega (arith, outside, among.1)))
          (eq-eqb (get_or xs among.0 0) (least xs) among.2))
    ] in
    let found : first_least xs ≡ place = rw (lt-ltb place (length xs) there) in
    rw found (record {
      within = there;
      is = eqb-true (get_or xs place 0) (least xs) (passes_at_first is_least xs 0 there);
      least = λ m inside. least-each xs m inside;
      first = λ m before.
          let differs : get_or xs m 0 ≡ least xs → ⊥ = eqb-false (get_or xs m 0) (least xs) (fails_before_first is_least xs m 0 before) in
          let above : least xs ≤ get_or xs m 0 = least-each xs m (omega (arith, before, there)) in
          omega (arith, above, differs);
    })
