-- The row of a floor leaves the quotient and the rest one number each, where the sum that is divided has one.
use Rattle.std.proofs.Common.{◌≡◌, ℕ, ◌+◌, ◌-◌, ◌*◌, ◌/◌, ◌<◌, ap, ◌∙◌, sym, arith}
use Rattle.std.specs.Prelude.{ℤ, pos, ◌-ℤ◌, ◌*ℤ◌, ◌≤ℤ◌, unsigned_abs}
use Rattle.std.proofs.lemmas.Int.{ints}
use Rattle.std.proofs.lemmas.Nat.{div-mul-add}
use Rattle.program_model.specs.Rows.{Meets, Sum, column, plus, sum_at, times}
use Rattle.program_model.specs.SwitchRows.{floor_row}
use Rattle.program_model.proofs.SumLaws.{sum_at-column, sum_at-minus, sum_at-plus, sum_at-times}
use Rattle.point_model.proofs.SameSums.{Same}

-- one quotient and one rest
quotients : (m n r q d : ℕ) → r < d → q < d → m * d + r ≡ n * d + q → (m ≡ n) × (r ≡ q)
quotients m n r q d small few same =
    let whole : m ≡ n = sym (div-mul-add m d r small) ∙ ap (λ k. k / d) same ∙ div-mul-add n d q few in
    let products : m * d ≡ n * d = ap (λ k. k * d) whole in
    (whole, omega (arith, same, products))

-- a whole number that is not negative
natural : (z : ℤ) → pos 0 ≤ℤ z → z ≡ pos (unsigned_abs z)
natural z some = omega (arith, ints, some)

-- a whole and a rest that a row of a floor allows: the rest is below the divisor
pub record AreParts {C : Type 0} (value : C → ℤ) (whole rest : C) (divisor : ℕ) : Type 0 where
  pub not_negative : pos 0 ≤ℤ value whole
  pub low : pos 0 ≤ℤ value rest
  pub high : value rest ≤ℤ pos (divisor - 1)

-- what the row says in natural numbers
floor_says : {C : Type 0} (value : C → ℤ) (whole rest : C) (divisor : ℕ) (of : Sum C) (m r : ℕ) → value whole ≡ pos m → value rest ≡ pos r → Meets value (floor_row whole rest divisor of) →
    sum_at value of ≡ pos (m * divisor + r)
floor_says value whole rest divisor of m r is_whole is_rest met =
    let product : pos divisor *ℤ value whole ≡ pos (divisor * m) = ap (λ (z : ℤ). pos divisor *ℤ z) is_whole ∙ (omega (arith, ints)) in
    let row : sum_at value (plus (times (pos divisor) (column whole)) (column rest)) -ℤ sum_at value of ≡ pos 0 =
    sym (sum_at-minus value (plus (times (pos divisor) (column whole)) (column rest)) of) ∙ met in
    omega (
      arith,
      ints,
      row,
      sum_at-plus value (times (pos divisor) (column whole)) (column rest),
      sum_at-times value (pos divisor) (column whole) ∙ ap (λ (z : ℤ). pos divisor *ℤ z) (sum_at-column value whole) ∙ product,
      sum_at-column value rest,
      is_rest,
    )

-- two values of each column that meet the row, for one sum, have one quotient and one rest
pub floor_once : {C : Type 0} (value other : C → ℤ) (whole rest : C) (divisor : ℕ) (of : Sum C) → 0 < divisor → Same value other of →
    AreParts value whole rest divisor → AreParts other whole rest divisor → Meets value (floor_row whole rest divisor of) → Meets other (floor_row whole rest divisor of) →
    (value whole ≡ other whole) × (value rest ≡ other rest)
floor_once value other whole rest divisor of some same parts too met meets =
    let m : ℕ = unsigned_abs (value whole) in
    let n : ℕ = unsigned_abs (other whole) in
    let r : ℕ = unsigned_abs (value rest) in
    let q : ℕ = unsigned_abs (other rest) in
    let is_m : value whole ≡ pos m = natural (value whole) parts.not_negative in
    let is_n : other whole ≡ pos n = natural (other whole) too.not_negative in
    let is_r : value rest ≡ pos r = natural (value rest) parts.low in
    let is_q : other rest ≡ pos q = natural (other rest) too.low in
    let first : sum_at value of ≡ pos (m * divisor + r) = floor_says value whole rest divisor of m r is_m is_r met in
    let second : sum_at other of ≡ pos (n * divisor + q) = floor_says other whole rest divisor of n q is_n is_q meets in
    let sums : m * divisor + r ≡ n * divisor + q = ap unsigned_abs (sym first ∙ same ∙ second) in
    let once : (m ≡ n) × (r ≡ q) = quotients m n r q divisor (omega (arith, ints, some, is_r, parts.high)) (omega (arith, ints, some, is_q, too.high)) sums in
    (is_m ∙ ap pos once.0 ∙ sym is_n, is_r ∙ ap pos once.1 ∙ sym is_q)
