-- Why no more than 132 texts differ: a text is made of remainders of its number by 3, 4 and 11.
use Rattle.std.proofs.Common.{◌≡◌, ℕ, ◌+◌, ◌*◌, ◌%◌, refl, arith}
use Rattle.listed.proofs.JoinLaws.{join_below-same}
use Rattle.generated_nets.specs.Generated.{generated_text, junction_text, junctions_of, side_text, street_text, top_text}

-- two numbers have the same remainders
record AreAlike (m n : ℕ) : Type 0 where
  by_3 : (j : ℕ) → (m + j) % 3 ≡ (n + j) % 3
  by_4 : (j : ℕ) → (m + 2 * j) % 4 ≡ (n + 2 * j) % 4
  thirds : m % 3 ≡ n % 3
  quarters : m % 4 ≡ n % 4
  elevenths : m % 11 ≡ n % 11

-- numbers that are equal modulo 132 do
alike : (m n : ℕ) → m % 132 ≡ n % 132 → AreAlike m n
alike m n same = record {
  by_3 = λ j. omega arith;
  by_4 = λ j. omega arith;
  thirds = omega arith;
  quarters = omega arith;
  elevenths = omega arith;
}

-- so have a stretch of the street
street_alike : (m n j : ℕ) → AreAlike m n → street_text m j ≡ street_text n j
unfolding street_text
street_alike m n j same = rw (same.by_3 j, same.thirds, same.quarters, same.elevenths) refl

-- a side street
side_alike : (m n j : ℕ) → AreAlike m n → side_text m j ≡ side_text n j
unfolding side_text
side_alike m n j same = rw (same.by_4 j, same.elevenths) refl

-- what stands at a junction
junction_alike : (m n j : ℕ) → AreAlike m n → junction_text m j ≡ junction_text n j
junction_alike m n j same = rw (side_alike m n j same, street_alike m n (j + 1) same) refl

-- the first lines
top_alike : (m n : ℕ) → AreAlike m n → top_text m ≡ top_text n
unfolding top_text
top_alike m n same = rw same.elevenths refl

-- and the whole
pub texts_repeat : (m n : ℕ) → m % 132 ≡ n % 132 → generated_text m ≡ generated_text n
unfolding generated_text
texts_repeat m n equal =
    let same : AreAlike m n = alike m n equal in
    rw (top_alike m n same, street_alike m n 0 same, join_below-same (junctions_of m) (junction_text m) (junction_text n) (λ j within. junction_alike m n j same), same.thirds) refl
