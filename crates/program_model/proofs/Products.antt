-- Laws of products of whole numbers.
use Rattle.std.proofs.Common.{◌≡◌, ◌+◌, ◌*◌, ap, arith}
use Rattle.std.specs.Prelude.{ℤ, ◌*ℤ◌}
use Rattle.std.proofs.lemmas.Int.{ints}
use borrow.Author.Differences.{up, down, product_is}

-- a product of products
pub times_times : (a b c : ℤ) → (a *ℤ b) *ℤ c ≡ a *ℤ (b *ℤ c)
times_times a b c =
    let ab : (up (a *ℤ b) ≡ up a * up b + down a * down b) × (down (a *ℤ b) ≡ up a * down b + down a * up b) = product_is a b in
    let bc : (up (b *ℤ c) ≡ up b * up c + down b * down c) × (down (b *ℤ c) ≡ up b * down c + down b * up c) = product_is b c in
    let e1 : up (a *ℤ b) * up c ≡ (up a * up b + down a * down b) * up c = ap (λ n. n * up c) ab.0 in
    let e2 : up (a *ℤ b) * down c ≡ (up a * up b + down a * down b) * down c = ap (λ n. n * down c) ab.0 in
    let e3 : down (a *ℤ b) * up c ≡ (up a * down b + down a * up b) * up c = ap (λ n. n * up c) ab.1 in
    let e4 : down (a *ℤ b) * down c ≡ (up a * down b + down a * up b) * down c = ap (λ n. n * down c) ab.1 in
    let f1 : up a * up (b *ℤ c) ≡ up a * (up b * up c + down b * down c) = ap (λ n. up a * n) bc.0 in
    let f2 : up a * down (b *ℤ c) ≡ up a * (up b * down c + down b * up c) = ap (λ n. up a * n) bc.1 in
    let f3 : down a * up (b *ℤ c) ≡ down a * (up b * up c + down b * down c) = ap (λ n. down a * n) bc.0 in
    let f4 : down a * down (b *ℤ c) ≡ down a * (up b * down c + down b * up c) = ap (λ n. down a * n) bc.1 in
    omega (arith, ints, e1, e2, e3, e4, f1, f2, f3, f4)
