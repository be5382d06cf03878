-- What becomes of lists of zeros.
use Rattle.std.proofs.Common.{◌≡◌, ◌++◌, ◌∷◌, [], ℕ, ℤ, pos, List, slice_set}
use Rattle.std.proofs.lemmas.List.Elements.{All-push, All-set}
use Rattle.queue_prices.specs.Zero.{AreZero}

-- a 0 that is put among zeros leaves zeros
pub zero_set : (values : List ℤ) (place : ℕ) (value : ℤ) → value ≡ pos 0 → AreZero values → AreZero (slice_set values place value)
zero_set values place value is zero = All-set (λ (one : ℤ). one ≡ pos 0) values place value is zero

-- a 0 behind zeros leaves zeros
pub zero_push : (values : List ℤ) (value : ℤ) → value ≡ pos 0 → AreZero values → AreZero (values ++ value ∷ [])
zero_push values value is zero = All-push (λ (one : ℤ). one ≡ pos 0) values value zero is
