-- Laws of the letters of one step of a plan.
use Rattle.std.proofs.Common.{◌≡◌, ℕ, zero, suc, ◌<◌, List, [], ◌∷◌, length, slice_index_or, refl, arith}
use Rattle.std.proofs.lemmas.List.{length-map}
use Rattle.ct_base.specs.declared.plan.Letter.{Letter}
use Rattle.ct_base.specs.declared.plan.Letter.TheVariants.{Clear}
use Rattle.traffic_model.specs.Delay.{letters_at}

-- there is one letter per signal
pub length-letters_at : (words : List (List Letter)) (t : ℕ) → length (letters_at words t) ≡ length words
unfolding letters_at
length-letters_at words t = length-map words (λ (word : List Letter). slice_index_or word t (Clear 0))

-- the letter of a signal is that of its word
pub letters_at-signal : (words : List (List Letter)) (t s : ℕ) → s < length words →
    slice_index_or (letters_at words t) s (Clear 0) ≡ slice_index_or (slice_index_or words s []) t (Clear 0)
unfolding letters_at
letters_at-signal [] t s within = absurd (omega arith)
letters_at-signal (word ∷ words) t zero within = refl
letters_at-signal (word ∷ words) t (suc s) within = letters_at-signal words t s (omega arith)
