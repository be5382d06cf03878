-- Named words that were worked by hand (docs/search.md, "Plans"): a signal of three phases over eight steps, which starts with its
-- last phase, and of which each phase lets the two others follow.
use Rattle.std.proofs.Common.{◌≡◌, [], ◌∷◌, refl}
use Rattle.std.specs.Prelude.{false, true}
use Rattle.ct_base.specs.declared.plan.Letter.TheVariants.{Green, Clear}
use Rattle.ct_base.specs.declared.signal.Signal.{Signal}
use Rattle.plan_rounding.specs.Named.{named_word}

three : Signal
three = record {
  start = 2;
  phases = record { min = 2; max = 3; clear = 1; next = 6 } ∷ record { min = 1; max = 2; clear = 0; next = 5 } ∷ record { min = 1; max = 4; clear = 2; next = 3 } ∷ [];
}

-- a run of phase 2, of 0, of 1, and one of 0 that the horizon cuts
short_in_three : named_word three false 8 ≡ Green 2 ∷ Clear 2 ∷ Clear 2 ∷ Green 0 ∷ Green 0 ∷ Clear 0 ∷ Green 1 ∷ Green 0 ∷ []
unfolding named_word three lib.Count.count_trailing_zeros
short_in_three = refl

-- a run of phase 2, and one of 0 that the horizon cuts
long_in_three : named_word three true 8 ≡ Green 2 ∷ Green 2 ∷ Green 2 ∷ Green 2 ∷ Clear 2 ∷ Clear 2 ∷ Green 0 ∷ Green 0 ∷ []
unfolding named_word three lib.Count.count_trailing_zeros
long_in_three = refl
