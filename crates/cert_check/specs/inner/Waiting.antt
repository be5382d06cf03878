-- The boxes that wait behind the present one. They are not kept: each is the present box with the bounds set back that the splits
-- between have changed.
use Rattle.std.specs.Prelude.{ℕ, ◌<◌, ℤ, ◌≤ℤ◌, ◌<ℤ◌, List, [], ◌∷◌, length, slice_set}
use Rattle.sparse_program.specs.Box.{Ranges, high_of, low_of}
use Rattle.sparse_program.specs.Terms.{IsSmall}
use Rattle.certificate_model.specs.Tree.{right_of}
use Rattle.cert_check.specs.declared.frame.Frame.{Frame}
use Rattle.cert_check.specs.declared.frame.Frame.TheVariants.{Left, Right}

-- the box with another low of a column
abbrev pub with_low : Ranges → ℕ → ℤ → Ranges
with_low box column low = record box { lows = slice_set box.lows column low }

-- the box with another high of a column
abbrev pub with_high : Ranges → ℕ → ℤ → Ranges
with_high box column high = record box { highs = slice_set box.highs column high }

-- the right sides that wait, the nearest one first
abbrev pub waiting : Ranges → List Frame → List Ranges
waiting box [] = []
waiting box (Left column at high ∷ frames) =
    right_of (with_high box column high) column at ∷ waiting (with_high box column high) frames
waiting box (Right column low ∷ frames) = waiting (with_low box column low) frames

-- the high of a column in a left side can be set back, and the right side entered
pub record IsLeft (box : Ranges) (column : ℕ) (at high : ℤ) : Type 0 where
  pub there : column < length box.lows
  pub low : low_of box column ≤ℤ at
  pub above : at <ℤ high
  pub small : IsSmall high

-- the low of a column in a right side can be set back
pub record IsRight (box : Ranges) (column : ℕ) (low : ℤ) : Type 0 where
  pub there : column < length box.lows
  pub within : low ≤ℤ high_of box column
  pub small : IsSmall low

-- all bounds that the splits have changed can be set back, the nearest one first
abbrev pub AreFrames : Ranges → List Frame → Type 0
AreFrames box [] = Unit {0}
AreFrames box (Left column at high ∷ frames) = IsLeft box column at high × AreFrames (with_high box column high) frames
AreFrames box (Right column low ∷ frames) = IsRight box column low × AreFrames (with_low box column low) frames
