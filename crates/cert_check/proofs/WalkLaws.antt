-- A box that is narrowed and set back is the same box, and what this makes of the boxes that wait.
use Rattle.std.proofs.Common.{◌≡◌, ℕ, ◌≤◌, ◌<◌, ℤ, pos, ◌+ℤ◌, List, ◌∷◌, Bool, true, false, Option, Some, None, refl, sym, ◌∙◌, ap, subst, take, length, length-set, arith}
use Rattle.std.specs.Prelude.{if◌then◌else◌, nat_lt, IfSome}
use Rattle.std.proofs.lemmas.List.{set-set, set-get_or, take-set-le}
use Rattle.sparse_program.specs.Box.{IsBox, Ranges, high_of, low_of}
use Rattle.certificate_model.specs.Tree.{IsSplit, left_of, right_of}
use Rattle.cert_check.specs.declared.frame.Frame.{Frame}
use Rattle.cert_check.specs.declared.frame.Frame.TheVariants.{Left, Right}
use Rattle.cert_check.specs.declared.known.Known.{Known}
use Rattle.cert_check.specs.declared.walk.Walk.{Walk}
use Rattle.cert_check.specs.inner.Waiting.{AreFrames, waiting, with_high, with_low}
use Rattle.cert_check.specs.inner.Walks.{IsStillKnown, StaysKnown}

-- a high that is set back
pub with_high-left_of : (box : Ranges) (column : ℕ) (at : ℤ) → with_high (left_of box column at) column (high_of box column) ≡ box
with_high-left_of box column at =
    ap (λ (highs : List ℤ). record box { highs = highs }) (set-set box.highs column at (high_of box column) ∙ set-get_or box.highs column (pos 0))

-- a low that is set back
pub with_low-right_of : (box : Ranges) (column : ℕ) (at : ℤ) → with_low (right_of box column at) column (low_of box column) ≡ box
with_low-right_of box column at =
    ap (λ (lows : List ℤ). record box { lows = lows }) (set-set box.lows column (at +ℤ pos 1) (low_of box column) ∙ set-get_or box.lows column (pos 0))

-- what waits in the left side of a split: its right side, and what waited before
pub waiting-left : (box : Ranges) (frames : List Frame) (column : ℕ) (at : ℤ) →
    waiting (left_of box column at) (Left column at (high_of box column) ∷ frames) ≡ right_of box column at ∷ waiting box frames
waiting-left box frames column at =
    ap (λ (outer : Ranges). right_of outer column at ∷ waiting outer frames) (with_high-left_of box column at)

-- what waits in the right side of a split: what waited before
pub waiting-right : (box : Ranges) (frames : List Frame) (column : ℕ) (at : ℤ) →
    waiting (right_of box column at) (Right column (low_of box column) ∷ frames) ≡ waiting box frames
waiting-right box frames column at = ap (λ (outer : Ranges). waiting outer frames) (with_low-right_of box column at)

-- the left side of a split can be set back
pub AreFrames-left : (box : Ranges) (frames : List Frame) (column : ℕ) (at : ℤ) →
    IsBox box → IsSplit box column at → AreFrames box frames → AreFrames (left_of box column at) (Left column at (high_of box column) ∷ frames)
AreFrames-left box frames column at is_box split below = (
  record { there = split.there; low = split.low; above = split.high; small = (is_box.each column split.there).high },
  subst (λ (outer : Ranges). AreFrames outer frames) (sym (with_high-left_of box column at)) below,
)

-- the right side of a split can be set back
pub AreFrames-right : (box : Ranges) (frames : List Frame) (column : ℕ) (at : ℤ) →
    IsBox box → column < length box.lows → AreFrames box frames → AreFrames (right_of box column at) (Right column (low_of box column) ∷ frames)
AreFrames-right box frames column at is_box there below = (
  record {
    there = subst (λ (n : ℕ). column < n) (sym (length-set box.lows column (at +ℤ pos 1))) there;
    within = (is_box.each column there).bounds;
    small = (is_box.each column there).low;
  },
  subst (λ (outer : Ranges). AreFrames outer frames) (sym (with_low-right_of box column at)) below,
)

-- what holds of each value that is there
pub IfSome-each : (P : ℕ → Type 0) (found : Option ℕ) → ((delay : ℕ) → found ≡ Some delay → P delay) → IfSome found P
IfSome-each P None each = tt
IfSome-each P (Some delay) each = each delay refl

-- what holds of the value that is there
pub IfSome-at : (P : ℕ → Type 0) (found : Option ℕ) (delay : ℕ) → found ≡ Some delay → IfSome found P → P delay
IfSome-at P found delay is holds = let F : Option ℕ → Type 0 = λ o. IfSome o P in subst F is holds

-- a delay that is not forgotten is still known
pub still_known : (plan column : ℕ) (old new : Walk) →
    (plan ≤ column → (take plan new.costed.box.lows ≡ take plan old.costed.box.lows) × (take plan new.costed.box.highs ≡ take plan old.costed.box.highs)) →
    new.known ≡ record old.known { delay = if nat_lt column plan then None else old.known.delay } → StaysKnown plan old new
still_known plan column old new same is = record {
  delay = still_known_where (nat_lt column plan) refl (ap (λ (known : Known). known.delay) is);
  last = ap (λ (known : Known). known.last) is;
}
  where
    still_known_where : (b : Bool) → nat_lt column plan ≡ b → new.known.delay ≡ (if b then None else old.known.delay) → IfSome new.known.delay (IsStillKnown plan old new)
    still_known_where true test is = subst (λ (o : Option ℕ). IfSome o (IsStillKnown plan old new)) (sym is) tt
    still_known_where false test is =
        let kept = same (grind (arith, test)) in
        IfSome-each (IsStillKnown plan old new) new.known.delay (λ delay found. record { was = sym is ∙ found; lows = kept.0; highs = kept.1 })

-- nothing has changed
pub still_known-same : (plan : ℕ) (walk : Walk) → StaysKnown plan walk walk
still_known-same plan walk = record {
  delay = IfSome-each (IsStillKnown plan walk walk) walk.known.delay (λ delay found. record { was = found; lows = refl; highs = refl });
  last = refl;
}

-- one change after another
pub still_known-more : (plan : ℕ) (old middle new : Walk) → StaysKnown plan old middle → StaysKnown plan middle new → StaysKnown plan old new
still_known-more plan old middle new before after = record {
  delay = IfSome-each (IsStillKnown plan old new) new.known.delay (λ delay found.
      let later = IfSome-at (IsStillKnown plan middle new) new.known.delay delay found after.delay in
      let earlier = IfSome-at (IsStillKnown plan old middle) middle.known.delay delay later.was before.delay in
      record { was = earlier.was; lows = later.lows ∙ earlier.lows; highs = later.highs ∙ earlier.highs });
  last = after.last ∙ before.last;
}

-- the frames of a left side that was entered
pub frames_of_left : (box inner : Ranges) (frames below : List Frame) (column : ℕ) (at high : ℤ) →
    IsBox box → IsSplit box column at → AreFrames box frames → inner ≡ left_of box column at → high ≡ high_of box column →
    below ≡ Left column at high ∷ frames → AreFrames inner below
frames_of_left box inner frames below column at high is_box split is inner_is high_is below_is =
    rw (below_is, high_is, inner_is) (AreFrames-left box frames column at is_box split is)

-- the boxes of a left side that was entered
pub boxes_of_left : (box inner : Ranges) (frames below : List Frame) (column : ℕ) (at high : ℤ) →
    inner ≡ left_of box column at → high ≡ high_of box column → below ≡ Left column at high ∷ frames →
    inner ∷ waiting inner below ≡ left_of box column at ∷ right_of box column at ∷ waiting box frames
boxes_of_left box inner frames below column at high inner_is high_is below_is =
    rw (below_is, high_is, inner_is) (ap (λ (more : List Ranges). left_of box column at ∷ more) (waiting-left box frames column at))

-- the frames of a right side that was entered
pub frames_of_right : (box inner : Ranges) (frames below : List Frame) (column : ℕ) (at low : ℤ) →
    IsBox box → column < length box.lows → AreFrames box frames → inner ≡ right_of box column at → low ≡ low_of box column →
    below ≡ Right column low ∷ frames → AreFrames inner below
frames_of_right box inner frames below column at low is_box there is inner_is low_is below_is =
    rw (below_is, low_is, inner_is) (AreFrames-right box frames column at is_box there is)

-- the boxes of a right side that was entered
pub boxes_of_right : (box inner : Ranges) (frames below : List Frame) (column : ℕ) (at low : ℤ) →
    inner ≡ right_of box column at → low ≡ low_of box column → below ≡ Right column low ∷ frames →
    inner ∷ waiting inner below ≡ right_of box column at ∷ waiting box frames
boxes_of_right box inner frames below column at low inner_is low_is below_is =
    rw (below_is, low_is, inner_is) (ap (λ (more : List Ranges). right_of box column at ∷ more) (waiting-right box frames column at))

-- a right side keeps the bounds of the columns before its own
pub takes_of_right : (plan column : ℕ) (old outer inner : Ranges) (at high : ℤ) →
    outer ≡ with_high old column high → inner ≡ right_of outer column at → plan ≤ column →
    (take plan inner.lows ≡ take plan old.lows) × (take plan inner.highs ≡ take plan old.highs)
takes_of_right plan column old outer inner at high outer_is inner_is before =
    rw (inner_is, outer_is)
    (take-set-le plan old.lows column (at +ℤ pos 1) before, take-set-le plan old.highs column high before)
