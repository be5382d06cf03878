-- What one line of a text tells.
use Rattle.std.specs.Prelude.{◌≡◌, ◌⊎◌, ℕ, ◌+◌, ◌<◌, ◌≤◌, List, length, Option, Some, None}
use Rattle.cert_format.specs.Progress.{Progress, after_next}
use Rattle.cert_format.specs.Readers.{Marks, with_event}
use Rattle.cert_format.specs.declared.event.Event.{Event}
use Rattle.cert_format.specs.declared.event.Event.TheVariants as event
use Rattle.cert_format.specs.declared.next.Next.{Next}
use Rattle.cert_format.specs.declared.next.Next.TheVariants.{Head, Bound, Nothing, BadForm, Tail}
use Rattle.cert_format.specs.declared.reading.Ending.{Ending}
use Rattle.cert_format.specs.declared.reading.Ending.TheVariants as ending
use Rattle.cert_format.specs.inner.Counts.{awaited_in}

-- a line has to come
abbrev pub IsAwaited : Next → Type 0
IsAwaited Nothing = ⊥
IsAwaited (BadForm line) = ⊥
IsAwaited (Tail line) = ⊥
IsAwaited _ = Unit {0}

-- a line with a number, where this has to come, tells an event, and what has to come behind it
pub record IsLineRead (next : Next) (number : ℕ) (line : List ℕ) (after : Next) (told : Event) : Type 0 where
  pub said : (progress : Progress) → after_next next number progress line ≡ with_event told after progress
  pub mark : Marks told next after

-- what may come behind a line: it tells nothing where it is the first, and brings one subtree more at most
pub record Follows (next after : Next) (told : Event) : Type 0 where
  pub first : told ≡ event.More → (next ≡ Head) × (after ≡ Bound)
  pub awaited : awaited_in after ≤ awaited_in next + 1

-- what bytes tell where no line has to come
abbrev pub told_at : Next → Option Event
told_at Nothing = Some event.More
told_at (BadForm line) = Some (event.BadForm line)
told_at (Tail line) = Some (event.Tail line)
told_at _ = None

-- how a text ends, where this has to come, as the line with a number
abbrev pub ending_at : Next → ℕ → Ending
ending_at Nothing number = ending.Whole
ending_at (BadForm line) number = ending.BadForm line
ending_at (Tail line) number = ending.Tail line
ending_at _ number = ending.BadForm number

-- so many bytes of a piece are consumed, up to the end of a line at most: all where there is no other event, but for the first line
pub record ConsumesLine (before after : Option Next) (piece : List ℕ) (count : ℕ) (told : Event) : Type 0 where
  pub within : count ≤ length piece
  pub some : 0 < length piece → 0 < count
  pub all : told ≡ event.More → (count ≡ length piece) ⊎ ((before ≡ Some Head) × (after ≡ Some Bound))
  pub broken : (line : ℕ) → (before ≡ Some (BadForm line)) ⊎ (before ≡ Some (Tail line)) → count ≡ length piece
