use Rattle.std.proofs.Common.{◌≡◌, take}
use Rattle.plan_bits.specs.inner.Parts.{bits_where}
use Rattle.plan_bits.proofs.letter.are_bits_of.Given as goal

-- the bits that were passed are those of their letters
abbrev pub invariant-loop-place : goal.invariant-loop-place
invariant-loop-place l = take l.place l.bits ≡ bits_where (take l.place l.letters) l.shown
