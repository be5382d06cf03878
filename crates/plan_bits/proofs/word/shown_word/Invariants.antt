use Rattle.std.proofs.Common.{◌≡◌, map}
use Rattle.listed.specs.Below.{table_of}
use Rattle.plan_bits.specs.inner.Parts.{bits_where, part_of_signal}
use Rattle.plan_bits.proofs.word.shown_word.Given as goal

-- the letters show the parts of the steps that were passed
abbrev pub invariant-loop-step : goal.invariant-loop-step
invariant-loop-step l = map (bits_where l.letters) l.word ≡ table_of l.step (part_of_signal l.net l.bits l.number)
