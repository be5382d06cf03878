use Rattle.std.proofs.Common.{◌≡◌}
use Rattle.program_model.specs.Numbers.{bits_before}
use Rattle.plan_bits.specs.inner.Parts.{AreWordsOfBits}
use Rattle.plan_bits.proofs.plan.words_of_bits.Given as goal

-- the bits of a step of the signals that were passed, and their words
abbrev pub invariant-loop-number : goal.invariant-loop-number
invariant-loop-number l = record {
  first : l.first ≡ bits_before l.net.signals l.number;
  words : AreWordsOfBits l.net l.bits l.number l.words;
}
