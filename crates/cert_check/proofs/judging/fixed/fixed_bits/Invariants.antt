use Rattle.std.proofs.Common.{◌≡◌, take}
use Rattle.cert_check.proofs.judging.fixed.fixed_bits.Given as goal

abbrev pub invariant-loop-j : goal.invariant-loop-j
invariant-loop-j l = record {
  lows : l.bits.items ≡ take l.j l.costed.box.lows;
  highs : l.bits.items ≡ take l.j l.costed.box.highs;
}
