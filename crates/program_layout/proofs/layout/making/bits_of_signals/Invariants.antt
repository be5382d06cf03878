use Rattle.std.proofs.Common.{◌≡◌}
use Rattle.listed.specs.Below.{table_of}
use Rattle.program_model.specs.Numbers.{bits_before}
use Rattle.program_layout.proofs.layout.making.bits_of_signals.Given as goal

abbrev pub invariant-loop-s : goal.invariant-loop-s
invariant-loop-s l = record {
  before : l.before ≡ table_of l.s (bits_before l.net.signals);
  all : l.all ≡ bits_before l.net.signals l.s;
}
