use Rattle.std.proofs.Common.{◌≡◌, ◌≤◌, ◌*◌}
use Rattle.listed.specs.Below.{table_of}
use Rattle.program_model.specs.Numbers.{letters_before}
use Rattle.lo_program.proofs.rules.bits.places_of_greens.Given as goal

-- a place for each phase that was passed, and the letters of all of them
abbrev pub invariant-loop-p : goal.invariant-loop-p
invariant-loop-p l = record {
  places : l.places ≡ table_of l.p (letters_before l.signal);
  before : l.before ≡ letters_before l.signal l.p;
  few : l.before ≤ l.p * 2;
}
