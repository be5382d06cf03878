use Rattle.std.proofs.Common.{◌≡◌, ◌≤◌, ◌*◌}
use Rattle.program_model.specs.Numbers.{letters_before}
use Rattle.rule_breaks.proofs.part.letters_before.Given as goal

-- the letters of the phases that were passed
abbrev pub invariant-loop-q : goal.invariant-loop-q
invariant-loop-q l = record {
  value : l.before ≡ letters_before l.signal l.q;
  few : l.before ≤ 2 * l.q;
}
