use Rattle.std.proofs.Common.{◌≡◌, ◌≤◌, ◌*◌, filter, sum_by}
use Rattle.listed.specs.Below.{join_below}
use Rattle.ct_base.specs.Access.{phase_of, signal_of}
use Rattle.program_model.specs.Columns.{Bit, letters_by}
use Rattle.rule_breaks.specs.inner.Kinds.{may_come}
use Rattle.rule_breaks.specs.inner.Parts.{on}
use Rattle.rule_breaks.proofs.letters.letters_on.Given as goal

-- the letters of the phases that were passed
abbrev pub invariant-loop-p : goal.invariant-loop-p
invariant-loop-p l = record {
  value : l.letters ≡ sum_by (λ letter. on l.net l.bits (Bit l.t l.part.signal letter)) (filter (may_come (signal_of l.net.signals l.part.signal) l.before) (join_below l.p (λ p. letters_by p (phase_of (signal_of l.net.signals l.part.signal) p).clear)));
  few : l.letters ≤ 2 * l.p;
}
