use Rattle.std.proofs.Common.{◌≡◌, ◌≤◌, ◌*◌}
use Rattle.listed.specs.Below.{sum_below}
use Rattle.ct_base.specs.Access.{phase_of}
use Rattle.program_model.specs.Numbers.{letters_before}
use Rattle.lo_program.specs.inner.Counts.{phase_rows}
use Rattle.lo_program.proofs.count.rules.letters_and_rows.Given as goal

-- the letters and the rows of the phases that were passed
abbrev pub invariant-loop-p : goal.invariant-loop-p
invariant-loop-p l = record {
  letters : l.letters ≡ letters_before l.signal l.p;
  few_letters : l.letters ≤ 2 * l.p;
  rows : l.rows ≡ sum_below l.p (λ p. phase_rows (phase_of l.signal p) l.steps l.t);
  few_rows : l.rows ≤ 100 * l.p;
}
