-- The word passes where what is left of it passes.
use Rattle.std.proofs.Common.{◌≡◌}
use Rattle.std.specs.Prelude.{drop}
use Rattle.phase_rules.specs.inner.Scan.{passes}
use Rattle.phase_rules.specs.declared.scan.Scan.TheVariants.{Start}
use Rattle.phase_rules.proofs.scan.admissible.Given as goal

abbrev pub invariant-loop-letter : goal.invariant-loop-letter
invariant-loop-letter l = passes l.signal l.scan (drop l.letter-index l.word) ≡ passes l.signal Start l.word
