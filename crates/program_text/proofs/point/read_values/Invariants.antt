-- The lines that were read are those of the values so far.
use Rattle.std.proofs.Common.{◌≡◌, ◌+◌, ◌≤◌, ◌++◌, length}
use Rattle.std.specs.Prelude.{All, codes}
use Rattle.program_text.specs.PointText.{IsWhole}
use Rattle.program_text.proofs.ReadLaws.{read_before}
use Rattle.program_text.proofs.point.read_values.Given as goal

abbrev pub invariant-loop-line : goal.invariant-loop-line
invariant-loop-line l = record {
  text : codes "ctm-point 1\n" ++ l.fn.bytes ≡ read_before l.values l.rest;
  wholes : All IsWhole l.values;
  number : l.number ≡ length l.values + 2;
  count : l.number + length l.rest ≤ length l.fn.bytes + 2;
}

abbrev pub decreases-loop-line : goal.decreases-loop-line
decreases-loop-line l = length l.rest
