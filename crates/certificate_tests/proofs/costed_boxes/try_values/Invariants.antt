use Rattle.safe_bound.specs.Costed.{IsCostedOf}
use Rattle.certificate_tests.proofs.costed_boxes.try_values.Given as goal

abbrev pub invariant-loop-one : goal.invariant-loop-one
invariant-loop-one g l = IsCostedOf l.program l.costed
