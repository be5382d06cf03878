use Rattle.std.proofs.Common.{ℕ, List}
use Rattle.cert_check.specs.Fed.{StandsFor}
use Rattle.certificate_tests.proofs.certificates.verdict_in_pieces.Given as goal

abbrev pub invariant-loop-piece : goal.invariant-loop-piece
invariant-loop-piece g l = (fed : List ℕ) × StandsFor l.net l.checker fed
