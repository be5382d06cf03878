use Rattle.std.proofs.Common.{◌≡◌, ◌+◌}
use Rattle.std.specs.Prelude.{pos, neg_ℤ}
use Rattle.listed.specs.Below.{table_of}
use Rattle.program_model.specs.Columns.{Bit}
use Rattle.program_model.specs.Numbers.{number_of}
use Rattle.lo_program.proofs.rules.lasting.terms_of_end.Given as goal

-- the bits of the steps that were passed
abbrev pub invariant-loop-k : goal.invariant-loop-k
invariant-loop-k l = l.terms ≡ table_of l.k (λ k. (number_of l.net (Bit (l.t + k) l.bits.signal l.letter), neg_ℤ (pos 1)))
