use Rattle.std.proofs.Common.{◌≡◌, ◌++◌, map}
use Rattle.ct_base.specs.Access.{phase_of}
use Rattle.listed.specs.Below.{join_below}
use Rattle.program_model.specs.Columns.{letters_by}
use Rattle.plan_point.specs.inner.Points.{bit_count}
use Rattle.plan_point.proofs.encoding.bits.push_bits_of.Given as goal

abbrev pub invariant-loop-number : goal.invariant-loop-number
invariant-loop-number l = l.values.items ≡ l.initial.values.items ++ map (bit_count l.shown) (join_below l.number (λ p. letters_by p (phase_of l.signal p).clear))
