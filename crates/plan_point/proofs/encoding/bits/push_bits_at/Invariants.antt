use Rattle.std.proofs.Common.{◌≡◌, ◌++◌, [], map, get_or}
use Rattle.ct_base.specs.Access.{signal_of}
use Rattle.ct_base.specs.declared.plan.Letter.TheVariants.{Clear}
use Rattle.listed.specs.Below.{join_below}
use Rattle.program_model.specs.Columns.{letters_of}
use Rattle.plan_point.specs.inner.Points.{bit_count}
use Rattle.plan_point.proofs.encoding.bits.push_bits_at.Given as goal

abbrev pub invariant-loop-number : goal.invariant-loop-number
invariant-loop-number l =
    l.values.items ≡ l.initial.values.items ++ join_below l.number (λ s. map (bit_count (get_or (get_or l.words s []) l.step (Clear 0))) (letters_of (signal_of l.net.signals s)))
