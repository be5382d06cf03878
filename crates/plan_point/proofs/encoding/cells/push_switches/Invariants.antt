use Rattle.std.proofs.Common.{◌≡◌, ◌++◌}
use Rattle.std.specs.Prelude.{◌==◌, pos}
use Rattle.listed.specs.Below.{table_of}
use Rattle.program_model.specs.Values.{one_where}
use Rattle.plan_point.proofs.encoding.cells.push_switches.Given as goal

abbrev pub invariant-loop-number : goal.invariant-loop-number
invariant-loop-number l = l.values.items ≡ l.initial.values.items ++ table_of l.number (λ m. pos (one_where (m == l.place)))
