use Rattle.std.proofs.Common.{◌≡◌, true}
use Rattle.listed.specs.Below.{whole_sum_below}
use Rattle.certificate_model.specs.Value.{column_value, cost_counted}
use Rattle.safe_bound.proofs.costed_box.least_costs.Given as goal

abbrev pub invariant-loop-j : goal.invariant-loop-j
invariant-loop-j l = l.costs ≡ whole_sum_below l.j (λ k. column_value l.bounds (cost_counted l.program true k) k)
