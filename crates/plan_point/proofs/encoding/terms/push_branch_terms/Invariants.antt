use Rattle.std.proofs.Common.{◌≡◌, ◌++◌, ◌/◌, ℕ, map, slice_index, take}
use Rattle.ct_base.specs.Access.{cell_of}
use Rattle.traffic_model.specs.Flow.{receiving}
use Rattle.plan_point.proofs.encoding.terms.push_branch_terms.Given as goal

abbrev pub invariant-loop-target : goal.invariant-loop-target
invariant-loop-target l =
    l.terms.items ≡ l.initial.terms.items ++ map (λ (branch : ℕ × ℕ). receiving (cell_of l.cells branch.0) (slice_index l.units branch.0) / branch.1) (take l.target-index l.turns)
