use Rattle.std.proofs.Common.{◌≡◌, ◌/◌, ℕ, fold, map, min, take}
use Rattle.ct_base.specs.Access.{cell_of}
use Rattle.plan_point.proofs.encoding.terms.parcels_cap.Given as goal

abbrev pub invariant-loop-target : goal.invariant-loop-target
invariant-loop-target l = l.cap ≡ fold min l.most (map (λ (branch : ℕ × ℕ). (cell_of l.cells branch.0).cap / branch.1) (take l.target-index l.turns))
