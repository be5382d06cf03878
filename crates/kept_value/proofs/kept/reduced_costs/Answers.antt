use Rattle.std.proofs.Common.{◌≡◌, List, [], ◌∷◌, ◌++◌, ap, ◌∙◌, arith, below_more}
use Rattle.std.specs.Int.{w128}
use Rattle.std.specs.Prelude.{FitsSigned, ℤ, pos}
use Rattle.std.proofs.lemmas.Int.{to_z-of_z}
use Rattle.std.proofs.lemmas.List.{get_or_append_left, get_or_at}
use Rattle.kept_value.specs.Kept.{reduced_at}
use Rattle.kept_value.proofs.kept.reduced_costs.Goals as goal

pub loop-j-preserved : goal.loop-j-preserved
loop-j-preserved c =
    let x : ℤ = c.reduced_cost.result in
    let fits : FitsSigned w128 x = record { sfits = c.reduced_cost.type_inv } in
    let items : c.push.new.self.items ≡ c.loop-j.reduced.items ++ x ∷ [] = c.in_ok-push.ensures.items ∙ ap (λ (z : ℤ). c.loop-j.reduced.items ++ z ∷ []) (to_z-of_z w128 x fits) in
    record {
      long = omega (arith, c.in_ok-push.ensures.len, c.loop-j.invariant.long);
      each = below_more _ _
          (λ k below. ap (λ (xs : List ℤ). reduced_at xs k) items ∙ get_or_append_left c.loop-j.reduced.items (x ∷ []) (pos 0) k (omega (arith, below, c.loop-j.invariant.long)) ∙ c.loop-j.invariant.each k below)
          (ap (λ (xs : List ℤ). reduced_at xs c.loop-j.j) items ∙ get_or_at c.loop-j.reduced.items x [] (pos 0) c.loop-j.j c.loop-j.invariant.long ∙ c.reduced_cost.ensures.value);
    }
