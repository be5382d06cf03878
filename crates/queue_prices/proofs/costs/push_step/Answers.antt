use Rattle.std.proofs.Common.{List, ◌∙◌, subst, sym, w64}
use Rattle.std.specs.Prelude.{ℤ}
use Rattle.std.proofs.lemmas.Int.{to_z-of_z}
use Rattle.queue_prices.specs.Zero.{AreZero}
use Rattle.queue_prices.proofs.ZeroLaws.{zero_push}
use Rattle.queue_prices.proofs.costs.push_step.Goals as goal

pub loop-i-preserved : goal.loop-i-preserved
loop-i-preserved c = λ gates costs.
    let so_far : AreZero c.loop-i.costs.items = c.loop-i.invariant gates costs in
    let seen : AreZero c.as_slice.result.now = subst (λ (items : List ℤ). AreZero items) (sym c.as_slice.ensures.value) so_far in
    let priced = to_z-of_z w64 c.least-cost.result (record { sfits = c.least-cost.type_inv }) ∙ c.least-cost.ensures (c.at.ensures.stay seen) (c.at.ensures.go gates seen) in
    subst (λ (items : List ℤ). AreZero items) (sym c.in_ok-push.ensures.items) (zero_push c.loop-i.costs.items _ priced so_far)
