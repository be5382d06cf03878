use Rattle.std.proofs.Common.{◌≡◌, ◌≤◌, ◌^◌, Bool, ap, sym, ◌∙◌, arith}
use Rattle.std.specs.Prelude.{pos, unsigned_abs}
use Rattle.std.specs.Int.{w128}
use Rattle.std.proofs.lemmas.Int.{ints}
use mir.Val.{to_z}
use Rattle.certificate_model.specs.Value.{value_of_pairs}
use Rattle.safe_bound.specs.inner.Paid.{least_left}
use Rattle.safe_bound.proofs.PaidLaws.{least_left-costs, least_left-none}
use Rattle.safe_bound.proofs.costed_box.CostedBox.value.Goals as goal
use Rattle.safe_bound.proofs.costed_box.CostedBox.value.Goals.{else-with_cost, then-with_cost}

-- the answer is the value over the box as it is kept
value_is : (c : goal.Joined-with_cost) → to_z w128 c.if-with_cost.result-bits ≡ value_of_pairs c.args.program.now c.args.with_cost c.self.inside.bounds c.args.pairs.now
value_is c =
    let is = rw (← c.self.view_is) at c.requires.of in
    let few : unsigned_abs c.self.inside.costs ≤ 2 ^ 70 = rw (← c.self.view_is) at c.has_small_costs.ensures in
    let with = λ (b : Bool). least_left c.args.program.now b c.self.inside.bounds c.added-added.new.paid in
    elim c.if-with_cost.branch [
      | then-with_cost w ↦
          let left : with c.args.with_cost ≡ c.self.inside.costs = ap with w.if-with_cost.true ∙ least_left-costs c.args.program.now c.self.inside.bounds c.added-added.new.paid c.added-added.ensures.unpaid ∙ sym is.costs in
          omega (arith, ints, w.result-is, few, left, c.added-added.ensures.value, c.added-added.ensures.few)
      | else-with_cost w ↦
          let left : with c.args.with_cost ≡ pos 0 = ap with w.if-with_cost.false ∙ least_left-none c.args.program.now c.self.inside.bounds c.added-added.new.paid c.added-added.ensures.unpaid in
          omega (arith, ints, w.result-is, left, c.added-added.ensures.value, c.added-added.ensures.few)
    ]

pub returns-clause-value : goal.returns-clause-value
returns-clause-value c = rw (← c.self.view_is) (value_is c)

pub returns-clause-small : goal.returns-clause-small
returns-clause-small c = rw (value_is c) c.added-added.ensures.small
