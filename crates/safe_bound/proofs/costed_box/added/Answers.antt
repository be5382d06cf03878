use Rattle.std.proofs.Common.{arith}
use Rattle.std.proofs.lemmas.Int.{ints}
use Rattle.safe_bound.proofs.PaidLaws.{least_left-small, paid-unnamed, value_of_pairs-paid}
use Rattle.safe_bound.proofs.costed_box.added.Goals as goal

pub settle-settled-requires-clause-named : goal.settle-settled-requires-clause-named
settle-settled-requires-clause-named c = paid-unnamed c.args.program.now.rows c.args.pairs.now c.pay-sides.new.paid (λ j below. c.pay-sides.ensures.paid j (omega (arith, below, c.pay-sides.auto.paid)))

pub returns-clause-value : goal.returns-clause-value
returns-clause-value c =
    let is = value_of_pairs-paid c.args.program.now c.args.with_cost c.args.bounds.now c.args.pairs.now c.pay-sides.new.paid c.requires.lawful.there (omega (arith, c.pay-sides.auto.paid, c.requires.unpaid.long))
    (λ j below. c.pay-sides.ensures.paid j (omega (arith, below, c.pay-sides.auto.paid))) in
    omega (arith, ints, is, c.pay-sides.ensures.sides, c.pay-sides.ensures.small, c.settle-settled.ensures.value, c.settle-settled.ensures.small)

pub returns-clause-small : goal.returns-clause-small
returns-clause-small c =
    let is = value_of_pairs-paid c.args.program.now c.args.with_cost c.args.bounds.now c.args.pairs.now c.pay-sides.new.paid c.requires.lawful.there (omega (arith, c.pay-sides.auto.paid, c.requires.unpaid.long))
    (λ j below. c.pay-sides.ensures.paid j (omega (arith, below, c.pay-sides.auto.paid))) in
    let left = least_left-small c.args.program.now c.args.with_cost c.args.bounds.now c.pay-sides.new.paid c.is_program.ensures c.is_box.ensures c.requires.columns (omega (arith, c.pay-sides.auto.paid, c.requires.unpaid.long)) c.pay-sides.ensures.light in
    omega (arith, ints, is, left, c.pay-sides.ensures.sides, c.pay-sides.ensures.small)
