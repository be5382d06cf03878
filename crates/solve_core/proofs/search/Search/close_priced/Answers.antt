use Rattle.std.proofs.Common.{◌≡◌, arith}
use Rattle.std.specs.Int.{w128}
use Rattle.std.proofs.lemmas.Int.{ints}
use mir.Val.{of_z, to_z}
use Rattle.program_model.specs.Points.{program_of}
use Rattle.certificate_model.specs.Leaves.{IsCeiling}
use Rattle.solve_core.proofs.PriceLaws.{can_close}
use Rattle.solve_core.proofs.search.Search.close_priced.Goals as goal

pub close-requires-clause-can : goal.close-requires-clause-can
close-requires-clause-can c =
    let made = c.in_ok-pairs.ensures in
    let value : to_z w128 (of_z w128 c.value.result) ≡ c.args.self.now.kept.value = omega (arith, ints, c.value.ensures.value, c.value.ensures.small) in
    let gives : IsCeiling c.args.self.now.kept.value c.ceiling-number.result = rw value at c.ceiling-number.ensures in
    let number : to_z w128 (of_z w128 c.ceiling-number.result) ≡ c.ceiling-number.result = omega (arith, ints, gives.enough, gives.least, c.value.ensures.value, c.value.ensures.small) in
    rw number (can_close c.args.net.now c.args.budget c.args.self.now c.in_ok-pairs.pairs c.ceiling-number.result c.requires.searching c.requires.open c.requires.worked c.requires.reaches
    (made.lawful (program_of c.args.net.now).rows (rw c.prices.ensures c.requires.worked.lawful)) (λ row. rw c.prices.ensures at (made.named row)) gives)
