use Rattle.std.proofs.Common.{◌≡◌, refl, ◌∙◌, arith}
use Rattle.std.specs.Int.{w64}
use Rattle.std.proofs.lemmas.Int.{ints}
use mir.Val.{of_z, to_z}
use Rattle.dual_prices.specs.Settled.{change_of}
use Rattle.dual_prices.proofs.GainLaws.{IsBestFrom-greatest, IsBestFrom-unlawful, IsBestTo-greatest}
use Rattle.dual_prices.proofs.turn.rises_to.Goals as goal

pub returns-then-can_change-clause-yes : goal.returns-then-can_change-clause-yes
returns-then-can_change-clause-yes c passed =
    let by : to_z w64 (of_z w64 c.change_of-by.result) ≡ change_of c.args.falls c.args.power = omega (arith, ints, c.change_of-by.ensures.small) ∙ c.change_of-by.ensures.value in
    let lawful = rw by at c.if-can_change.ensures in
    let greatest = rw by at c.is_rising.ensures in
    IsBestTo-greatest c.args.program.now c.args.kept.now c.args.row c.args.falls c.args.power (lawful.0 refl) (greatest.yes passed)

pub returns-then-can_change-clause-no : goal.returns-then-can_change-clause-no
returns-then-can_change-clause-no c failed =
    let by : to_z w64 (of_z w64 c.change_of-by.result) ≡ change_of c.args.falls c.args.power = omega (arith, ints, c.change_of-by.ensures.small) ∙ c.change_of-by.ensures.value in
    let lawful = rw by at c.if-can_change.ensures in
    let greatest = rw by at c.is_rising.ensures in
    IsBestFrom-greatest c.args.program.now c.args.kept.now c.args.row c.args.falls c.args.power (lawful.0 refl) (greatest.no failed)

pub returns-else-can_change-clause-no : goal.returns-else-can_change-clause-no
returns-else-can_change-clause-no c failed =
    let by : to_z w64 (of_z w64 c.change_of-by.result) ≡ change_of c.args.falls c.args.power = omega (arith, ints, c.change_of-by.ensures.small) ∙ c.change_of-by.ensures.value in
    let lawful = rw by at c.if-can_change.ensures in
    IsBestFrom-unlawful c.args.program.now c.args.kept.now c.args.row c.args.falls c.args.power c.requires.of.lawful c.requires.there (λ again. absurd (cc (lawful.1 again)))
