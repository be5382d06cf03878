use Rattle.std.proofs.Common.{rules, ◌≤ℤ◌, ℤ, pos}
use Rattle.std.specs.Int.{w64}
use Rattle.std.specs.Prelude.{FitsSigned}
use Rattle.std.proofs.lemmas.Int.{to_z-of_z}
use Rattle.kept_value.specs.Kept.{IsSlope}
use Rattle.dual_prices.proofs.GainLaws.{IsGreatestFrom-slope, IsGreatestTo-slope, le_z-no, le_z-yes}
use Rattle.dual_prices.proofs.turn.is_rising.Goals as goal

pub returns-then-falls-clause-yes : goal.returns-then-falls-clause-yes
returns-then-falls-clause-yes c passed =
    let slope : ℤ = c.slopes-slopes.result.up in
    let fits : FitsSigned w64 slope = search rules in
    let line : IsSlope c.args.program.now c.args.kept.now.box c.args.kept.now.prices c.args.row c.args.by slope = rw (to_z-of_z w64 c.args.by c.ranges.by) at c.slopes-slopes.ensures.up in
    let below : slope ≤ℤ pos 0 = le_z-yes slope (pos 0) (rw (to_z-of_z w64 slope fits) at passed) in
    IsGreatestTo-slope c.args.program.now c.args.kept.now c.args.row c.args.falls c.args.by slope line (λ is. below) (λ is. absurd (cc (is, c.if-falls.true)))

pub returns-then-falls-clause-no : goal.returns-then-falls-clause-no
returns-then-falls-clause-no c failed =
    let slope : ℤ = c.slopes-slopes.result.up in
    let fits : FitsSigned w64 slope = search rules in
    let line : IsSlope c.args.program.now c.args.kept.now.box c.args.kept.now.prices c.args.row c.args.by slope = rw (to_z-of_z w64 c.args.by c.ranges.by) at c.slopes-slopes.ensures.up in
    let above : pos 0 ≤ℤ slope = le_z-no slope (pos 0) (rw (to_z-of_z w64 slope fits) at failed) in
    IsGreatestFrom-slope c.args.program.now c.args.kept.now c.args.row c.args.falls c.args.by slope line (λ is. above) (λ is. absurd (cc (is, c.if-falls.true)))

pub returns-else-falls-clause-yes : goal.returns-else-falls-clause-yes
returns-else-falls-clause-yes c passed =
    let slope : ℤ = c.slopes-slopes.result.down in
    let fits : FitsSigned w64 slope = search rules in
    let line : IsSlope c.args.program.now c.args.kept.now.box c.args.kept.now.prices c.args.row c.args.by slope = rw (to_z-of_z w64 c.args.by c.ranges.by) at c.slopes-slopes.ensures.down in
    let above : pos 0 ≤ℤ slope = le_z-yes (pos 0) slope (rw (to_z-of_z w64 slope fits) at passed) in
    IsGreatestTo-slope c.args.program.now c.args.kept.now c.args.row c.args.falls c.args.by slope line (λ is. absurd (cc (is, c.if-falls.false))) (λ is. above)

pub returns-else-falls-clause-no : goal.returns-else-falls-clause-no
returns-else-falls-clause-no c failed =
    let slope : ℤ = c.slopes-slopes.result.down in
    let fits : FitsSigned w64 slope = search rules in
    let line : IsSlope c.args.program.now c.args.kept.now.box c.args.kept.now.prices c.args.row c.args.by slope = rw (to_z-of_z w64 c.args.by c.ranges.by) at c.slopes-slopes.ensures.down in
    let below : slope ≤ℤ pos 0 = le_z-no (pos 0) slope (rw (to_z-of_z w64 slope fits) at failed) in
    IsGreatestFrom-slope c.args.program.now c.args.kept.now c.args.row c.args.falls c.args.by slope line (λ is. absurd (cc (is, c.if-falls.false))) (λ is. below)
