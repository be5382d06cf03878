use Rattle.std.proofs.Common.{true, false, rules}
use Rattle.std.specs.Int.{w64}
use Rattle.std.specs.Prelude.{FitsSigned, ℤ, pos, ◌≤ℤ◌}
use Rattle.std.proofs.lemmas.Int.{to_z-of_z}
use Rattle.dual_prices.proofs.GainLaws.{IfNone_then, IsNoGain-slope, IsSettledRow-both, lt_z-no, lt_z-yes}
use Rattle.dual_prices.proofs.settled.best_change.Goals as goal

pub returns-then-slopes-gt0-clause-none : goal.returns-then-slopes-gt0-clause-none
returns-then-slopes-gt0-clause-none c =
    let up : ℤ = c.slopes-slopes.result.up in
    let fits : FitsSigned w64 up = search rules in
    let above : pos 0 ≤ℤ up = lt_z-yes (pos 0) up (rw (to_z-of_z w64 up fits) at c.if-slopes-gt0.true) in
    IfNone_then c.best_change_along.result c.best_change_along.ensures.none
    (λ upward. IsSettledRow-both c.args.program.now c.args.kept.now.box c.args.kept.now.prices c.args.row upward (IsNoGain-slope c.args.program.now c.args.kept.now c.args.row true up c.slopes-slopes.ensures.up (λ is. above) (λ is. absurd (cc is))))

pub returns-then-slopes-lt0-clause-none : goal.returns-then-slopes-lt0-clause-none
returns-then-slopes-lt0-clause-none c =
    let up : ℤ = c.slopes-slopes.result.up in
    let fits : FitsSigned w64 up = search rules in
    let below : up ≤ℤ pos 0 = lt_z-no (pos 0) up (rw (to_z-of_z w64 up fits) at c.if-slopes-gt0.false) in
    IfNone_then c.best_change_along-then-slopes-lt0.result c.best_change_along-then-slopes-lt0.ensures.none
    (IsSettledRow-both c.args.program.now c.args.kept.now.box c.args.kept.now.prices c.args.row (IsNoGain-slope c.args.program.now c.args.kept.now c.args.row false up c.slopes-slopes.ensures.up (λ is. absurd (cc is)) (λ is. below)))

pub returns-else-slopes-lt0-clause-none : goal.returns-else-slopes-lt0-clause-none
returns-else-slopes-lt0-clause-none c =
    let up : ℤ = c.slopes-slopes.result.up in
    let down : ℤ = c.slopes-slopes.result.down in
    let up_fits : FitsSigned w64 up = search rules in
    let down_fits : FitsSigned w64 down = search rules in
    let below : up ≤ℤ pos 0 = lt_z-no (pos 0) up (rw (to_z-of_z w64 up up_fits) at c.if-slopes-gt0.false) in
    let above : pos 0 ≤ℤ down = lt_z-no down (pos 0) (rw (to_z-of_z w64 down down_fits) at c.if-slopes-lt0.false) in
    IsSettledRow-both c.args.program.now c.args.kept.now.box c.args.kept.now.prices c.args.row
    (IsNoGain-slope c.args.program.now c.args.kept.now c.args.row false up c.slopes-slopes.ensures.up (λ is. absurd (cc is)) (λ is. below))
    (IsNoGain-slope c.args.program.now c.args.kept.now c.args.row true down c.slopes-slopes.ensures.down (λ is. above) (λ is. absurd (cc is)))
