use Rattle.std.proofs.Common.{◌≡◌, inl, inr, Option, Some, None, subst}
use Rattle.std.specs.Prelude.{ℤ, IfSome, IsSomeAnd}
use Rattle.std.proofs.lemmas.Option.{IfSome_then}
use Rattle.dual_prices.specs.declared.settled.Gain.{Gain}
use Rattle.dual_prices.specs.inner.Gains.{IsGain}
use Rattle.dual_prices.proofs.settled.best_change_along.Goals as goal

-- what holds of the change of a gain that is there
of_some : (P : ℤ → Type 0) (o : Option Gain) (by : ℤ) → IfSome o (λ gain. P gain.by) → IsSomeAnd o (λ gain. gain.by ≡ by) → P by
of_some P None by holds is = absurd is
of_some P (Some gain) by holds is = subst P is holds

pub returns-clause-some : goal.returns-clause-some
returns-clause-some c =
    let P : ℤ → Type 0 = λ by. IsGain c.args.program.now c.args.kept.now c.args.row by in
    IfSome_then c.greater.result c.greater.ensures.some
    (λ by is.
    elim is [
      | inl first ↦ of_some P c.gain_before-before.result by c.gain_before-before.ensures.some first
      | inr second ↦ of_some P c.gain_from-from.result by c.gain_from-from.ensures.some second
    ])
