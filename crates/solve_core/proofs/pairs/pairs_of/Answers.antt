use Rattle.std.proofs.Common.{◌≡◌, ℕ, length, ap, ◌∙◌, sym, arith, rules}
use Rattle.std.specs.Prelude.{ℤ, pos, FitsSigned, List, [], ◌∷◌, ◌++◌}
use Rattle.std.proofs.lemmas.Int.{to_z-of_z}
use mir.Val.{of_z, to_z}
use Rattle.std.specs.Int.{w64}
use Rattle.safe_bound.specs.Prices.{price_at}
use Rattle.solve_core.specs.inner.PricePairs.{pairs_below}
use Rattle.solve_core.proofs.PriceLaws.{pairs-lawful, pairs-named, pairs_below-none, pairs_below-some, pairs_below-zero}
use Rattle.solve_core.proofs.pairs.pairs_of.Goals as goal
use Rattle.solve_core.proofs.pairs.pairs_of.Goals.{then-price-ne0+in_ok-push, else-price-ne0}

pub loop-row-init : goal.loop-row-init
loop-row-init c = c.new-pairs.ensures ∙ sym (pairs_below-zero c.args.prices.now)

pub loop-row-preserved : goal.loop-row-preserved
loop-row-preserved c =
    let prices : List ℤ = c.args.prices.now in
    let row : ℕ = c.loop-row.row in
    let price : ℤ = price_at prices row in
    let fits : FitsSigned w64 price = search rules in
    elim c.if-price-ne0.branch [
      | then-price-ne0+in_ok-push w ↦
          w.pairs-is ∙ (rw (to_z-of_z w64 price fits) at w.in_ok-push.ensures.ok) ∙ ap (λ (pairs : List (ℕ × ℤ)). pairs ++ (row, price) ∷ []) c.loop-row.invariant
          ∙ sym (pairs_below-some prices row (λ none. w.if-price-ne0.true (ap (of_z w64) none)))
      | else-price-ne0 w ↦
          let none : price ≡ pos 0 = sym (to_z-of_z w64 price fits) ∙ ap (to_z w64) w.if-price-ne0.false in
          w.pairs-is ∙ c.loop-row.invariant ∙ sym (pairs_below-none prices row none)
    ]

pub returns-clause-lawful : goal.returns-clause-lawful
returns-clause-lawful c = λ rows are.
    let all : c.loop-row.row ≡ length c.args.prices.now = omega (arith, c.loop-row-test.false, c.loop-row.auto.row-end) in
    rw (c.loop-row.invariant ∙ ap (λ (n : ℕ). pairs_below c.args.prices.now n) all) (pairs-lawful rows c.args.prices.now are)

pub returns-clause-named : goal.returns-clause-named
returns-clause-named c = λ row.
    let all : c.loop-row.row ≡ length c.args.prices.now = omega (arith, c.loop-row-test.false, c.loop-row.auto.row-end) in
    rw (c.loop-row.invariant ∙ ap (λ (n : ℕ). pairs_below c.args.prices.now n) all) (pairs-named c.args.prices.now row)
