use Rattle.std.proofs.Common.{◌≡◌, ℕ, length, arith, ap, subst}
use Rattle.std.specs.Prelude.{pos}
use Rattle.sparse_program.specs.Program.{entry, terms_of}
use Rattle.dual_prices.proofs.NeighbourLaws.{named_or_none}
use Rattle.dual_prices.proofs.neighbours.wake_neighbours.Goals as goal

pub returns-clause-apart : goal.returns-clause-apart
returns-clause-apart c i calm j =
    let rows = c.args.program.now.rows in
    let long = ap length c.terms_of-terms.ensures.value in
    let none = rw c.terms_of-terms.ensures.value at (c.loop-term.invariant.apart i calm) in
    named_or_none {X = entry rows i j ≡ pos 0} (terms_of rows c.args.row) j
    (λ k below is. subst (λ (z : ℕ). entry rows i z ≡ pos 0) is (none k (omega (arith, below, long, c.loop-term-test.false))))
