use Rattle.std.proofs.Common.{◌≡◌, ℕ, ◌+◌, ◌<◌, ◌≤◌, [], ◌∷◌, ◌++◌, take, get_or, arith}
use Rattle.std.specs.Prelude.{ℤ, pos}
use Rattle.std.proofs.lemmas.Int.{ints}
use Rattle.std.proofs.lemmas.List.{take_more}
use Rattle.std.proofs.lemmas.List.Elements.{All-push, All-weaker}
use Rattle.sparse_program.specs.Terms.{IsSmall}
use Rattle.sparse_program.proofs.LawfulTerms.{AreTerms-push}
use Rattle.program_tests.proofs.one_link.are_terms.Goals as goal

pub loop-term-preserved : goal.loop-term-preserved
loop-term-preserved c =
    let i = c.loop-term.term-index in
    let terms = c.args.terms.now in
    let term = get_or terms i (0, pos 0) in
    let before = c.loop-term.invariant in
    let more : take (i + 1) terms ≡ take i terms ++ term ∷ [] = take_more terms i (0, pos 0) c.loop-term-test.true in
    let small : IsSmall term.1 = omega (arith, ints, c.if-term-ltminus1000.false, c.if-term-gt1000.false) in
    let from : c.loop-term.from ≤ term.0 = c.if-term-from.false in
    let there : term.0 < c.args.columns = c.if-columns-term.false in
    rw more (record {
      lawful = AreTerms-push c.args.columns (take i terms) term before.lawful
          (All-weaker (λ (other : ℕ × ℤ). other.0 < c.loop-term.from) (λ (other : ℕ × ℤ). other.0 < term.0) (λ other low. omega arith) (take i terms) before.below) there small;
      below = All-push (λ (other : ℕ × ℤ). other.0 < term.0 + 1) (take i terms) term
          (All-weaker (λ (other : ℕ × ℤ). other.0 < c.loop-term.from) (λ (other : ℕ × ℤ). other.0 < term.0 + 1) (λ other low. omega arith) (take i terms) before.below) (omega arith);
    })
