use Rattle.std.proofs.Common.{◌≡◌, inl, inr, ◌≤◌, get_or, refl, arith, below_more}
use Rattle.std.specs.Prelude.{pos}
use Rattle.std.proofs.lemmas.Bool.{cases_lt}
use Rattle.safe_bound.specs.inner.Pairs.{IsLawfulPair}
use Rattle.safe_bound.proofs.PairLaws.{are_lawful}
use Rattle.safe_bound.proofs.lawful.are_pairs.Goals as goal

pub returns-then-pair-next : goal.returns-then-pair-next
returns-then-pair-next c = (
  λ no. absurd (cc no),
  λ lawful.
      let k = c.loop-pair.pair-index in
      let least : c.loop-pair.next ≤ (get_or c.args.pairs.now k (0, pos 0)).0 = c.loop-pair.invariant.least (get_or c.args.pairs.now k (0, pos 0)).0 (λ m before. lawful.rises m k (0, pos 0) before c.loop-pair-test.true) in
      absurd (omega arith),
)

pub loop-pair-preserved : goal.loop-pair-preserved
loop-pair-preserved c =
    let k = c.loop-pair.pair-index in
    let here : IsLawfulPair c.args.program.now.rows (get_or c.args.pairs.now k (0, pos 0)) = c.if-not-is_lawful_pair.ensures.0 refl in
    record {
      lawful = below_more _ _ c.loop-pair.invariant.lawful here;
      rises = λ m n before below.
          elim (cases_lt n k) [
            | inl inside ↦ c.loop-pair.invariant.rises m n before inside
            | inr last ↦
                let is : n ≡ k = omega arith in
                rw is (omega (arith, c.loop-pair.invariant.behind m (omega arith), c.if-pair-next.false))
          ];
      behind = below_more _ _ (λ m before. omega (arith, c.loop-pair.invariant.behind m before, c.if-pair-next.false)) (omega arith);
      least = λ row below. omega (arith, below k (omega arith));
    }

pub returns : goal.returns
returns c = (λ yes. are_lawful c.args.program.now.rows c.args.pairs.now (λ m below. c.loop-pair.invariant.lawful m (omega arith)) (λ m n before below. c.loop-pair.invariant.rises m n before (omega arith)), λ lawful. refl)
