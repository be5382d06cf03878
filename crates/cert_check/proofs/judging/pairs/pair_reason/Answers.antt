use Rattle.std.proofs.Common.{rules, ℕ, ◌≡◌, get_or, pos, Some}
use Rattle.std.specs.Int.{w64}
use Rattle.std.specs.Prelude.{FitsSigned, ℤ}
use Rattle.std.proofs.lemmas.Int.{to_z-of_z}
use Rattle.cert_check.specs.inner.Firsts.{first_of, reasons_of_pair}
use Rattle.cert_check.proofs.ReasonFirsts.{first_of_pairs}
use Rattle.cert_check.proofs.judging.pairs.pair_reason.Goals as goal

pub returns-in-Some : goal.returns-in-Some
returns-in-Some c =
    let pair : ℕ × ℤ = get_or c.args.pairs.now c.loop-pair.pair-index (0, pos 0) in
    let fits : FitsSigned w64 pair.1 = search rules in
    let here : Some c.in-Some.why ≡ first_of (reasons_of_pair c.args.program.now.rows c.loop-pair.next pair) = simp to_z-of_z at c.in-Some.ensures.reason in
    first_of_pairs c.args.program.now.rows c.loop-pair.next c.loop-pair.pair-index c.args.pairs.now (0, pos 0) c.in-Some.why c.loop-pair-test.true here c.loop-pair.invariant
