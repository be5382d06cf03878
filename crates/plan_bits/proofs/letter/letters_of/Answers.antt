use Rattle.std.proofs.Common.{◌≡◌, length, ap, ◌∙◌, sym, arith}
use Rattle.listed.specs.Below.{join_below}
use Rattle.listed.proofs.JoinLaws.{join_below-suc, join_below-zero}
use Rattle.ct_base.specs.Access.{phase_of}
use Rattle.program_model.specs.Columns.{letters_by, letters_of}
use Rattle.plan_bits.proofs.letter.letters_of.Goals as goal

pub loop-p-init : goal.loop-p-init
loop-p-init c = c.new-letters.ensures ∙ sym (join_below-zero (λ p. letters_by p (phase_of c.args.signal.now p).clear))

pub loop-p-preserved : goal.loop-p-preserved
loop-p-preserved c =
    rw (join_below-suc c.loop-p.p (λ p. letters_by p (phase_of c.args.signal.now p).clear), ← c.loop-p.invariant, ← c.as_slice-phase-items.ensures) c.in_ok-push_letters.ensures

pub returns : goal.returns
unfolding letters_of
returns c =
    let long : length c.as_slice-phase-items.result.now ≡ length c.args.signal.now.phases = ap length c.as_slice-phase-items.ensures in
    let all : c.loop-p.p ≡ length c.args.signal.now.phases = omega (arith, long, c.loop-p-test.false, c.loop-p.auto.p-end) in
    c.loop-p.invariant ∙ ap (λ n. join_below n (λ p. letters_by p (phase_of c.args.signal.now p).clear)) all
