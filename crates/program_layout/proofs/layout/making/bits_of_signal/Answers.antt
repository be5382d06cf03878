use Rattle.std.proofs.Common.{◌≡◌, length, ◌∙◌, ap, sym, arith}
use Rattle.listed.proofs.SumLaws.{sum_below-suc, sum_below-zero}
use Rattle.ct_base.specs.Access.{phase_of}
use Rattle.program_model.specs.Columns.{letters_by}
use Rattle.program_model.specs.Numbers.{letters_before}
use Rattle.program_layout.proofs.CountLaws.{few_letters_before, length-letters}
use Rattle.program_layout.proofs.layout.making.bits_of_signal.Goals as goal

pub loop-p-init : goal.loop-p-init
loop-p-init c = sym (sum_below-zero (λ q. length (letters_by q (phase_of c.args.signal.now q).clear)))

pub overflow_add-bits : goal.overflow_add-bits
overflow_add-bits c =
    omega (arith, c.letters_by-bits.ensures.few, c.loop-p.invariant, few_letters_before c.args.signal.now c.loop-p.p, c.loop-p-test.true, c.requires.phases.1)

pub loop-p-preserved : goal.loop-p-preserved
loop-p-preserved c =
    omega (arith, sum_below-suc c.loop-p.p (λ q. length (letters_by q (phase_of c.args.signal.now q).clear)), c.loop-p.invariant, c.letters_by-bits.ensures.value)

pub returns-clause-value : goal.returns-clause-value
returns-clause-value c =
    let end : c.loop-p.p ≡ length c.args.signal.now.phases = omega arith in
    c.loop-p.invariant ∙ ap (letters_before c.args.signal.now) end ∙ sym (length-letters c.args.signal.now)

pub returns-clause-few : goal.returns-clause-few
returns-clause-few c = omega (arith, c.loop-p.invariant, few_letters_before c.args.signal.now c.loop-p.p, c.requires.phases.1)
