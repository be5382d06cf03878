use Rattle.std.proofs.Common.{◌+◌, ℕ, sym, arith}
use Rattle.listed.proofs.SumLaws.{sum_below-suc, sum_below-zero}
use Rattle.program_model.specs.Columns.{Bit}
use Rattle.rule_breaks.specs.inner.Parts.{on}
use Rattle.rule_breaks.proofs.lasting.steps_on.Goals as goal

pub loop-k-init : goal.loop-k-init
loop-k-init c = record { value = sym (sum_below-zero _); few = omega arith }

pub loop-k-preserved : goal.loop-k-preserved
loop-k-preserved c =
    let count : ℕ → ℕ = λ k. on c.args.net.now c.args.bits.now (Bit (c.args.t + k) c.args.part.now.signal c.args.letter) in
    record {
      value = omega (arith, sum_below-suc c.loop-k.k count, c.loop-k.invariant.value, c.bit-steps.ensures.value);
      few = omega (arith, c.loop-k.invariant.few, c.bit-steps.ensures.few);
    }
