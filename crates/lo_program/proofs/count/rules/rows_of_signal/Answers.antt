use Rattle.std.proofs.Common.{length, ap, sym, arith}
use Rattle.std.proofs.lemmas.List.{length-append}
use Rattle.listed.specs.Below.{join_below}
use Rattle.listed.proofs.JoinLaws.{join_below-suc, join_below-zero}
use Rattle.program_model.specs.RuleRows.{rule_rows_at}
use Rattle.lo_program.proofs.RowCounts.{length_step}
use Rattle.lo_program.proofs.count.rules.rows_of_signal.Goals as goal

pub loop-t-init : goal.loop-t-init
loop-t-init c = record {
  value = ap length (sym (join_below-zero (rule_rows_at c.args.signal.now c.args.steps c.args.s)));
  few = omega arith;
}

pub loop-t-preserved : goal.loop-t-preserved
loop-t-preserved c = record {
  value = rw (join_below-suc c.loop-t.t (rule_rows_at c.args.signal.now c.args.steps c.args.s), length-append (join_below c.loop-t.t (rule_rows_at c.args.signal.now c.args.steps c.args.s)) (rule_rows_at c.args.signal.now c.args.steps c.args.s c.loop-t.t))
      (omega (arith, c.loop-t.invariant.value, c.rows_of_step-rows.ensures.value, length_step c.args.signal.now c.args.steps c.args.s c.loop-t.t c.loop-t-test.true));
  few = omega (arith, c.loop-t.invariant.few, c.rows_of_step-rows.ensures.few);
}
