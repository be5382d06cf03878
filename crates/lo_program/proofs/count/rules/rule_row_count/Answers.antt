use Rattle.std.proofs.Common.{◌≡◌, length, ap, ◌∙◌, sym, arith, rules}
use Rattle.std.proofs.lemmas.List.{length-append}
use Rattle.listed.specs.Below.{join_below}
use Rattle.listed.proofs.JoinLaws.{join_below-suc, join_below-zero}
use Rattle.program_model.specs.RuleRows.{rule_rows}
use Rattle.lo_program.proofs.StepLaws.{rows_of_signal}
use Rattle.lo_program.proofs.count.rules.rule_row_count.Goals as goal

pub loop-s-init : goal.loop-s-init
loop-s-init c = record { value = ap length (sym (join_below-zero (rows_of_signal c.args.net.now))); few = omega arith }

pub loop-s-preserved : goal.loop-s-preserved
loop-s-preserved c = record {
  value = rw (join_below-suc c.loop-s.s (rows_of_signal c.args.net.now), length-append (join_below c.loop-s.s (rows_of_signal c.args.net.now)) (rows_of_signal c.args.net.now c.loop-s.s))
      (omega (arith, c.loop-s.invariant.value, rw c.signal.ensures.value at c.rows_of_signal-rows.ensures.value));
  few = omega (arith, c.loop-s.invariant.few, c.rows_of_signal-rows.ensures.few);
}

pub returns-clause-value : goal.returns-clause-value
unfolding rule_rows
returns-clause-value c =
    let all : c.loop-s.s ≡ length c.args.net.now.signals = search (rules, c.loop-s-test.false, c.loop-s.auto.s-end) in
    c.loop-s.invariant.value ∙ ap (λ n. length (join_below n (rows_of_signal c.args.net.now))) all
