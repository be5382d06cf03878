use Rattle.std.proofs.Common.{refl}
use Rattle.program_model.specs.RuleRows.{rule_rows}
use Rattle.lo_program.proofs.FrontLaws.{front_exit, front_none, held_err, held_ok}
use Rattle.lo_program.proofs.rules.rule_rows.Goals as goal

pub returns-in_err-layout : goal.returns-in_err-layout
returns-in_err-layout c =
    let none = front_exit _ c.from_residual.result c.from_residual.ensures.1 (front_none c.args.net.now c.args.into.now c.args.into.now (rule_rows c.args.net.now) refl) in
    record {
      ok = held_ok c.from_residual.result c.args.net.now c.args.into.now c.args.into.now (rule_rows c.args.net.now) none;
      err = held_err c.from_residual.result c.args.net.now c.args.into.now c.args.into.now (rule_rows c.args.net.now) none;
    }

pub returns : goal.returns
returns c = record {
  ok = held_ok c.add_rule_rows.result c.args.net.now c.args.into.now c.add_rule_rows.new.builder (rule_rows c.args.net.now) c.add_rule_rows.ensures;
  err = held_err c.add_rule_rows.result c.args.net.now c.args.into.now c.add_rule_rows.new.builder (rule_rows c.args.net.now) c.add_rule_rows.ensures;
}
