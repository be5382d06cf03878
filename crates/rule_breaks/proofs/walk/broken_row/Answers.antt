use Rattle.std.proofs.Common.{ap, ◌∙◌, sym, arith}
use Rattle.program_model.specs.RuleRows.{rule_rows}
use Rattle.rule_breaks.specs.Breaks.{value_in}
use Rattle.rule_breaks.proofs.FewRows.{few_rule_rows}
use Rattle.rule_breaks.proofs.FirstBreak.{first_is}
use Rattle.rule_breaks.proofs.NoneBroken.{result_where_plan}
use Rattle.rule_breaks.proofs.WalkLaws.{found_by, walk_finds}
use Rattle.rule_breaks.proofs.walk.broken_row.Goals as goal

pub returns-in-Ok-clause-value : goal.returns-in-Ok-clause-value
returns-in-Ok-clause-value c =
    ap found_by c.in-Ok.ensures ∙ walk_finds (value_in c.args.net.now c.args.bits.now) c.args.steps 0 (rule_rows c.args.net.now) (omega (arith, few_rule_rows c.args.net.now c.requires.valid))

pub returns-in-Ok-clause-none : goal.returns-in-Ok-clause-none
returns-in-Ok-clause-none c = λ fixed.
    let found = ap found_by c.in-Ok.ensures ∙ walk_finds (value_in c.args.net.now c.args.bits.now) c.args.steps 0 (rule_rows c.args.net.now) (omega (arith, few_rule_rows c.args.net.now c.requires.valid)) in
    result_where_plan c.args.net.now c.args.bits.now c.args.steps _ (record { valid = c.requires.valid; columns = c.requires.columns; off_or_on = c.requires.bits }) c.requires.some c.requires.within found fixed

pub returns-in-Err-clause-value : goal.returns-in-Err-clause-value
returns-in-Err-clause-value c =
    ap found_by c.in-Err.ensures ∙ walk_finds (value_in c.args.net.now c.args.bits.now) c.args.steps 0 (rule_rows c.args.net.now) (omega (arith, few_rule_rows c.args.net.now c.requires.valid))

pub returns-in-Err-clause-some : goal.returns-in-Err-clause-some
returns-in-Err-clause-some c =
    let value = value_in c.args.net.now c.args.bits.now in
    first_is value c.args.steps (rule_rows c.args.net.now) c.in-Err.found
    (sym (ap found_by c.in-Err.ensures ∙ walk_finds value c.args.steps 0 (rule_rows c.args.net.now) (omega (arith, few_rule_rows c.args.net.now c.requires.valid))))

pub returns-in-Err-clause-none : goal.returns-in-Err-clause-none
returns-in-Err-clause-none c = λ fixed.
    let found = ap found_by c.in-Err.ensures ∙ walk_finds (value_in c.args.net.now c.args.bits.now) c.args.steps 0 (rule_rows c.args.net.now) (omega (arith, few_rule_rows c.args.net.now c.requires.valid)) in
    result_where_plan c.args.net.now c.args.bits.now c.args.steps _ (record { valid = c.requires.valid; columns = c.requires.columns; off_or_on = c.requires.bits }) c.requires.some c.requires.within found fixed
