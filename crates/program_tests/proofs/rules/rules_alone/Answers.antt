use Rattle.std.proofs.Common.{◌≡◌, length, map, ap, arith}
use Rattle.std.proofs.lemmas.List.{length-map}
use Rattle.sparse_program.specs.Program.{Begun}
use Rattle.program_model.specs.Columns.{plan_columns}
use Rattle.program_model.specs.Points.{col}
use Rattle.program_model.proofs.NumberLaws.{length-plan_columns}
use Rattle.program_tests.proofs.rules.rules_alone.Goals as goal

pub rule_rows-requires-clause-plan : goal.rule_rows-requires-clause-plan
rule_rows-requires-clause-plan c =
    let net = c.args.net.now in
    let added : length c.plan_cols.new.into.columns ≡ length (map (col net) (plan_columns net)) = ap (λ (b : Begun). length b.columns) c.in_ok-count.ensures.columns in
    omega (arith, added, length-map (plan_columns net) (col net), length-plan_columns net)

pub finish-requires : goal.finish-requires
finish-requires c =
    let net = c.args.net.now in
    let kept : length c.rule_rows.new.into.columns ≡ length c.plan_cols.new.into.columns = ap (λ (b : Begun). length b.columns) c.in_ok-rule_rows.ensures.ok in
    let added : length c.plan_cols.new.into.columns ≡ length (map (col net) (plan_columns net)) = ap (λ (b : Begun). length b.columns) c.in_ok-count.ensures.columns in
    omega (arith, kept, added, c.in_ok-count.ensures.count, length-map (plan_columns net) (col net), length-plan_columns net)
