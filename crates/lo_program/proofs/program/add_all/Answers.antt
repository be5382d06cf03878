use Rattle.std.proofs.Common.{◌≡◌, ◌++◌, length, map, ap, arith}
use Rattle.sparse_program.specs.Program.{Begun}
use Rattle.std.proofs.lemmas.List.{length-append, length-map}
use Rattle.program_model.specs.Columns.{columns}
use Rattle.program_model.specs.Points.{col}
use Rattle.program_model.proofs.NumberLaws.{length-columns}
use Rattle.lo_program.proofs.ColumnCounts.{columns_fit}
use Rattle.lo_program.proofs.program.add_all.Goals as goal

pub add_columns-requires-clause-room : goal.add_columns-requires-clause-room
add_columns-requires-clause-room c =
    let none : length c.args.builder.now.columns ≡ 0 = ap (λ (b : Begun). length b.columns) c.requires.empty in
    omega (arith, none, columns_fit c.args.net.now c.requires.valid c.requires.few)

pub add_rule_rows-requires-clause-plan : goal.add_rule_rows-requires-clause-plan
add_rule_rows-requires-clause-plan c =
    let net = c.args.net.now in
    let all : length c.add_columns.new.builder.columns ≡ length (c.args.builder.now.columns ++ map (col net) (columns net)) = ap (λ (b : Begun). length b.columns) c.in_ok-add_columns.ensures in
    omega (arith, all, length-append c.args.builder.now.columns (map (col net) (columns net)), length-map (columns net) (col net), length-columns net)
