use Rattle.std.proofs.Common.{◌≡◌, ℕ, ◌+◌, List, [], ◌∷◌, ◌++◌, length, true, refl, ap, subst, ◌∙◌, sym}
use Rattle.std.specs.Prelude.{ℤ, pos}
use Rattle.listed.specs.Below.{table_of}
use Rattle.sparse_program.specs.Program.{Begun, IsRow, row_from}
use Rattle.sparse_program.specs.Terms.{rising}
use Rattle.sparse_program.specs.declared.row.Row.{Row}
use Rattle.program_model.specs.SwitchRows as model
use Rattle.flow_switches.specs.Sums.{held}
use Rattle.flow_switches.proofs.LawfulRows.{IsRow-held, held_as}
use Rattle.flow_switches.proofs.RowsAsHeld.{one_switch_lawful, one_switch_list}
use Rattle.flow_switches.proofs.Tables.{Rises-table_of, rising-rises}
use Rattle.flow_switches.proofs.move_rows.Move.one_switch_row.Goals as goal

-- the row of the switches
row_is : (first switches : ℕ) (terms : List (ℕ × ℤ)) → terms ≡ table_of switches (λ k. (first + k, pos 1)) →
    row_from true (pos 1) (record { constant = pos 0; terms = terms }) ≡ held (model.one_switch_row (λ m. first + m) switches)
row_is first switches terms is =
    let all : List (ℕ × ℤ) = table_of switches (λ k. (first + k, pos 1)) in
    held_as (model.one_switch_row (λ m. first + m) switches) (pos 1) (record { constant = pos 0; terms = terms })
    (is ∙ sym (rising-rises all (Rises-table_of first switches (pos 1))) ∙ ap rising (one_switch_list first switches)) refl

pub row-requires-clause-lawful : goal.row-requires-clause-lawful
row-requires-clause-lawful c =
    subst (IsRow (length c.args.builder.now.columns)) (sym (row_is c.args.self.first c.args.self.switches c.in_ok-terms.terms c.in_ok-terms.ensures))
    (IsRow-held (length c.args.builder.now.columns) (model.one_switch_row (λ m. c.args.self.first + m) c.args.self.switches)
    (one_switch_lawful (length c.args.builder.now.columns) c.args.self.first c.args.self.switches c.requires.columns.switches_there c.requires.few))

pub returns-clause-ok : goal.returns-clause-ok
returns-clause-ok c =
    let by_row : Row → Begun = λ row. record c.args.builder.now { rows = c.args.builder.now.rows ++ row ∷ [] } in
    c.in_ok-row.ensures.ok ∙ ap by_row (row_is c.args.self.first c.args.self.switches c.in_ok-terms.terms c.in_ok-terms.ensures)
