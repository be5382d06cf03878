use Rattle.std.proofs.Common.{◌≡◌, ℕ, ◌+◌, ◌-◌, ◌≤◌, List, [], ◌∷◌, ◌++◌, length, false, ap, subst, ◌∙◌, sym, arith, w64, to_z, of_z}
use Rattle.std.specs.Prelude.{ℤ, pos, negsuc, ◌-ℤ◌}
use Rattle.std.proofs.lemmas.Int.{ints}
use Rattle.listed.specs.Below.{table_of}
use Rattle.sparse_program.specs.Program.{Begun, IsRow, row_from}
use Rattle.sparse_program.specs.Terms.{inserted, rising, weight}
use Rattle.sparse_program.specs.declared.row.Linear.{Linear}
use Rattle.sparse_program.specs.declared.row.Row.{Row}
use Rattle.sparse_program.proofs.LawfulTerms.{weight-inserted}
use Rattle.program_model.specs.SwitchRows as model
use Rattle.flow_switches.specs.Sums.{held, sum_of}
use Rattle.flow_switches.specs.inner.Inserting.{all_inserted, terms_times}
use Rattle.flow_switches.proofs.Inserting.{all_inserted-rising, terms_times-one}
use Rattle.flow_switches.proofs.LawfulRows.{IsRow-held, held_as}
use Rattle.flow_switches.proofs.RowsAsHeld.{lower_constant, lower_lawful, lower_list}
use Rattle.flow_switches.proofs.Tables.{Rises-table_of, rising-rises, weight-table_of}
use Rattle.flow_switches.proofs.move_rows.Move.lower_row.Goals as goal

-- the row of the later switches, the flow and the term
row_is : (flow first switches number : ℕ) (of : Linear) (constant : ℤ) (later with_flow slice all : List (ℕ × ℤ)) →
    later ≡ table_of (switches - (number + 1)) (λ k. (first + (number + 1) + k, negsuc 0)) → with_flow ≡ inserted later (flow, negsuc 0) → slice ≡ of.terms →
    all ≡ all_inserted with_flow (terms_times (pos 1) slice) → constant ≡ of.constant →
    row_from false (pos 0) (record { constant = constant; terms = all }) ≡ held (model.lower_row flow (λ m. first + m) switches number (sum_of of))
row_is flow first switches number of constant later with_flow slice all is_later is_flow is_slice is_all is_constant =
    let table : List (ℕ × ℤ) = table_of (switches - (number + 1)) (λ k. (first + (number + 1) + k, negsuc 0)) in
    let start : with_flow ≡ rising ((flow, negsuc 0) ∷ table) =
    is_flow ∙ ap (λ (xs : List (ℕ × ℤ)). inserted xs (flow, negsuc 0)) (is_later ∙ sym (rising-rises table (Rises-table_of (first + (number + 1)) (switches - (number + 1)) (negsuc 0)))) in
    held_as (model.lower_row flow (λ m. first + m) switches number (sum_of of)) (pos 0) (record { constant = constant; terms = all })
    (is_all ∙ ap (λ (xs : List (ℕ × ℤ)). all_inserted xs (terms_times (pos 1) slice)) start
    ∙ ap (λ (xs : List (ℕ × ℤ)). all_inserted (rising ((flow, negsuc 0) ∷ table)) xs) (terms_times-one slice ∙ is_slice)
    ∙ all_inserted-rising of.terms ((flow, negsuc 0) ∷ table)
    ∙ ap rising (lower_list flow first switches number of))
    (ap (λ (z : ℤ). pos 0 -ℤ z) (is_constant ∙ sym (lower_constant flow first switches number of)))

-- the switches are light
later_light : (later : List (ℕ × ℤ)) (first switches number : ℕ) → later ≡ table_of (switches - (number + 1)) (λ k. (first + (number + 1) + k, negsuc 0)) → weight later ≤ switches
later_light later first switches number is = rw is (omega (arith, weight-table_of (switches - (number + 1)) (λ k. first + (number + 1) + k) (negsuc 0)))

pub insert-requires : goal.insert-requires
insert-requires c =
    let light : weight c.in_ok-terms.terms ≤ c.args.self.switches = later_light c.in_ok-terms.terms c.args.self.first c.args.self.switches c.args.number c.in_ok-terms.ensures in
    record { light = omega (arith, light, c.requires.fits.few) }

pub insert_times-requires : goal.insert_times-requires
insert_times-requires c =
    let light : weight c.in_ok-terms.terms ≤ c.args.self.switches = later_light c.in_ok-terms.terms c.args.self.first c.args.self.switches c.args.number c.in_ok-terms.ensures in
    let more : weight c.insert.new.self ≤ weight c.in_ok-terms.terms + 1 = rw c.in_ok-insert.ensures.ok (weight-inserted c.in_ok-terms.terms (c.args.self.flow, negsuc 0)) in
    rw c.as_slice.ensures (record { light = omega (arith, light, more, c.requires.fits.light) })

pub row-requires-clause-lawful : goal.row-requires-clause-lawful
row-requires-clause-lawful c =
    subst (IsRow (length c.args.builder.now.columns))
    (sym (row_is c.args.self.flow c.args.self.first c.args.self.switches c.args.number c.args.term.now.of (to_z w64 (of_z w64 c.args.term.now.of.constant))
    c.in_ok-terms.terms c.insert.new.self c.as_slice.result.now c.insert_times.new.terms
    c.in_ok-terms.ensures c.in_ok-insert.ensures.ok c.as_slice.ensures c.in_ok-insert_times.ensures.ok (omega (arith, ints, c.requires.fits.constant))))
    (IsRow-held (length c.args.builder.now.columns) (model.lower_row c.args.self.flow (λ m. c.args.self.first + m) c.args.self.switches c.args.number (sum_of c.args.term.now.of))
    (lower_lawful (length c.args.builder.now.columns) c.args.self.flow c.args.self.first c.args.self.switches c.args.number c.args.term.now
    c.requires.columns.flow_there c.requires.columns.switches_there c.requires.number c.requires.fits))

pub returns-clause-ok : goal.returns-clause-ok
returns-clause-ok c =
    let by_row : Row → Begun = λ row. record c.args.builder.now { rows = c.args.builder.now.rows ++ row ∷ [] } in
    c.in_ok-row.ensures.ok
    ∙ ap by_row (row_is c.args.self.flow c.args.self.first c.args.self.switches c.args.number c.args.term.now.of (to_z w64 (of_z w64 c.args.term.now.of.constant))
    c.in_ok-terms.terms c.insert.new.self c.as_slice.result.now c.insert_times.new.terms
    c.in_ok-terms.ensures c.in_ok-insert.ensures.ok c.as_slice.ensures c.in_ok-insert_times.ensures.ok (omega (arith, ints, c.requires.fits.constant)))
