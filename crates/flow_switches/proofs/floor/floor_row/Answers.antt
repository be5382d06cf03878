use Rattle.std.proofs.Common.{◌≡◌, ℕ, ◌+◌, ◌≤◌, List, [], ◌∷◌, ◌++◌, length, true, ap, subst, ◌∙◌, sym, arith, w64, to_z, of_z}
use Rattle.std.specs.Prelude.{ℤ, pos, negsuc, ◌-ℤ◌, ◌≤ℤ◌, unsigned_abs}
use Rattle.std.proofs.lemmas.Int.{ints, to_z-of_z}
use Rattle.sparse_program.specs.Program.{Begun, IsRow, row_from}
use Rattle.sparse_program.specs.Terms.{inserted, rising, weight}
use Rattle.sparse_program.specs.declared.row.Linear.{Linear}
use Rattle.sparse_program.specs.declared.row.Row.{Row}
use Rattle.sparse_program.proofs.LawfulTerms.{weight-inserted, weight-rising}
use Rattle.program_model.specs.SwitchRows as model
use Rattle.flow_switches.specs.Conditions.{FloorFits}
use Rattle.flow_switches.specs.Sums.{held, sum_of}
use Rattle.flow_switches.specs.inner.Inserting.{all_inserted, terms_times}
use Rattle.flow_switches.proofs.Inserting.{all_inserted-nil, weight-times}
use Rattle.flow_switches.proofs.LawfulRows.{IsRow-held, held_as}
use Rattle.flow_switches.proofs.RowsAsHeld.{floor_lawful, floor_list, floor_right}
use Rattle.flow_switches.proofs.floor.floor_row.Goals as goal
use mir.Val.{SFits}

-- the terms of the expression, taken away, by rising column
less_is : (start slice less of : List (ℕ × ℤ)) → start ≡ [] → slice ≡ of → less ≡ all_inserted start (terms_times (negsuc 0) slice) → less ≡ rising (terms_times (negsuc 0) of)
less_is start slice less of none is_slice is =
    is ∙ ap (λ (xs : List (ℕ × ℤ)). all_inserted xs (terms_times (negsuc 0) slice)) none ∙ all_inserted-nil (terms_times (negsuc 0) slice)
    ∙ ap (λ (xs : List (ℕ × ℤ)). rising (terms_times (negsuc 0) xs)) is_slice

-- they weigh as much as before at most
less_light : (less of : List (ℕ × ℤ)) → less ≡ rising (terms_times (negsuc 0) of) → weight less ≤ weight of
less_light less of is = rw is (omega (arith, weight-rising (terms_times (negsuc 0) of), weight-times (negsuc 0) of))

-- the row of the terms so far
row_is : (whole rest : ℕ) (divisor constant : ℤ) (of : Linear) (less with_rest all : List (ℕ × ℤ)) → pos 0 ≤ℤ divisor →
    less ≡ rising (terms_times (negsuc 0) of.terms) → with_rest ≡ inserted less (rest, pos 1) → all ≡ inserted with_rest (whole, divisor) → constant ≡ pos 0 -ℤ of.constant →
    row_from true (pos 0) (record { constant = constant; terms = all }) ≡ held (model.floor_row whole rest (unsigned_abs divisor) (sum_of of))
row_is whole rest divisor constant of less with_rest all not_negative is_less is_rest is_all is_constant =
    held_as (model.floor_row whole rest (unsigned_abs divisor) (sum_of of)) (pos 0) (record { constant = constant; terms = all })
    (is_all ∙ ap (λ (xs : List (ℕ × ℤ)). inserted xs (whole, divisor)) (is_rest ∙ ap (λ (xs : List (ℕ × ℤ)). inserted xs (rest, pos 1)) is_less)
    ∙ ap rising (floor_list whole rest divisor of not_negative))
    (ap (λ (z : ℤ). pos 0 -ℤ z) is_constant ∙ floor_right whole rest divisor of)

-- so it is lawful
row_lawful : (program : Begun) (whole rest : ℕ) (divisor constant : ℤ) (of : Linear) (all : List (ℕ × ℤ)) → FloorFits program whole rest divisor of →
    row_from true (pos 0) (record { constant = constant; terms = all }) ≡ held (model.floor_row whole rest (unsigned_abs divisor) (sum_of of)) →
    IsRow (length program.columns) (row_from true (pos 0) (record { constant = constant; terms = all }))
row_lawful program whole rest divisor constant of all fits is =
    subst (IsRow (length program.columns)) (sym is) (IsRow-held (length program.columns) (model.floor_row whole rest (unsigned_abs divisor) (sum_of of)) (floor_lawful program whole rest divisor of fits))

pub insert-requires : goal.insert-requires
insert-requires c =
    let light : weight c.insert_times.new.terms ≤ weight c.args.of.now.terms =
    less_light c.insert_times.new.terms c.args.of.now.terms (less_is c.new-terms.result c.as_slice.result.now c.insert_times.new.terms c.args.of.now.terms c.new-terms.ensures c.as_slice.ensures c.in_ok-insert_times.ensures.ok) in
    record { light = omega (arith, light, c.requires.light) }

pub insert-requires-2 : goal.insert-requires-2
insert-requires-2 c =
    let divisor : SFits w64 c.args.divisor = c.ranges.divisor in
    let light : weight c.insert_times.new.terms ≤ weight c.args.of.now.terms =
    less_light c.insert_times.new.terms c.args.of.now.terms (less_is c.new-terms.result c.as_slice.result.now c.insert_times.new.terms c.args.of.now.terms c.new-terms.ensures c.as_slice.ensures c.in_ok-insert_times.ensures.ok) in
    let more : weight c.insert.new.self ≤ weight c.insert_times.new.terms + 1 = rw c.in_ok-insert.ensures.ok (weight-inserted c.insert_times.new.terms (c.args.rest, pos 1)) in
    simp to_z-of_z (record { light = omega (arith, light, more, c.requires.light) })

pub row-requires-clause-lawful : goal.row-requires-clause-lawful
row-requires-clause-lawful c =
    let divisor : SFits w64 c.args.divisor = c.ranges.divisor in
    let is_all = simp to_z-of_z at c.in_ok-insert-2.ensures.ok in
    row_lawful c.args.builder.now c.args.whole c.args.rest c.args.divisor (to_z w64 (of_z w64 (pos 0 -ℤ to_z w64 (of_z w64 c.args.of.now.constant)))) c.args.of.now c.insert-2.new.self c.requires
    (row_is c.args.whole c.args.rest c.args.divisor (to_z w64 (of_z w64 (pos 0 -ℤ to_z w64 (of_z w64 c.args.of.now.constant)))) c.args.of.now c.insert_times.new.terms c.insert.new.self c.insert-2.new.self c.requires.not_negative
    (less_is c.new-terms.result c.as_slice.result.now c.insert_times.new.terms c.args.of.now.terms c.new-terms.ensures c.as_slice.ensures c.in_ok-insert_times.ensures.ok)
    c.in_ok-insert.ensures.ok is_all (omega (arith, ints, c.requires.constant)))

pub returns-clause-ok : goal.returns-clause-ok
returns-clause-ok c =
    let divisor : SFits w64 c.args.divisor = c.ranges.divisor in
    let is_all = simp to_z-of_z at c.in_ok-insert-2.ensures.ok in
    let by_row : Row → Begun = λ row. record c.args.builder.now { rows = c.args.builder.now.rows ++ row ∷ [] } in
    c.in_ok-row.ensures.ok
    ∙ ap by_row (row_is c.args.whole c.args.rest c.args.divisor (to_z w64 (of_z w64 (pos 0 -ℤ to_z w64 (of_z w64 c.args.of.now.constant)))) c.args.of.now c.insert_times.new.terms c.insert.new.self c.insert-2.new.self c.requires.not_negative
    (less_is c.new-terms.result c.as_slice.result.now c.insert_times.new.terms c.args.of.now.terms c.new-terms.ensures c.as_slice.ensures c.in_ok-insert_times.ensures.ok)
    c.in_ok-insert.ensures.ok is_all (omega (arith, ints, c.requires.constant)))
