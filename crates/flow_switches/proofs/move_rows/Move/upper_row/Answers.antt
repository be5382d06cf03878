use Rattle.std.proofs.Common.{◌≡◌, ℕ, ◌+◌, ◌≤◌, List, [], ◌∷◌, ◌++◌, length, false, ap, subst, ◌∙◌, sym, arith, w64, to_z, of_z}
use Rattle.std.specs.Prelude.{ℤ, pos, negsuc, ◌-ℤ◌, ◌≤ℤ◌, unsigned_abs}
use Rattle.std.proofs.lemmas.Int.{ints}
use Rattle.sparse_program.specs.Program.{Begun, IsRow, row_from}
use Rattle.sparse_program.specs.Terms.{inserted, rising, weight}
use Rattle.sparse_program.specs.declared.row.Row.{Row}
use Rattle.sparse_program.proofs.LawfulTerms.{weight-rising}
use Rattle.program_model.specs.SwitchRows as model
use Rattle.flow_switches.specs.Sums.{held, term_of}
use Rattle.flow_switches.specs.declared.term.Term.{Term}
use Rattle.flow_switches.specs.inner.Inserting.{all_inserted, terms_times}
use Rattle.flow_switches.proofs.Inserting.{all_inserted-rising, weight-append, weight-times}
use Rattle.flow_switches.proofs.LawfulRows.{IsRow-held, held_as}
use Rattle.flow_switches.proofs.RowsAsHeld.{upper_lawful, upper_list, upper_right}
use Rattle.flow_switches.proofs.move_rows.Move.upper_row.Goals as goal

-- the switch and the term, both taken away
less_is : (switch : ℕ) (most : ℤ) (term : Term) (start with_switch slice less : List (ℕ × ℤ)) → start ≡ [] → with_switch ≡ inserted start (switch, most) → slice ≡ term.of.terms →
    less ≡ all_inserted with_switch (terms_times (negsuc 0) slice) → most ≡ pos 0 -ℤ term.most →
    less ≡ rising (terms_times (negsuc 0) term.of.terms ++ (switch, pos 0 -ℤ term.most) ∷ [])
less_is switch most term start with_switch slice less none is_switch is_slice is_less is_most =
    let one : with_switch ≡ rising ((switch, pos 0 -ℤ term.most) ∷ []) =
    is_switch ∙ ap (λ (xs : List (ℕ × ℤ)). inserted xs (switch, most)) none ∙ ap (λ (z : ℤ). inserted [] (switch, z)) is_most in
    is_less ∙ ap (λ (xs : List (ℕ × ℤ)). all_inserted xs (terms_times (negsuc 0) slice)) one
    ∙ ap (λ (xs : List (ℕ × ℤ)). all_inserted (rising ((switch, pos 0 -ℤ term.most) ∷ [])) (terms_times (negsuc 0) xs)) is_slice
    ∙ all_inserted-rising (terms_times (negsuc 0) term.of.terms) ((switch, pos 0 -ℤ term.most) ∷ [])

-- they are as light as the term and the most of it
less_light : (switch : ℕ) (term : Term) (less : List (ℕ × ℤ)) → less ≡ rising (terms_times (negsuc 0) term.of.terms ++ (switch, pos 0 -ℤ term.most) ∷ []) →
    weight less ≤ weight term.of.terms + unsigned_abs term.most
less_light switch term less is =
    let last : List (ℕ × ℤ) = (switch, pos 0 -ℤ term.most) ∷ [] in
    let last_heavy : weight last ≡ unsigned_abs term.most = omega (arith, ints) in
    rw is (omega (arith, weight-rising (terms_times (negsuc 0) term.of.terms ++ last), weight-append (terms_times (negsuc 0) term.of.terms) last, weight-times (negsuc 0) term.of.terms, last_heavy))

-- the row of them and the flow
row_is : (flow switch : ℕ) (term : Term) (rhs constant : ℤ) (less all : List (ℕ × ℤ)) → pos 0 ≤ℤ term.most →
    less ≡ rising (terms_times (negsuc 0) term.of.terms ++ (switch, pos 0 -ℤ term.most) ∷ []) → all ≡ inserted less (flow, pos 1) →
    rhs ≡ pos 0 -ℤ term.most → constant ≡ pos 0 -ℤ term.of.constant →
    row_from false rhs (record { constant = constant; terms = all }) ≡ held (model.upper_row flow switch (term_of term))
row_is flow switch term rhs constant less all not_negative is_less is_all is_rhs is_constant =
    held_as (model.upper_row flow switch (term_of term)) rhs (record { constant = constant; terms = all })
    (is_all ∙ ap (λ (xs : List (ℕ × ℤ)). inserted xs (flow, pos 1)) is_less ∙ ap rising (upper_list flow switch term not_negative))
    (ap (λ (z : ℤ). z -ℤ constant) is_rhs ∙ ap (λ (z : ℤ). (pos 0 -ℤ term.most) -ℤ z) is_constant ∙ upper_right flow switch term not_negative)

pub insert-requires-2 : goal.insert-requires-2
insert-requires-2 c =
    let is_less = less_is (c.args.self.first + c.args.number) (to_z w64 (of_z w64 (pos 0 -ℤ to_z w64 (of_z w64 c.args.term.now.most)))) c.args.term.now
    c.new-terms.result c.insert.new.self c.as_slice.result.now c.insert_times.new.terms
    c.new-terms.ensures c.in_ok-insert.ensures.ok c.as_slice.ensures c.in_ok-insert_times.ensures.ok (omega (arith, ints, c.requires.fits.light)) in
    record { light = omega (arith, less_light (c.args.self.first + c.args.number) c.args.term.now c.insert_times.new.terms is_less, c.requires.fits.light) }

pub row-requires-clause-lawful : goal.row-requires-clause-lawful
row-requires-clause-lawful c =
    let is_less = less_is (c.args.self.first + c.args.number) (to_z w64 (of_z w64 (pos 0 -ℤ to_z w64 (of_z w64 c.args.term.now.most)))) c.args.term.now
    c.new-terms.result c.insert.new.self c.as_slice.result.now c.insert_times.new.terms
    c.new-terms.ensures c.in_ok-insert.ensures.ok c.as_slice.ensures c.in_ok-insert_times.ensures.ok (omega (arith, ints, c.requires.fits.light)) in
    subst (IsRow (length c.args.builder.now.columns))
    (sym (row_is c.args.self.flow (c.args.self.first + c.args.number) c.args.term.now (to_z w64 (of_z w64 (pos 0 -ℤ to_z w64 (of_z w64 c.args.term.now.most))))
    (to_z w64 (of_z w64 (pos 0 -ℤ to_z w64 (of_z w64 c.args.term.now.of.constant)))) c.insert_times.new.terms c.insert-2.new.self
    c.requires.fits.not_negative is_less c.in_ok-insert-2.ensures.ok (omega (arith, ints, c.requires.fits.light)) (omega (arith, ints, c.requires.fits.constant))))
    (IsRow-held (length c.args.builder.now.columns) (model.upper_row c.args.self.flow (c.args.self.first + c.args.number) (term_of c.args.term.now))
    (upper_lawful (length c.args.builder.now.columns) c.args.self.flow (c.args.self.first + c.args.number) c.args.self.switches c.args.term.now
    c.requires.columns.flow_there (omega (arith, c.requires.columns.switches_there, c.requires.number)) (omega (arith, c.requires.number)) c.requires.fits))

pub returns-clause-ok : goal.returns-clause-ok
returns-clause-ok c =
    let is_less = less_is (c.args.self.first + c.args.number) (to_z w64 (of_z w64 (pos 0 -ℤ to_z w64 (of_z w64 c.args.term.now.most)))) c.args.term.now
    c.new-terms.result c.insert.new.self c.as_slice.result.now c.insert_times.new.terms
    c.new-terms.ensures c.in_ok-insert.ensures.ok c.as_slice.ensures c.in_ok-insert_times.ensures.ok (omega (arith, ints, c.requires.fits.light)) in
    let by_row : Row → Begun = λ row. record c.args.builder.now { rows = c.args.builder.now.rows ++ row ∷ [] } in
    c.in_ok-row.ensures.ok
    ∙ ap by_row (row_is c.args.self.flow (c.args.self.first + c.args.number) c.args.term.now (to_z w64 (of_z w64 (pos 0 -ℤ to_z w64 (of_z w64 c.args.term.now.most))))
    (to_z w64 (of_z w64 (pos 0 -ℤ to_z w64 (of_z w64 c.args.term.now.of.constant)))) c.insert_times.new.terms c.insert-2.new.self
    c.requires.fits.not_negative is_less c.in_ok-insert-2.ensures.ok (omega (arith, ints, c.requires.fits.light)) (omega (arith, ints, c.requires.fits.constant)))
