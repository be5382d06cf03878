use Rattle.std.proofs.Common.{◌≡◌, ◌≤◌, length, rules, arith}
use Rattle.std.proofs.lemmas.Int.{to_z-of_z}
use Rattle.sparse_program.specs.Terms.{AreTerms}
use Rattle.sparse_program.proofs.BuildLaws.{IsRow-row_from}
use Rattle.program_tests.proofs.one_link.add_row.Goals as goal

pub row-requires-clause-lawful : goal.row-requires-clause-lawful
row-requires-clause-lawful g c =
    let rhs = c.ranges.rhs in
    let constant = c.ranges.constant in
    let terms : c.of.result ≡ c.args.terms.now = search rules in
    let few : length c.args.terms.now ≤ 64 = omega arith in
    let lawful : AreTerms 4 c.args.terms.now = c.are_terms-lawful.ensures (search rules) in
    rw (c.requires.columns, terms) (simp to_z-of_z (IsRow-row_from 4 c.args.equal c.args.rhs (record { constant = c.args.constant; terms = c.args.terms.now }) lawful few c.requires.small))
