-- How the sum compares, the right side, the terms, and a line feed.
use Rattle.std.proofs.Common.{rules, FitsSigned, w64}
use Rattle.std.proofs.lemmas.Int.{to_z-of_z}
use Rattle.program_text.proofs.TextLaws.{row_is_added}
use Rattle.program_text.proofs.program.push_row.Goals as goal

pub returns : goal.returns
returns c =
    let rhs : FitsSigned w64 c.args.row.now.rhs = search rules in
    row_is_added c.args.row.now c.args.text.now.items c.extend_from_slice.new.self.items c.push.new.self.items c.push_number.new.text.items c.push_terms.new.text.items c.push-2.new.self.items
    c.relation.result.now c.as_slice.result.now c.relation.ensures c.as_slice.ensures
    c.in_ok-extend_from_slice.ensures.items c.in_ok-push.ensures.items (simp to_z-of_z at c.in_ok-push_number.ensures) c.in_ok-push_terms.ensures c.in_ok-push-2.ensures.items
