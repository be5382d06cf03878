-- Three numbers with their spaces, and a line feed.
use Rattle.std.proofs.Common.{rules, FitsSigned, w64}
use Rattle.std.specs.Fmt.{signed_decimal}
use Rattle.std.proofs.lemmas.Int.{to_z-of_z}
use Rattle.program_text.proofs.TextLaws.{column_is_added}
use Rattle.program_text.proofs.program.push_column.Goals as goal

pub returns : goal.returns
returns c =
    let low : FitsSigned w64 c.args.col.low = search rules in
    let high : FitsSigned w64 c.args.col.high = search rules in
    let cost : FitsSigned w64 c.args.col.cost = search rules in
    column_is_added c.args.text.now.items c.push_number.new.text.items c.push.new.self.items c.push_number-2.new.text.items c.push-2.new.self.items c.push_number-3.new.text.items c.push-3.new.self.items
    (signed_decimal c.args.col.low) (signed_decimal c.args.col.high) (signed_decimal c.args.col.cost)
    (simp to_z-of_z at c.in_ok-push_number.ensures) c.in_ok-push.ensures.items (simp to_z-of_z at c.in_ok-push_number-2.ensures) c.in_ok-push-2.ensures.items (simp to_z-of_z at c.in_ok-push_number-3.ensures) c.in_ok-push-3.ensures.items
