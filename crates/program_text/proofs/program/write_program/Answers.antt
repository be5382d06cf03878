-- The lines in their order.
use Rattle.std.proofs.Common.{◌++◌, ap, ◌∙◌}
use Rattle.std.specs.Prelude.{codes}
use Rattle.program_text.proofs.TextLaws.{program_is_written}
use Rattle.program_text.proofs.program.write_program.Goals as goal

pub returns : goal.returns
returns c =
    program_is_written c.args.program.now c.extend_from_slice.new.self.items c.push_column_count.new.text.items c.push_columns.new.text.items c.push_row_count.new.text.items c.push_rows.new.text.items c.extend_from_slice-2.new.self.items
    (c.in_ok-extend_from_slice.ensures.items ∙ ap (λ text. text ++ codes "ctm-program 1\n") c.in_ok-text.ensures.items)
    c.in_ok-push_column_count.ensures c.in_ok-push_columns.ensures c.in_ok-push_row_count.ensures c.in_ok-push_rows.ensures c.in_ok-extend_from_slice-2.ensures.items
