-- What the vector holds is the names of the columns, and then the rows.
use Rattle.std.proofs.Common.{◌∙◌}
use Rattle.plan_report.specs.Table.{trace_text}
use Rattle.plan_report.proofs.table.trace_csv.Goals as goal

pub returns-in-Ok : goal.returns-in-Ok
unfolding trace_text
returns-in-Ok c =
    let from = c.from_writer-writer.ensures in
    let header = rw (from.wtr, c.new.ensures.items, from.empty) at c.in_ok-write_header.ensures.text in
    c.in-Ok.ensures.ok ∙ rw (header, c.as_slice.ensures) at c.in_ok-write_lines.ensures.text
