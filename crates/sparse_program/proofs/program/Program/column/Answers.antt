use Rattle.std.proofs.Common.{◌<◌, length}
use Rattle.sparse_program.specs.inner.Columns.{IsColumn}
use Rattle.sparse_program.proofs.ColumnLaws.{AreTerms-column_of}
use Rattle.sparse_program.proofs.program.Program.column.Goals as goal

pub returns-clause-lawful : goal.returns-clause-lawful
returns-clause-lawful c =
    let there : c.args.j < length c.self.inside.columns.items = rw (← c.self.view_is) at c.requires in
    let column : IsColumn c.self.inside.rows.items c.self.inside.by_column.ends.items c.self.inside.by_column.entries.items c.args.j = c.self.invariant.by_column.each c.args.j there in
    rw (c.start-start.ensures, c.as_slice-ends.ensures.value, c.as_slice.ensures.value, column.lies, ← c.self.view_is)
    (AreTerms-column_of (length c.self.inside.columns.items) c.self.inside.rows.items c.args.j c.self.invariant.lawful.built.each_row)
