-- The writer writes the names of the columns as they are.
use Rattle.std.proofs.Common.{◌≢◌}
use Rattle.csv.specs.declared.writer.QuoteStyle.TheVariants as style
use Rattle.plan_report.proofs.Rows.{header_is_record}
use Rattle.plan_report.proofs.table.write_header.Goals as goal
use Rattle.plan_report.proofs.table.write_header.Goals.{in-Ok, in-Err}

pub returns-clause-text : goal.returns-clause-text
returns-clause-text g c =
    let by_need : c.args.writer.now.cfg.style ≢ style.NonNumeric = rw c.requires.setup (λ e. cc e) in
    elim c.match-write_fields.branch [
      | in-Ok w ↦ rw w.result-is (rw (c.requires.setup, header_is_record) at (w.in-Ok.ensures.bytes c.requires.no_field c.requires.nothing_shown by_need))
      | in-Err w ↦ rw w.result-is tt
    ]
