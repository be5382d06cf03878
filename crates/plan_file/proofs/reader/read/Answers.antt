-- The first line decides whether the lines behind it are read.
use Rattle.std.proofs.Common.{inl, sym}
use Rattle.plan_file.proofs.ReadLaws.{another_first_line, behind_head_given, no_first_line, read_is_admissible}
use Rattle.plan_file.proofs.reader.read.Goals as goal
use Rattle.plan_file.proofs.reader.read.Goals.{in_default-via-in-Some+else-eq, in_default-via-in_default}

pub returns-in-Some-clause-value : goal.returns-in-Some-clause-value
returns-in-Some-clause-value c =
    behind_head_given c.args.named.now c.args.text.now c.in-Some.line.now c.in-Some.behind.now c.read_lines.result c.names-names.ensures.fits c.in-Some.ensures (sym c.if-eq.ensures) c.read_lines.ensures

pub returns-in-Some-clause-admissible : goal.returns-in-Some-clause-admissible
returns-in-Some-clause-admissible c =
    read_is_admissible c.args.named.now c.args.text.now c.read_lines.result c.names-names.ensures.fits
    (behind_head_given c.args.named.now c.args.text.now c.in-Some.line.now c.in-Some.behind.now c.read_lines.result c.names-names.ensures.fits c.in-Some.ensures (sym c.if-eq.ensures) c.read_lines.ensures)

pub returns-in_default-clause-value : goal.returns-in_default-clause-value
returns-in_default-clause-value c =
    elim c.in_default.branch [
      | in_default-via-in-Some+else-eq w ↦ inl (sym (another_first_line c.args.named.now c.args.text.now w.in-Some.line.now w.in-Some.behind.now c.names-names.ensures.fits w.in-Some.ensures (sym w.if-eq.ensures)))
      | in_default-via-in_default w ↦ inl (sym (no_first_line c.args.named.now c.args.text.now c.names-names.ensures.fits w.in_default.ensures))
    ]
