-- The first line decides whether the lines behind it are read.
use Rattle.std.proofs.Common.{◌≡◌, inl, inr, ℕ, List, Result, Ok, Err, IfOk, sym}
use Rattle.std.specs.Prelude.{ℤ}
use Rattle.refusals.specs.Memory.{OrMemory}
use Rattle.program_text.specs.PointText.{point_text, spelled_point}
use Rattle.program_text.specs.declared.fault.PointFault.{PointFault}
use Rattle.program_text.specs.declared.fault.PointFault.TheVariants.{Memory as WantOfMemory}
use Rattle.program_text.proofs.ReadLaws.{another_first_line, behind_the_first, no_first_line}
use Rattle.program_text.proofs.SpellLaws.{reads_what_is_spelled}
use Rattle.program_text.proofs.point.read_point.Goals as goal
use Rattle.program_text.proofs.point.read_point.Goals.{in_default-via-in-Some+else-eq, in_default-via-in_default}

pub returns-in-Some-clause-value : goal.returns-in-Some-clause-value
returns-in-Some-clause-value c =
    behind_the_first c.args.bytes.now c.in-Some.line.now c.in-Some.behind.now c.read_values.result c.in-Some.ensures (sym c.if-eq.ensures) c.read_values.ensures.value

pub returns-in_default-clause-value : goal.returns-in_default-clause-value
returns-in_default-clause-value c =
    elim c.in_default.branch [
      | in_default-via-in-Some+else-eq w ↦ inl (sym (another_first_line c.args.bytes.now w.in-Some.line.now w.in-Some.behind.now w.in-Some.ensures (sym w.if-eq.ensures)))
      | in_default-via-in_default w ↦ inl (sym (no_first_line c.args.bytes.now w.in_default.ensures))
    ]

-- what is read has the text that it was read from
text_of_read : (text : List ℕ) (result : Result (List ℤ) PointFault) → OrMemory WantOfMemory (spelled_point text) result → IfOk result (λ values. text ≡ point_text values)
text_of_read text (Ok values) (inl is) = (reads_what_is_spelled text values (sym is)).written
text_of_read text (Ok values) (inr wanting) = absurd (cc)
text_of_read text (Err fault) is = tt

pub returns-in-Some-clause-text : goal.returns-in-Some-clause-text
returns-in-Some-clause-text c =
    text_of_read c.args.bytes.now c.read_values.result
    (behind_the_first c.args.bytes.now c.in-Some.line.now c.in-Some.behind.now c.read_values.result c.in-Some.ensures (sym c.if-eq.ensures) c.read_values.ensures.value)
