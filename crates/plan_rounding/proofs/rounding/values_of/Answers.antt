use Rattle.std.proofs.Common.{rules, ◌∙◌, sym}
use Rattle.std.specs.Int.{w64}
use Rattle.std.specs.Prelude.{pos, slice_index_or}
use Rattle.std.proofs.lemmas.Int.{to_z-of_z}
use Rattle.listed.proofs.TableLaws.{table_of-zero}
use Rattle.program_layout.proofs.LayoutLaws.{table_more}
use mir.Val.{SFits}
use Rattle.plan_rounding.proofs.rounding.values_of.Goals as goal

pub loop-column-init : goal.loop-column-init
loop-column-init c = c.new-values.ensures.items ∙ sym (table_of-zero (λ column. slice_index_or c.args.point.now column (pos 0)))

pub loop-column-preserved : goal.loop-column-preserved
loop-column-preserved c =
    let fits : SFits w64 c.value_at.result = search rules in
    (simp to_z-of_z at c.in_ok-push.ensures.items)
    ∙ table_more c.loop-column.column (λ column. slice_index_or c.args.point.now column (pos 0)) c.loop-column.values.items c.value_at.result c.loop-column.invariant c.value_at.ensures
