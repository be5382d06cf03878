use Rattle.std.proofs.Common.{◌++◌, append-nil, refl, ap, ◌∙◌, sym}
use Rattle.listed.proofs.TableLaws.{table_of-zero}
use Rattle.cell_replay.specs.inner.Moves.{line_of}
use Rattle.cell_replay.proofs.Noting.{one_line_more}
use Rattle.cell_replay.proofs.lines.add_lines.Goals as goal

pub loop-number-init : goal.loop-number-init
loop-number-init c =
    sym (ap (λ list. c.args.lines.now.items ++ list) (table_of-zero (line_of c.args.step c.args.units.now c.args.outflows.now)) ∙ append-nil c.args.lines.now.items)

pub loop-number-preserved : goal.loop-number-preserved
loop-number-preserved c =
    c.in_ok-push.ensures.items
    ∙ one_line_more c.args.lines.now.items c.loop-number.lines.items (line_of c.args.step c.args.units.now c.args.outflows.now) c.loop-number.number
    (line_of c.args.step c.args.units.now c.args.outflows.now c.loop-number.number) c.loop-number.invariant refl
