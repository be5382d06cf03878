use Rattle.std.proofs.Common.{◌≡◌, ◌++◌, OnOk, length, subst, ◌∙◌}
use Rattle.listed.specs.Below.{table_of}
use Rattle.traffic_model.specs.Flow.{outflow}
use Rattle.cell_replay.proofs.Noting.{leaves_in_step, lines_from_step}
use Rattle.cell_replay.proofs.Steps.{sent-held}
use Rattle.cell_replay.proofs.lines.add_step.Goals as goal

pub add_lines-requires-clause-held : goal.add_lines-requires-clause-held
add_lines-requires-clause-held c =
    let sent : c.outflows.result.now ≡ table_of (length c.args.net.now.cells) (outflow c.args.net.now.cells c.args.letters.now c.copy_from_slice.new.self) =
    leaves_in_step c.args.net.now.cells c.args.letters.now c.args.replay.now c.step-delay.new.self c.copy_from_slice.new.self c.outflows.result.now
    (c.copy_from_slice.ensures.after ∙ c.units.ensures) c.step-delay.ensures.moves c.outflows.ensures in
    rw (c.copy_from_slice.ensures.len ∙ c.requires.held) (sent-held c.args.net.now c.args.letters.now c.copy_from_slice.new.self c.outflows.result.now sent)

pub returns-clause-lines : goal.returns-clause-lines
returns-clause-lines c =
    let held : c.copy_from_slice.new.self ≡ c.args.replay.now.units = c.copy_from_slice.ensures.after ∙ c.units.ensures in
    let sent : c.outflows.result.now ≡ table_of (length c.args.net.now.cells) (outflow c.args.net.now.cells c.args.letters.now c.copy_from_slice.new.self) =
    leaves_in_step c.args.net.now.cells c.args.letters.now c.args.replay.now c.step-delay.new.self c.copy_from_slice.new.self c.outflows.result.now held
    c.step-delay.ensures.moves c.outflows.ensures in
    subst (λ list. OnOk c.add_lines.result (c.add_lines.new.lines.items ≡ c.args.lines.now.items ++ list))
    (lines_from_step c.args.net.now.cells c.args.letters.now c.now-step.result (length c.copy_from_slice.new.self) c.args.replay.now c.copy_from_slice.new.self
    c.outflows.result.now c.now-step.ensures held (c.copy_from_slice.ensures.len ∙ c.requires.held) sent)
    c.add_lines.ensures
