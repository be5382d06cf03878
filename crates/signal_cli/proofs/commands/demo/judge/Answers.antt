-- The certificate that a search found is accepted.
use Rattle.std.proofs.Common.{◌∙◌}
use Rattle.signal_cli.proofs.DemoPromises.{never_rejected, solved_accepted}
use Rattle.signal_cli.proofs.commands.demo.judge.Goals as goal

pub returns-in-Ok-Accepted : goal.returns-in-Ok-Accepted
returns-in-Ok-Accepted c = solved_accepted c.args.net.now _ c.args.solved.now c.requires.solved

pub unreachable-requires : goal.unreachable-requires
unreachable-requires c =
    never_rejected c.args.net.now _ c.args.solved.now c.as_slice.result.now c.in-Ok-Rejected.field-0 c.in-Ok-Rejected.field-0-0 c.in-Ok-Rejected.field-0-1 c.requires.valid c.requires.solved (c.as_slice.ensures.value ∙ c.in_ok-text.ensures) c.in-Ok-Rejected.field-0-is c.in-Ok-Rejected.ensures.value.1
