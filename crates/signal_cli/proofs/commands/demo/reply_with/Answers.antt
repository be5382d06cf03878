-- The rows are no more than a program holds.
use Rattle.signal_cli.proofs.DemoPromises.{searchable_is_sized}
use Rattle.signal_cli.proofs.commands.demo.reply_with.Goals as goal

pub judge-requires-clause-small : goal.judge-requires-clause-small
judge-requires-clause-small c = rw c.net-2.ensures.value (searchable_is_sized c.args.named.now.net _ c.requires)

pub reply_of-requires-clause-small : goal.reply_of-requires-clause-small
reply_of-requires-clause-small c = searchable_is_sized c.args.named.now.net _ c.requires
