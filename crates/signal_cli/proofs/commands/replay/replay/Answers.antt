use Rattle.signal_cli.proofs.commands.replay.replay.Goals as goal

pub returns-in-Some : goal.returns-in-Some
returns-in-Some g c = rw c.in-Some.is c.replay_under.ensures

pub returns-in-None : goal.returns-in-None
returns-in-None g c = rw c.in-None.is c.replay_alone.ensures
