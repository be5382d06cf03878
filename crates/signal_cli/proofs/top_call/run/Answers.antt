-- What was found and carried out keeps the promise of the command, and so a bound that was put is safe, and a certificate was decided.
use Rattle.std.specs.Prelude.{Some}
use Rattle.signal_cli.specs.Answers.{Deserves}
use Rattle.signal_cli.specs.Commands.{outputs_of}
use Rattle.signal_cli.specs.inner.CommandViews.{view_of}
use Rattle.signal_cli.specs.Worlds.{world}
use Rattle.signal_cli.proofs.BoundPromises.{is_exact, is_sound}
use Rattle.signal_cli.proofs.KeptPromises.{keeps}
use Rattle.signal_cli.proofs.NamedOutputs.{outputs_are_named}
use Rattle.signal_cli.proofs.top_call.run.Goals as goal

pub returns-in-Some : goal.returns-in-Some
returns-in-Some g c =
    let before = world (g.F.Shelf.state c.args.shelf.now) (g.K.Sink.state c.args.out.now) in
    let after = world (g.F.Shelf.state c.carry_out.new.shelf) (g.K.Sink.state c.carry_out.new.out) in
    let command = view_of c.in-Some.command in
    let kept = keeps (Deserves command) (outputs_of command) (outputs_are_named command) before after c.answer-found.result (g.F.Shelf.state c.answer-found.new.shelf) c.carry_out.result c.answer-found.ensures c.carry_out.ensures in
    rw (← c.in-Some.ensures.value) (record { keeps = kept; sound = is_sound command before after c.carry_out.result c.in-Some.ensures.names kept; exact = is_exact (Some command) before after c.carry_out.result kept })
