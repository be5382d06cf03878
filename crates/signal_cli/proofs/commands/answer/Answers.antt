use Rattle.signal_cli.specs.Answers.{DemoGives}
use Rattle.signal_cli.proofs.Making.{made_found}
use Rattle.signal_cli.proofs.commands.answer.Goals as goal

pub returns-in-Replay : goal.returns-in-Replay
returns-in-Replay g c = rw c.in-Replay.is c.replay.ensures

pub returns-in-Trace : goal.returns-in-Trace
returns-in-Trace g c = rw c.in-Trace.is c.trace.ensures

pub returns-in-Program : goal.returns-in-Program
returns-in-Program g c = rw c.in-Program.is c.program.ensures

pub returns-in-Encode : goal.returns-in-Encode
returns-in-Encode g c = rw c.in-Encode.is c.encode.ensures

pub returns-in-Point : goal.returns-in-Point
returns-in-Point g c = rw c.in-Point.is c.point.ensures

pub returns-in-Check : goal.returns-in-Check
returns-in-Check g c = rw c.in-Check.is c.check.ensures

pub returns-in-Gap : goal.returns-in-Gap
returns-in-Gap g c = rw c.in-Gap.is c.gap.ensures

pub returns-in-Solve : goal.returns-in-Solve
returns-in-Solve g c = rw c.in-Solve.is c.solve.ensures

pub returns-in-Demo : goal.returns-in-Demo
returns-in-Demo g c = rw c.in-Demo.is (made_found (DemoGives c.in-Demo.number) c.demo.result (g.F.Shelf.state c.args.shelf.now) c.demo.ensures)
