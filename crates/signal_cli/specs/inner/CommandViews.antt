-- A command of the program as one of the promises.
use Rattle.std.specs.Prelude.{◌≤◌}
use Rattle.std.specs.Option.{option_copied}
use Rattle.signal_cli.specs.Commands as said
use Rattle.signal_cli.specs.declared.command.Command.{Command}
use Rattle.signal_cli.specs.declared.command.Command.TheVariants.{Check, Demo, Encode, Gap, Point, Program, Replay, Solve, Trace}

-- the command with the bytes of its names
abbrev pub view_of : Command → said.Command
view_of (Replay network plan) = said.Replay network.now (option_copied plan)
view_of (Trace network plan table) = said.Trace network.now plan.now table.now
view_of (Program network text) = said.Program network.now text.now
view_of (Encode network plan text) = said.Encode network.now plan.now text.now
view_of (Point network point) = said.Point network.now point.now
view_of (Check network certificate) = said.Check network.now certificate.now
view_of (Gap network plan certificate) = said.Gap network.now plan.now certificate.now
view_of (Solve network budget plan certificate) = said.Solve network.now budget plan.now certificate.now
view_of (Demo number) = said.Demo number

-- what is known of the number among its words: a search has a budget of at least one node, and a generated network a number of at most
-- four digits
abbrev pub HasNumber : Command → Type 0
HasNumber (Solve network budget plan certificate) = 1 ≤ budget
HasNumber (Demo number) = number ≤ 9999
HasNumber command = Unit {0}
