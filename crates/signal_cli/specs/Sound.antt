-- What a run promises of a bound that it prints, of a plan that a search found, of the plan of a point, and of a demonstration (README.md, "What
-- is proved").
use Rattle.std.specs.Prelude.{◌≡◌, ℕ, Option, Some}
use Rattle.signal_cli.specs.Bounds.{PutsBound, PutsGap}
use Rattle.signal_cli.specs.Commands.{Check, Command, Demo, Gap, Point, Solve}
use Rattle.signal_cli.specs.Demos.{PutsDemo}
use Rattle.signal_cli.specs.Points.{PutsDecoded}
use Rattle.signal_cli.specs.Searches.{PutsPlan}
use Rattle.signal_cli.specs.Worlds.{World}

-- a run of `check` or `gap` that ends with status 0 put a bound that is safe; one of `solve` wrote a plan and a certificate of such a
-- bound; one of `point` put the only plan that has the point; and one of `demo` put a plan of the generated network and such a bound
abbrev pub IsSound : Option Command → World → World → ℕ → Type 0
IsSound (Some (Point network point)) before after status = status ≡ 0 → PutsDecoded network point before after
IsSound (Some (Check network certificate)) before after status = status ≡ 0 → PutsBound network before after
IsSound (Some (Gap network plan certificate)) before after status = status ≡ 0 → PutsGap network plan before after
IsSound (Some (Solve network budget plan certificate)) before after status = status ≡ 0 → PutsPlan network budget plan certificate before after
IsSound (Some (Demo number)) before after status = status ≡ 0 → PutsDemo number before after
IsSound _ before after status = Unit {0}
