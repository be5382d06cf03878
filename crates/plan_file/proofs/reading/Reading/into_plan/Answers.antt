-- What stands behind the end is a line at fault.
use Rattle.std.proofs.Common.{sym}
use Rattle.plan_file.specs.inner.State.{progress_of}
use Rattle.plan_file.proofs.ReadingLaws.{nothing_behind, something_behind}
use Rattle.plan_file.proofs.reading.Reading.into_plan.Goals as goal

pub returns-then-not-is_empty : goal.returns-then-not-is_empty
returns-then-not-is_empty c = sym (something_behind c.args.number (progress_of c.args.self) c.args.behind.now (sym c.if-not-is_empty.ensures))

pub returns : goal.returns
returns c = sym (nothing_behind c.args.number (progress_of c.args.self) c.args.behind.now (sym c.if-not-is_empty.ensures))
