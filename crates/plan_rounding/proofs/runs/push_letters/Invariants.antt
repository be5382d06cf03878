-- The letters that were added stand behind those before.
use Rattle.std.proofs.Common.{◌≡◌, ◌++◌}
use Rattle.std.specs.Prelude.{replicate}
use Rattle.plan_rounding.proofs.runs.push_letters.Given as goal

abbrev pub invariant-loop : goal.invariant-loop
invariant-loop l = l.word ≡ l.initial.word ++ replicate l.counter l.letter
