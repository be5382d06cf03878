-- There is a word for each signal that was reached, and one of them is the other one.
use Rattle.std.proofs.Common.{◌≡◌}
use Rattle.std.specs.Prelude.{◌==◌, if◌then◌else◌}
use Rattle.listed.specs.Below.{table_of}
use Rattle.traffic_model.specs.Runs.{word_of}
use Rattle.plan_rounding.proofs.word_change.words_with.Given as goal

abbrev pub invariant-loop-number : goal.invariant-loop-number
invariant-loop-number l = l.words ≡ table_of l.number (λ s. if s == l.signal then l.word else word_of l.plan s)
