use Rattle.std.proofs.Common.{◌≡◌, ℕ, ◌<◌, length, true}
use Rattle.certificate_model.specs.Value.{reduced_cost}
use Rattle.safe_bound.specs.Prices.{price_at}
use Rattle.kept_value.specs.Kept.{reduced_at}
use Rattle.kept_value.proofs.kept.prices.write_reduced_costs.Given as goal

abbrev pub invariant-loop-j : goal.invariant-loop-j
invariant-loop-j l = record {
  long : length l.reduced ≡ length l.program.columns;
  each : (k : ℕ) → k < l.j → reduced_at l.reduced k ≡ reduced_cost l.program true (price_at l.prices) k;
}
