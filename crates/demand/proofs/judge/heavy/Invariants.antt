-- The steps that are left have the faults of all.
use Rattle.std.proofs.Common.{◌≡◌, drop}
use Rattle.refusals.specs.Faults.{items_from, per_item}
use Rattle.demand.specs.Spread.{heavy_at}
use Rattle.demand.proofs.judge.heavy.Given as goal

abbrev pub invariant-loop-t : goal.invariant-loop-t
invariant-loop-t l = per_item l.rates heavy_at ≡ items_from l.t (drop l.t l.rates) heavy_at
