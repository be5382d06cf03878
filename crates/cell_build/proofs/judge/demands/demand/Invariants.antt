-- The links that are left have the faults of all, and the demands of those that were reached are listed.
use Rattle.std.proofs.Common.{◌≡◌, drop, take}
use Rattle.refusals.specs.Faults.{items_from, per_item}
use Rattle.cell_build.specs.inner.Queues.{demands_of}
use Rattle.cell_build.specs.Refusals.{demand_at}
use Rattle.cell_build.proofs.judge.demands.demand.Given as goal

abbrev pub invariant-loop-k : goal.invariant-loop-k
invariant-loop-k l = record {
  fine : per_item l.links (demand_at l.steps) ≡ items_from l.k (drop l.k l.links) (demand_at l.steps);
  listed : l.demands ≡ demands_of l.steps (take l.k l.links);
}
