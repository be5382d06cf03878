-- The names of the items that were reached.
use Rattle.std.proofs.Common.{◌≡◌, map, take}
use Rattle.cell_build.specs.inner.Numbered.{texts}
use Rattle.cell_build.proofs.by_name.names_of.Given as goal

abbrev pub invariant-loop-item : goal.invariant-loop-item
invariant-loop-item g l = texts l.names.keys ≡ take l.item-index (map g.T.HasName.name_of l.items)
