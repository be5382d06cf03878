use Rattle.std.proofs.Common.{◌≡◌, ◌+◌, ◌-◌, ◌<◌, ◌≤◌, length}
use Rattle.shelf_io.specs.inner.Pieces.{IsFrontOf}
use Rattle.shelf_io.proofs.whole_file.read_all.Given as goal

-- what was read so far is the front of the told file, no longer than allowed, and the shelf is as it was
abbrev pub invariant-pieces : goal.invariant-pieces
invariant-pieces g l = record {
  room : 0 < length l.buffer;
  within : length l.read.items ≤ l.limit;
  front : IsFrontOf (g.F.Shelf.state l.initial.shelf).files l.name l.read.items;
  same : g.F.Shelf.state l.shelf ≡ g.F.Shelf.state l.initial.shelf;
}

-- each turn reads a byte at least
abbrev pub decreases-pieces : goal.decreases-pieces
decreases-pieces g l = l.limit + 1 - length l.read.items
