use Rattle.std.proofs.Common.{length, take, ◌-◌, ◌≡◌, ◌≤◌}
use Rattle.shelf_io.specs.Told.{with_file}
use Rattle.shelf_io.proofs.whole_write.write_all.Given as goal

-- the file holds the front of the bytes
abbrev pub invariant-loop-written : goal.invariant-loop-written
invariant-loop-written g l = record {
  within : l.written ≤ length l.bytes;
  holds : g.F.Shelf.state l.shelf ≡ with_file (g.F.Shelf.state l.fn.shelf) l.name (take l.written l.bytes);
}

abbrev pub decreases-loop-written : goal.decreases-loop-written
decreases-loop-written g l = length l.bytes - l.written
