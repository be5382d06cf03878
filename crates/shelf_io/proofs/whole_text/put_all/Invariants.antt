use Rattle.std.proofs.Common.{length, take, ◌-◌, ◌≡◌, ◌≤◌}
use Rattle.shelf_io.specs.Told.{with_taken}
use Rattle.shelf_io.proofs.whole_text.put_all.Given as goal

-- what was put is the front of the bytes
abbrev pub invariant-loop-put : goal.invariant-loop-put
invariant-loop-put g l = record {
  within : l.put ≤ length l.bytes;
  taken : g.K.Sink.state l.sink ≡ with_taken (g.K.Sink.state l.initial.sink) (take l.put l.bytes);
}

abbrev pub decreases-loop-put : goal.decreases-loop-put
decreases-loop-put g l = length l.bytes - l.put
