-- The reader stands for the bytes so far, and what they say was told.
use Rattle.std.proofs.Common.{◌≡◌, ◌-◌, ◌≤◌, length, map, take}
use Rattle.cert_format.specs.Marks.{node_of}
use Rattle.cert_format.specs.Progress.{progress_of}
use Rattle.cert_format.specs.Readers.{StandsFor}
use Rattle.cert_format.proofs.reading.read_front.Given as goal

abbrev pub invariant-loop-at : goal.invariant-loop-at
invariant-loop-at l = record {
  stands : StandsFor l.reader (take l.at l.bytes);
  bound : l.front.bound ≡ (progress_of (take l.at l.bytes)).bound;
  nodes : map node_of l.front.nodes ≡ (progress_of (take l.at l.bytes)).nodes;
  within : l.at ≤ length l.bytes;
}

abbrev pub decreases-loop-at : goal.decreases-loop-at
decreases-loop-at l = length l.bytes - l.at
