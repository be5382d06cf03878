use Rattle.std.proofs.Common.{◌≡◌, ◌+◌, length, take}
use Rattle.flow_switches.specs.Added.{Adds}
use Rattle.flow_switches.proofs.Adding.{upper}
use Rattle.flow_switches.proofs.move_rows.Move.upper_rows.Given as goal

-- the rows of the cap and of the terms so far were added
abbrev pub invariant-loop-k : goal.invariant-loop-k
invariant-loop-k l = record {
  added : Adds l.fn.builder (upper l.self.flow l.self.first l.fn.cap (take l.k l.further)) l.builder;
  columns : l.builder.columns ≡ l.fn.builder.columns;
  many : length l.builder.rows ≡ length l.fn.builder.rows + (l.k + 1);
}
