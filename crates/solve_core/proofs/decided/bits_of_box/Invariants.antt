use Rattle.std.specs.Prelude.{◌≡◌, take}
use Rattle.solve_core.proofs.decided.bits_of_box.Given as goal

-- the lows of the columns so far
abbrev pub invariant-loop-column : goal.invariant-loop-column
invariant-loop-column l = l.bits.items ≡ take l.column l.costed.box.lows
