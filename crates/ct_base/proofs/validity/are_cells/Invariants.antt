-- Each cell that was passed obeys its rules.
use Rattle.std.proofs.Common.{◌<◌, ℕ}
use Rattle.ct_base.specs.Access.{cell_of}
use Rattle.ct_base.specs.Validity.{IsCell}
use Rattle.ct_base.proofs.validity.are_cells.Given as goal

abbrev pub invariant-loop-number : goal.invariant-loop-number
invariant-loop-number l = (i : ℕ) → i < l.number → IsCell l.net i (cell_of l.net.cells i)
