-- The cells of the links that were reached, and the demands of those that were not.
use Rattle.std.proofs.Common.{◌≡◌, ℕ, ◌≤◌, None, get_or}
use Rattle.cell_build.specs.Link.{cells_of_links}
use Rattle.cell_build.proofs.network.cells_of.Given as goal

abbrev pub invariant-loop-number : goal.invariant-loop-number
invariant-loop-number l = record {
  built : l.cells.items ≡ cells_of_links l.raw.steps l.raw.signals l.raw.links l.number;
  left : (k : ℕ) → l.number ≤ k → get_or l.demands k None ≡ get_or l.initial.demands k None;
}
