use Rattle.std.proofs.Common.{◌≡◌, ◌+◌, ◌++◌, map, take}
use Rattle.program_model.specs.FlowRows.{branch_terms}
use Rattle.program_model.specs.Numbers.{after_room, branches_before, first_column}
use Rattle.lo_program.specs.inner.Moves.{term_by_number}
use Rattle.lo_program.proofs.flows.terms.push_branches.Given as goal

-- the terms of the branches that were passed, and where the columns of the next begin
abbrev pub invariant-loop-branch : goal.invariant-loop-branch
invariant-loop-branch l = record {
  terms : l.terms ≡ l.fn.terms ++ map (term_by_number l.net) (branch_terms l.net.cells l.t l.i 0 (take l.branch-index l.branches));
  column : l.column ≡ first_column l.net l.t l.i + after_room l.net.cells l.i + 2 + branches_before l.branches l.branch-index;
}
