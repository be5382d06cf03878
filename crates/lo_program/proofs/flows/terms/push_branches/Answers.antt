use Rattle.std.proofs.Common.{sym, arith}
use Rattle.std.proofs.lemmas.List.{append-nil}
use Rattle.program_layout.proofs.CountLaws.{few_of_room}
use Rattle.lo_program.proofs.MoveTerms.{branch_is_led_into, branches_before-more, branches_more, few_before, few_branches, first_column-small, none_before}
use Rattle.lo_program.proofs.flows.terms.push_branches.Goals as goal

pub overflow_add-column : goal.overflow_add-column
overflow_add-column c = rw c.parcels_column-column.ensures (omega (arith, first_column-small c.args.net.now c.args.t c.args.i c.requires.valid c.requires.before c.requires.inside, few_of_room c.args.net.now.cells c.args.i))

pub loop-branch-init : goal.loop-branch-init
loop-branch-init c = record {
  terms = sym (append-nil c.args.terms.now);
  column = omega (arith, c.parcels_column-column.ensures, none_before c.args.branches.now);
}

pub push_branch-requires-clause-inside : goal.push_branch-requires-clause-inside
push_branch-requires-clause-inside c =
    (branch_is_led_into c.args.net.now c.args.i c.loop-branch.branch-index c.args.branches.now c.requires.valid c.requires.inside c.requires.out (omega (arith, c.loop-branch-test.true))).within

pub push_branch-requires-clause-road : goal.push_branch-requires-clause-road
push_branch-requires-clause-road c =
    (branch_is_led_into c.args.net.now c.args.i c.loop-branch.branch-index c.args.branches.now c.requires.valid c.requires.inside c.requires.out (omega (arith, c.loop-branch-test.true))).road

pub overflow_add-column-in-loop-branch : goal.overflow_add-column-in-loop-branch
overflow_add-column-in-loop-branch c =
    omega (
      arith,
      c.loop-branch.invariant.column,
      first_column-small c.args.net.now c.args.t c.args.i c.requires.valid c.requires.before c.requires.inside,
      few_of_room c.args.net.now.cells c.args.i,
      few_before c.args.branches.now c.loop-branch.branch-index,
      few_branches c.args.net.now c.args.i c.args.branches.now c.requires.valid c.requires.inside c.requires.out,
      c.loop-branch-test.true,
      c.columns_of_branch-column.ensures.few,
    )

pub loop-branch-preserved : goal.loop-branch-preserved
loop-branch-preserved c = record {
  terms = branches_more c.args.net.now c.args.t c.args.i c.loop-branch.branch-index c.loop-branch.column c.args.branches.now (0, 0) c.args.terms.now c.loop-branch.terms c.push_branch.new.terms
      (omega (arith, c.loop-branch-test.true)) c.requires.out c.loop-branch.invariant.terms c.loop-branch.invariant.column c.in_ok-push_branch.ensures;
  column = omega (arith, c.loop-branch.invariant.column, branches_before-more c.args.branches.now c.loop-branch.branch-index, c.columns_of_branch-column.ensures.value);
}
