use Rattle.std.proofs.Common.{◌≡◌, rules, length, subst, sym}
use Rattle.lo_program.specs.inner.Adding.{Adds, Fits}
use Rattle.listed.specs.Below.{join_below}
use Rattle.lo_program.proofs.FloorLaws.{branches_are, rows_of_branch}
use Rattle.lo_program.proofs.RowLaws.{adds_no_part, adds_part, fits_part}
use Rattle.lo_program.proofs.StepLaws.{Rows}
use Rattle.lo_program.proofs.flows.floors.add_branches_rows.Goals as goal

pub loop-k-init : goal.loop-k-init
loop-k-init c = adds_no_part c.args.net.now c.args.builder.now (rows_of_branch c.args.net.now.cells c.args.t c.args.i c.args.branches.now)

pub add_branch_rows-requires-clause-fits : goal.add_branch_rows-requires-clause-fits
add_branch_rows-requires-clause-fits c =
    fits_part c.args.net.now c.args.builder.now c.loop-k.builder (length c.args.branches.now) c.loop-k.k (rows_of_branch c.args.net.now.cells c.args.t c.args.i c.args.branches.now)
    (subst (λ (rows : Rows). Fits c.args.net.now c.args.builder.now rows) (branches_are c.args.net.now.cells c.args.t c.args.i c.args.branches.now) c.requires.fits)
    (search (rules, c.loop-k-test.true)) c.loop-k.invariant

pub loop-k-preserved : goal.loop-k-preserved
loop-k-preserved c =
    adds_part c.args.net.now c.args.builder.now c.loop-k.builder c.add_branch_rows.new.builder c.loop-k.k (rows_of_branch c.args.net.now.cells c.args.t c.args.i c.args.branches.now) c.loop-k.invariant c.in_ok-add_branch_rows.ensures

pub returns : goal.returns
returns c =
    let all : c.loop-k.k ≡ length c.args.branches.now = search (rules, c.loop-k-test.false, c.loop-k.auto.k-end) in
    subst (λ (rows : Rows). Adds c.args.net.now c.args.builder.now c.loop-k.builder rows) (sym (branches_are c.args.net.now.cells c.args.t c.args.i c.args.branches.now))
    (subst (λ n. Adds c.args.net.now c.args.builder.now c.loop-k.builder (join_below n (rows_of_branch c.args.net.now.cells c.args.t c.args.i c.args.branches.now))) all c.loop-k.invariant)
