use Rattle.std.proofs.Common.{◌≡◌, filter, length, get_or, ap, ◌∙◌, sym, arith}
use Rattle.ct_base.specs.declared.cell.Cell.{Cell}
use Rattle.listed.proofs.TableLaws.{get_or-table_of, length-table_of, table_of-zero}
use Rattle.traffic_model.specs.Flow.{share}
use Rattle.lo_program.specs.inner.Flows.{brings, feeder, feeders_among, flow_place}
use Rattle.lo_program.proofs.FeederLaws.{feeders-next}
use Rattle.lo_program.proofs.flows.feeders.feeders_of.Goals as goal

pub loop-j-init : goal.loop-j-init
loop-j-init c = c.new-feeders.ensures ∙ sym (ap (filter brings) (table_of-zero (feeder c.args.net.now.cells c.args.i)))

pub cell-requires-clause-there : goal.cell-requires-clause-there
cell-requires-clause-there c = omega (arith, c.loop-j-test.true, ap length c.requires.flows ∙ length-table_of (length c.args.net.now.cells) (flow_place c.args.net.now.cells))

pub loop-j-preserved : goal.loop-j-preserved
loop-j-preserved c =
    let cells = c.args.net.now.cells in
    let j = c.loop-j.j in
    let long : length c.args.flows.now ≡ length cells = ap length c.requires.flows ∙ length-table_of (length cells) (flow_place cells) in
    let at : get_or c.args.flows.now j 0 ≡ flow_place cells j = ap (λ xs. get_or xs j 0) c.requires.flows ∙ get_or-table_of (length cells) (flow_place cells) j 0 (omega (arith, c.loop-j-test.true, long)) in
    c.in_ok-add_feeder.ensures
    ∙ feeders-next cells j c.args.i (get_or c.args.flows.now j 0) c.share-share.result c.loop-j.feeders c.loop-j.invariant at (c.share-share.ensures ∙ ap (λ (cell : Cell). share cell.out c.args.i) c.cell.ensures.value)

pub returns : goal.returns
returns c =
    let cells = c.args.net.now.cells in
    let long : length c.args.flows.now ≡ length cells = ap length c.requires.flows ∙ length-table_of (length cells) (flow_place cells) in
    let all : c.loop-j.j ≡ length cells = omega (arith, long) in
    c.loop-j.invariant ∙ ap (λ n. feeders_among cells n c.args.i) all
