use Rattle.std.proofs.Common.{◌≡◌, ◌-◌, ◌<◌, length, get_or, arith, ◌∙◌, length-set}
use Rattle.std.proofs.lemmas.List.{get_or_default}
use Rattle.ct_base.specs.Access.{cell_of, no_cell}
use Rattle.cell_replay.proofs.Passing.{none_moved, passed_on-small, one_more_moved, all_moved}
use Rattle.cell_replay.proofs.moves.receive.Goals as goal

pub loop-number-init : goal.loop-number-init
loop-number-init c = none_moved c.args.cells.now c.args.step c.args.units.now c.args.outflows.now c.requires.fit.small

pub let_in-requires-clause-room : goal.let_in-requires-clause-room
let_in-requires-clause-room c =
    let k = c.loop-number.number in
    let few : k < length c.args.cells.now = omega arith in
    omega (
      arith,
      passed_on-small c.args.cells.now c.args.step c.args.units.now c.args.outflows.now k c.loop-number.units c.pass_on.new.units
          c.index-cells-number.result.out c.loop-number.invariant (omega arith) (c.requires.small k few) (λ j short. c.pass_on.ensures j (rw length-set short)),
    )

pub loop-number-preserved : goal.loop-number-preserved
loop-number-preserved c =
    let k = c.loop-number.number in
    let cells = c.args.cells.now in
    let units = c.loop-number.units in
    let outflows = c.args.outflows.now in
    let few : k < length cells = omega arith in
    let cell_is : c.index-cells-number.result ≡ cell_of cells k =
    c.index-cells-number.is ∙ get_or_default cells k c.index-cells-number.result no_cell few in
    one_more_moved cells c.args.step c.args.units.now outflows k units c.pass_on.new.units c.index-cells-number.result c.let_in.new.held
    c.loop-number.invariant (omega arith) (c.requires.held k few) (c.requires.small k few) cell_is
    (c.pass_on.auto.units ∙ length-set units k (get_or units k 0 - get_or outflows k 0))
    (λ j short. c.pass_on.ensures j (rw length-set short)) c.let_in.ensures.value c.let_in.ensures.small

pub returns : goal.returns
returns c =
    all_moved c.args.cells.now c.args.step c.args.units.now c.args.outflows.now c.loop-number.number c.loop-number.units (omega arith)
    (omega arith) c.loop-number.invariant
