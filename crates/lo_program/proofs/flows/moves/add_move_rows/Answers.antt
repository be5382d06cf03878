use mir.Val.{SFits, of_z, to_z}
use Rattle.std.proofs.Common.{◌≡◌, ◌+◌, ◌≤◌, ℕ, List, Some, None, w64, rules, ap, ◌∙◌, sym, arith}
use Rattle.std.specs.Prelude.{ℤ, pos}
use Rattle.std.proofs.lemmas.Int.{to_z-of_z}
use Rattle.ct_base.specs.Access.{cell_of}
use Rattle.ct_base.specs.declared.cell.Cell.{Cell}
use Rattle.ct_base.specs.declared.net.Net.{Net}
use Rattle.traffic_model.specs.Flow.{cap_of}
use Rattle.program_model.specs.Columns.{Flow}
use Rattle.program_model.specs.Numbers.{first_column, number_of}
use Rattle.lo_program.specs.inner.Flows.{flow_place}
use Rattle.lo_program.specs.inner.Moves.{gate_bits}
use Rattle.lo_program.proofs.ConservationLaws.{flow-place, flow_below}
use Rattle.lo_program.proofs.MoveFits.{move_fits}
use Rattle.lo_program.proofs.MoveTerms.{move_added}
use Rattle.lo_program.proofs.flows.moves.add_move_rows.Goals as goal
use Rattle.lo_program.proofs.flows.moves.add_move_rows.Goals.{in-None+in_ok-least_rows-in-None, in-Some+in_ok-bits-in-Some+in_ok-least_rows-in-Some}

-- a small number as the machine holds it
held_cap : (z : ℤ) (n : ℕ) → z ≡ pos n → n ≤ 1000 → to_z w64 (of_z w64 z) ≡ pos n
held_cap z n is small =
    let range : SFits w64 (pos n) = search (rules, small) in
    ap (λ (y : ℤ). to_z w64 (of_z w64 y)) is ∙ to_z-of_z w64 (pos n) range

-- the number of the flow
flow_is : (net : Net) (t i first place : ℕ) → first ≡ first_column net t 0 → place ≡ flow_place net.cells i → first + place ≡ number_of net (Flow t i)
flow_is net t i first place is_first is_place = omega (arith, is_first, is_place, flow-place net t i)

pub overflow_add-flow : goal.overflow_add-flow
overflow_add-flow c =
    rw (c.first_column.ensures, c.flow_of.ensures)
    (omega (arith, flow_below c.args.net.now c.args.t c.args.i c.requires.before c.requires.inside, c.requires.all_columns, c.alloc-alloc.ensures.few))

pub overflow_add-flow-in-None : goal.overflow_add-flow-in-None
overflow_add-flow-in-None c =
    rw (c.first_column.ensures, c.flow_of.ensures)
    (omega (arith, flow_below c.args.net.now c.args.t c.args.i c.requires.before c.requires.inside, c.requires.all_columns, c.alloc-alloc.ensures.few))

pub overflow_add-flow-in-Some : goal.overflow_add-flow-in-Some
overflow_add-flow-in-Some c =
    rw (c.first_column.ensures, c.flow_of.ensures)
    (omega (arith, flow_below c.args.net.now c.args.t c.args.i c.requires.before c.requires.inside, c.requires.all_columns, c.alloc-alloc.ensures.few))

pub least_rows-requires : goal.least_rows-requires
least_rows-requires c =
    let net = c.args.net.now in
    let cell_is : c.cell-cell.result.now ≡ cell_of net.cells c.args.i = c.cell-cell.ensures.value in
    let gate_is : gate_bits net c.args.t None ≡ gate_bits net c.args.t (cell_of net.cells c.args.i).gate = ap (gate_bits net c.args.t) (sym c.in-None.is ∙ ap (λ (cell : Cell). cell.gate) cell_is) in
    move_fits net c.args.builder.now c.args.t c.args.i (c.first_column.result + c.flow_of.result) c.cap_of.result (to_z w64 (of_z w64 c.from-cap.result)) None c.as_slice-terms.result.now
    c.requires.valid c.requires.before c.requires.inside c.cap_of.ensures.few c.requires.all_columns c.requires.room
    (flow_is net c.args.t c.args.i c.first_column.result c.flow_of.result c.first_column.ensures c.flow_of.ensures)
    (held_cap c.from-cap.result c.cap_of.result c.from-cap.ensures c.cap_of.ensures.few) gate_is (c.as_slice-terms.ensures ∙ c.in_ok-terms.ensures)

pub least_rows-requires-in-Some : goal.least_rows-requires-in-Some
least_rows-requires-in-Some c =
    let net = c.args.net.now in
    let cell_is : c.cell-cell.result.now ≡ cell_of net.cells c.args.i = c.cell-cell.ensures.value in
    let bits_are : Some c.as_slice-in-Some.result.now ≡ gate_bits net c.args.t (Some c.in-Some.gate) = ap Some (c.as_slice-in-Some.ensures ∙ c.in_ok-bits-in-Some.ensures) in
    let gate_is : gate_bits net c.args.t (Some c.in-Some.gate) ≡ gate_bits net c.args.t (cell_of net.cells c.args.i).gate = ap (gate_bits net c.args.t) (sym c.in-Some.is ∙ ap (λ (cell : Cell). cell.gate) cell_is) in
    move_fits net c.args.builder.now c.args.t c.args.i (c.first_column.result + c.flow_of.result) c.cap_of.result (to_z w64 (of_z w64 c.from-cap.result)) (Some c.as_slice-in-Some.result.now) c.as_slice-terms.result.now
    c.requires.valid c.requires.before c.requires.inside c.cap_of.ensures.few c.requires.all_columns c.requires.room
    (flow_is net c.args.t c.args.i c.first_column.result c.flow_of.result c.first_column.ensures c.flow_of.ensures)
    (held_cap c.from-cap.result c.cap_of.result c.from-cap.ensures c.cap_of.ensures.few) (bits_are ∙ gate_is) (c.as_slice-terms.ensures ∙ c.in_ok-terms.ensures)

pub returns : goal.returns
returns c =
    let net = c.args.net.now in
    let cell_is : c.cell-cell.result.now ≡ cell_of net.cells c.args.i = c.cell-cell.ensures.value in
    let most_is : c.cap_of.result ≡ cap_of net.cells (cell_of net.cells c.args.i) (cell_of net.cells c.args.i).out =
    c.cap_of.ensures.value ∙ ap (λ (cell : Cell). cap_of c.as_slice.result.now cell cell.out) cell_is ∙ ap (λ (cells : List Cell). cap_of cells (cell_of net.cells c.args.i) (cell_of net.cells c.args.i).out) c.as_slice.ensures in
    let flow = flow_is net c.args.t c.args.i c.first_column.result c.flow_of.result c.first_column.ensures c.flow_of.ensures in
    let cap = held_cap c.from-cap.result c.cap_of.result c.from-cap.ensures c.cap_of.ensures.few in
    let terms = c.as_slice-terms.ensures ∙ c.in_ok-terms.ensures in
    elim c.match-cell.branch [
      | in-None+in_ok-least_rows-in-None w ↦
          move_added net c.args.builder.now c.match-cell.builder c.args.t c.args.i (c.first_column.result + c.flow_of.result) c.cap_of.result (to_z w64 (of_z w64 c.from-cap.result)) None c.as_slice-terms.result.now flow cap most_is
          (ap (gate_bits net c.args.t) (sym w.in-None.is ∙ ap (λ (cell : Cell). cell.gate) cell_is)) terms (w.builder-is ∙ w.in_ok-least_rows-in-None.ensures.ok)
      | in-Some+in_ok-bits-in-Some+in_ok-least_rows-in-Some w ↦
          move_added net c.args.builder.now c.match-cell.builder c.args.t c.args.i (c.first_column.result + c.flow_of.result) c.cap_of.result (to_z w64 (of_z w64 c.from-cap.result)) (Some w.as_slice-in-Some.result.now) c.as_slice-terms.result.now flow cap most_is
          (ap Some (w.as_slice-in-Some.ensures ∙ w.in_ok-bits-in-Some.ensures) ∙ ap (gate_bits net c.args.t) (sym w.in-Some.is ∙ ap (λ (cell : Cell). cell.gate) cell_is)) terms (w.builder-is ∙ w.in_ok-least_rows-in-Some.ensures.ok)
    ]
