use Rattle.std.proofs.Common.{◌≡◌, ◌++◌, Bool, ap, ◌∙◌, sym}
use Rattle.std.specs.Prelude.{ℕ, pos, replicate, if◌then◌else◌}
use Rattle.ct_base.specs.Access.{cell_of}
use Rattle.ct_base.specs.declared.cell.Cell.{Cell}
use Rattle.program_model.specs.Columns.{term_count}
use Rattle.program_model.specs.FlowRows.{move_terms}
use Rattle.seed_prices.proofs.PriceParts.{cell_added, length-move_terms}
use Rattle.seed_prices.proofs.prices.push_cell.Goals as goal

pub returns : goal.returns
returns c =
    let net = c.args.net.now in
    let t : ℕ = c.args.t in
    let i : ℕ = c.args.i in
    let is : c.cell.result.now.out ≡ (cell_of net.cells i).out = ap (λ (cell : Cell). cell.out) c.cell.ensures.value in
    let rooms : c.row_where.result ≡ (if c.has_room.result then 1 else 0) = c.row_where.ensures in
    cell_added net t i c.cell.result.now.out c.args.prices.now.items c.push_unpriced.new.prices.items c.push_split.new.prices.items c.push_move.new.prices.items c.push_unpriced-2.new.prices.items is
    (c.in_ok-push_unpriced.ensures ∙ ap (λ n. c.args.prices.now.items ++ replicate n (pos 0)) (rooms ∙ ap (λ (has : Bool). if has then 1 else 0) c.has_room.ensures))
    (c.in_ok-push_split.ensures net.cells t i)
    (c.in_ok-push_move.ensures (move_terms net t i) (length-move_terms net t i ∙ ap term_count (sym is)))
    (c.in_ok-push_unpriced-2.ensures ∙ ap (λ n. c.push_move.new.prices.items ++ replicate n (pos 0)) c.row_where-2.ensures)
