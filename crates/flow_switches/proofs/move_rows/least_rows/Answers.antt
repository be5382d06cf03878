use Rattle.std.proofs.Common.{◌≡◌, ℕ, ◌+◌, List, ◌++◌, length, map, ap, subst, ◌∙◌, sym, arith, w64}
use Rattle.std.specs.Option.{option_copied}
use Rattle.std.proofs.lemmas.Int.{to_z-of_z}
use Rattle.std.proofs.lemmas.List.{length-append}
use Rattle.std.proofs.lemmas.Result.{on_err_weaker, on_ok_weaker}
use Rattle.sparse_program.specs.Program.{Begun}
use Rattle.sparse_program.specs.declared.column.Col.{Col}
use Rattle.sparse_program.specs.declared.row.Row.{Row}
use Rattle.program_model.specs.SwitchRows.{least_rows}
use Rattle.flow_switches.specs.Added.{Adds, AddsFront}
use Rattle.flow_switches.specs.Conditions.{TermFits}
use Rattle.flow_switches.specs.Sums.{held, terms_of}
use Rattle.flow_switches.specs.declared.term.Term.{Term}
use Rattle.flow_switches.proofs.Adding.{adds_none, adds_then, adds_then_front, front_more, lower, on_err, upper}
use Rattle.flow_switches.proofs.Capped.{capped_fits}
use Rattle.flow_switches.proofs.LeastRows.{least_rows_list, length-lower, one_on}
use Rattle.flow_switches.proofs.move_rows.least_rows.Goals as goal
use mir.Val.{SFits}

-- a term fits as many columns as before
fits_after : (a b : Begun) (rows : List Row) (switches : ℕ) (term : Term) → Adds a rows b → TermFits (length a.columns) switches term → TermFits (length b.columns) switches term
fits_after a b rows switches term added fits =
    let columns_of : Begun → List Col = λ program. program.columns in
    subst (λ (columns : List Col). TermFits (length columns) switches term) (sym (ap columns_of added)) fits

-- how many rows there are after some were added
rows_after : (a b : Begun) (rows : List Row) → Adds a rows b → length b.rows ≡ length a.rows + length rows
rows_after a b rows added = ap (λ (program : Begun). length program.rows) added ∙ length-append a.rows rows

pub returns-in_err-one_switch_row-clause-err : goal.returns-in_err-one_switch_row-clause-err
returns-in_err-one_switch_row-clause-err c =
    on_err c.from_residual-in_err-one_switch_row.result
    (adds_none c.args.builder.now c.one_switch_row.new.builder (map held (least_rows c.args.flow (terms_of c.args.cap (option_copied c.args.gate) c.args.terms.now) (λ m. c.args.switches + m)))
    c.in_err-one_switch_row.ensures.err)

pub lower_rows-requires-clause-cap : goal.lower_rows-requires-clause-cap
lower_rows-requires-clause-cap c =
    let cap : SFits w64 c.args.cap = c.ranges.cap in
    let most = simp to_z-of_z at c.in_ok-first.ensures.most in
    let value = simp to_z-of_z at c.in_ok-first.ensures.value in
    fits_after c.args.builder.now c.one_switch_row.new.builder (one_on c.args.switches (length c.args.terms.now + 1)) (length c.args.terms.now + 1) c.in_ok-first.first c.in_ok-one_switch_row.ensures.ok
    (capped_fits (length c.args.builder.now.columns) (length c.args.terms.now + 1) c.args.cap (option_copied c.args.gate) c.in_ok-first.first c.requires.cap_fits value most)

pub returns-in_err-lower_rows-clause-err : goal.returns-in_err-lower_rows-clause-err
returns-in_err-lower_rows-clause-err c =
    let cap : SFits w64 c.args.cap = c.ranges.cap in
    let value = simp to_z-of_z at c.in_ok-first.ensures.value in
    let ones : List Row = one_on c.args.switches (length c.args.terms.now + 1) in
    let lowers : List Row = lower c.args.flow c.args.switches (length c.args.terms.now + 1) c.in_ok-first.first c.args.terms.now in
    let uppers : List Row = upper c.args.flow c.args.switches c.in_ok-first.first c.args.terms.now in
    on_err c.from_residual-in_err-lower_rows.result
    (subst (λ (rows : List Row). AddsFront c.args.builder.now rows c.lower_rows.new.builder)
    (least_rows_list c.args.flow c.args.switches c.args.cap (option_copied c.args.gate) c.args.terms.now c.in_ok-first.first value)
    (front_more c.args.builder.now c.lower_rows.new.builder (ones ++ lowers) uppers
    (adds_then_front c.args.builder.now c.one_switch_row.new.builder c.lower_rows.new.builder ones lowers c.in_ok-one_switch_row.ensures.ok c.in_err-lower_rows.ensures.err)))

pub upper_rows-requires-clause-cap : goal.upper_rows-requires-clause-cap
upper_rows-requires-clause-cap c =
    let cap : SFits w64 c.args.cap = c.ranges.cap in
    let most = simp to_z-of_z at c.in_ok-first.ensures.most in
    let value = simp to_z-of_z at c.in_ok-first.ensures.value in
    let lowers : List Row = lower c.args.flow c.args.switches (length c.args.terms.now + 1) c.in_ok-first.first c.args.terms.now in
    fits_after c.one_switch_row.new.builder c.lower_rows.new.builder lowers (length c.args.terms.now + 1) c.in_ok-first.first c.in_ok-lower_rows.ensures.ok
    (fits_after c.args.builder.now c.one_switch_row.new.builder (one_on c.args.switches (length c.args.terms.now + 1)) (length c.args.terms.now + 1) c.in_ok-first.first c.in_ok-one_switch_row.ensures.ok
    (capped_fits (length c.args.builder.now.columns) (length c.args.terms.now + 1) c.args.cap (option_copied c.args.gate) c.in_ok-first.first c.requires.cap_fits value most))

pub upper_rows-requires-clause-room : goal.upper_rows-requires-clause-room
upper_rows-requires-clause-room c =
    let lowers : List Row = lower c.args.flow c.args.switches (length c.args.terms.now + 1) c.in_ok-first.first c.args.terms.now in
    let one : length c.one_switch_row.new.builder.rows ≡ length c.args.builder.now.rows + 1 =
    rows_after c.args.builder.now c.one_switch_row.new.builder (one_on c.args.switches (length c.args.terms.now + 1)) c.in_ok-one_switch_row.ensures.ok in
    let more : length c.lower_rows.new.builder.rows ≡ length c.one_switch_row.new.builder.rows + length lowers =
    rows_after c.one_switch_row.new.builder c.lower_rows.new.builder lowers c.in_ok-lower_rows.ensures.ok in
    let many : length lowers ≡ length c.args.terms.now + 1 = length-lower c.args.flow c.args.switches (length c.args.terms.now + 1) c.in_ok-first.first c.args.terms.now in
    omega (arith, one, more, many, c.requires.room)

pub returns-clause-ok : goal.returns-clause-ok
returns-clause-ok c =
    let cap : SFits w64 c.args.cap = c.ranges.cap in
    let value = simp to_z-of_z at c.in_ok-first.ensures.value in
    let ones : List Row = one_on c.args.switches (length c.args.terms.now + 1) in
    let lowers : List Row = lower c.args.flow c.args.switches (length c.args.terms.now + 1) c.in_ok-first.first c.args.terms.now in
    let uppers : List Row = upper c.args.flow c.args.switches c.in_ok-first.first c.args.terms.now in
    let before : Adds c.args.builder.now (ones ++ lowers) c.lower_rows.new.builder =
    adds_then c.args.builder.now c.one_switch_row.new.builder c.lower_rows.new.builder ones lowers c.in_ok-one_switch_row.ensures.ok c.in_ok-lower_rows.ensures.ok in
    on_ok_weaker c.upper_rows.result
    (λ (last : Adds c.lower_rows.new.builder uppers c.upper_rows.new.builder).
    subst (λ (rows : List Row). Adds c.args.builder.now rows c.upper_rows.new.builder)
    (least_rows_list c.args.flow c.args.switches c.args.cap (option_copied c.args.gate) c.args.terms.now c.in_ok-first.first value)
    (adds_then c.args.builder.now c.lower_rows.new.builder c.upper_rows.new.builder (ones ++ lowers) uppers before last))
    c.upper_rows.ensures.ok

pub returns-clause-err : goal.returns-clause-err
returns-clause-err c =
    let cap : SFits w64 c.args.cap = c.ranges.cap in
    let value = simp to_z-of_z at c.in_ok-first.ensures.value in
    let ones : List Row = one_on c.args.switches (length c.args.terms.now + 1) in
    let lowers : List Row = lower c.args.flow c.args.switches (length c.args.terms.now + 1) c.in_ok-first.first c.args.terms.now in
    let uppers : List Row = upper c.args.flow c.args.switches c.in_ok-first.first c.args.terms.now in
    let before : Adds c.args.builder.now (ones ++ lowers) c.lower_rows.new.builder =
    adds_then c.args.builder.now c.one_switch_row.new.builder c.lower_rows.new.builder ones lowers c.in_ok-one_switch_row.ensures.ok c.in_ok-lower_rows.ensures.ok in
    on_err_weaker c.upper_rows.result
    (λ (last : AddsFront c.lower_rows.new.builder uppers c.upper_rows.new.builder).
    subst (λ (rows : List Row). AddsFront c.args.builder.now rows c.upper_rows.new.builder)
    (least_rows_list c.args.flow c.args.switches c.args.cap (option_copied c.args.gate) c.args.terms.now c.in_ok-first.first value)
    (adds_then_front c.args.builder.now c.lower_rows.new.builder c.upper_rows.new.builder (ones ++ lowers) uppers before last))
    c.upper_rows.ensures.err
