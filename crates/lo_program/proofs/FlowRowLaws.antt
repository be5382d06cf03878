-- The flow rows of a cell at a step, part by part, and those of all steps.
use Rattle.std.proofs.Common.{◌≡◌, ℕ, ◌+◌, ◌≤◌, List, ◌++◌, length, map}
use Rattle.ct_base.specs.Access.{cell_of}
use Rattle.ct_base.specs.Validity.{IsValid}
use Rattle.listed.specs.Below.{join_below}
use Rattle.ct_base.specs.declared.net.Net.{Net}
use Rattle.sparse_program.specs.Program.{Begun}
use Rattle.sparse_program.specs.declared.limits.TheConstants.{MAX_ROWS}
use Rattle.program_model.specs.Columns.{Column, Flow, Switch, columns}
use Rattle.program_model.specs.FlowRows.{conservation_rows, flow_rows, flow_rows_at, move_terms, room_rows, split_rows}
use Rattle.program_model.specs.Numbers.{number_of}
use Rattle.program_model.specs.Rows.{SumRow}
use Rattle.program_model.specs.Sparse.{sparse}
use Rattle.program_model.specs.SwitchRows.{least_rows}
use Rattle.program_model.proofs.FlowColumns.{flow_rows_name}
use Rattle.lo_program.specs.inner.Adding.{Adds, Fits}
use Rattle.lo_program.specs.inner.Floors.{rows_of_step}
use Rattle.lo_program.proofs.RowLaws.{adds_both, fits_first, fits_second, rows_below}

abbrev Rows : Type 0
Rows = List (SumRow Column)

-- ---- a cell at a step

-- the rows of its move
abbrev pub move_rows : Net → ℕ → ℕ → Rows
move_rows net t i = least_rows (Flow t i) (move_terms net t i) (Switch t i)

-- the floors of a diverge
abbrev pub splits : Net → ℕ → ℕ → Rows
splits net t i = split_rows net.cells t i (cell_of net.cells i).out

-- what it holds in the next step
abbrev pub next_rows : Net → ℕ → ℕ → Rows
next_rows net t i = conservation_rows net.cells net.steps t i

-- all four
abbrev all_parts : Net → ℕ → ℕ → Rows
all_parts net t i = room_rows net.cells t i ++ splits net t i ++ move_rows net t i ++ next_rows net t i

cell_fits : (net : Net) (a : Begun) (t i : ℕ) → Fits net a (flow_rows_at net t i) → Fits net a (all_parts net t i)
unfolding flow_rows_at
cell_fits net a t i fits = fits

cell_added : (net : Net) (a b : Begun) (t i : ℕ) → Adds net a b (all_parts net t i) → Adds net a b (flow_rows_at net t i)
unfolding flow_rows_at
cell_added net a b t i added = added

pub room_fits : (net : Net) (a : Begun) (t i : ℕ) → Fits net a (flow_rows_at net t i) → Fits net a (room_rows net.cells t i)
room_fits net a t i fits =
    let r = room_rows net.cells t i in
    let s = splits net t i in
    let m = move_rows net t i in
    fits_first net a r s (fits_first net a (r ++ s) m (fits_first net a (r ++ s ++ m) (next_rows net t i) (cell_fits net a t i fits)))

pub split_fits : (net : Net) (a b : Begun) (t i : ℕ) → Fits net a (flow_rows_at net t i) → Adds net a b (room_rows net.cells t i) → Fits net b (splits net t i)
split_fits net a b t i fits rooms =
    let r = room_rows net.cells t i in
    let s = splits net t i in
    let m = move_rows net t i in
    fits_second net a b r s (fits_first net a (r ++ s) m (fits_first net a (r ++ s ++ m) (next_rows net t i) (cell_fits net a t i fits))) rooms

pub move_fits : (net : Net) (a b c : Begun) (t i : ℕ) → Fits net a (flow_rows_at net t i) → Adds net a b (room_rows net.cells t i) → Adds net b c (splits net t i) → Fits net c (move_rows net t i)
move_fits net a b c t i fits rooms split =
    let r = room_rows net.cells t i in
    let s = splits net t i in
    let m = move_rows net t i in
    fits_second net a c (r ++ s) m (fits_first net a (r ++ s ++ m) (next_rows net t i) (cell_fits net a t i fits)) (adds_both net a b c r s rooms split)

pub next_fits : (net : Net) (a b c d : Begun) (t i : ℕ) → Fits net a (flow_rows_at net t i) → Adds net a b (room_rows net.cells t i) → Adds net b c (splits net t i) → Adds net c d (move_rows net t i) → Fits net d (next_rows net t i)
next_fits net a b c d t i fits rooms split move =
    let r = room_rows net.cells t i in
    let s = splits net t i in
    let m = move_rows net t i in
    fits_second net a d (r ++ s ++ m) (next_rows net t i) (cell_fits net a t i fits) (adds_both net a c d (r ++ s) m (adds_both net a b c r s rooms split) move)

pub parts_added : (net : Net) (a b c d e : Begun) (t i : ℕ) → Adds net a b (room_rows net.cells t i) → Adds net b c (splits net t i) → Adds net c d (move_rows net t i) → Adds net d e (next_rows net t i) → Adds net a e (flow_rows_at net t i)
parts_added net a b c d e t i rooms split move next =
    let r = room_rows net.cells t i in
    let s = splits net t i in
    let m = move_rows net t i in
    cell_added net a e t i (adds_both net a d e (r ++ s ++ m) (next_rows net t i) (adds_both net a c d (r ++ s) m (adds_both net a b c r s rooms split) move) next)

-- ---- all steps

pub flows_fit : (net : Net) (program : Begun) → IsValid net → length program.columns ≡ length (columns net) → length program.rows + length (flow_rows net) ≤ MAX_ROWS → Fits net program (join_below net.steps (rows_of_step net))
unfolding flow_rows
flows_fit net program valid all few = record { few = few; there = rows_below net (length program.columns) (flow_rows net) all (flow_rows_name net valid) }

pub flows_added : (net : Net) (a b : Begun) → Adds net a b (join_below net.steps (rows_of_step net)) → b ≡ record a { rows = a.rows ++ map (sparse (number_of net)) (flow_rows net) }
unfolding flow_rows
flows_added net a b added = added.all
