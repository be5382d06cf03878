-- Each line of a trace is of a cell of the network.
use Rattle.std.proofs.Common.{◌≡◌, ℕ, zero, suc, ◌<◌, ◌≤◌, List, length, All, subst, sym, ap, ◌∙◌, refl, add-one, arith}
use Rattle.std.proofs.lemmas.List.Elements.{All-append, All-nil, All-push}
use Rattle.listed.proofs.TableLaws.{table_of-suc, table_of-zero}
use Rattle.listed.specs.Below.{table_of}
use Rattle.ct_base.specs.declared.cell.Cell.{Cell}
use Rattle.ct_base.specs.declared.plan.Letter.{Letter}
use Rattle.traffic_model.specs.Occupancy.{occupancies}
use Rattle.cell_replay.proofs.Noting.{trace_of-suc, trace_of-zero}
use Rattle.cell_replay.specs.Trace.{line_from, trace_of}
use Rattle.cell_replay.specs.declared.lines.Line.{Line}

-- the lines of the first k cells of n
lines_of_cells : (n k : ℕ) (f : ℕ → Line) → ((i : ℕ) → (f i).cell ≡ i) → k ≤ n → All (λ (line : Line). line.cell < n) (table_of k f)
lines_of_cells n zero f numbered within =
    let P : List Line → Type 0 = λ lines. All (λ (line : Line). line.cell < n) lines in
    subst P (sym (table_of-zero f)) (All-nil (λ (line : Line). line.cell < n))
lines_of_cells n (suc k) f numbered within =
    let P : List Line → Type 0 = λ lines. All (λ (line : Line). line.cell < n) lines in
    let last : (f k).cell < n = omega (arith, numbered k) in
    subst P (sym (ap (λ m. table_of m f) (sym (add-one k)) ∙ table_of-suc k f))
    (All-push (λ (line : Line). line.cell < n) (table_of k f) (f k) (lines_of_cells n k f numbered (omega arith)) last)

pub lines_are_of_cells : (cells : List Cell) (letters : ℕ → List Letter) (t : ℕ) → All (λ (line : Line). line.cell < length cells) (trace_of cells letters t)
lines_are_of_cells cells letters zero =
    let P : List Line → Type 0 = λ lines. All (λ (line : Line). line.cell < length cells) lines in
    subst P (sym (trace_of-zero cells letters)) (All-nil (λ (line : Line). line.cell < length cells))
lines_are_of_cells cells letters (suc t) =
    let P : List Line → Type 0 = λ lines. All (λ (line : Line). line.cell < length cells) lines in
    let f : ℕ → Line = line_from cells (letters t) t (occupancies cells letters t) in
    subst P (sym (ap (trace_of cells letters) (sym (add-one t)) ∙ trace_of-suc cells letters t))
    (All-append (λ (line : Line). line.cell < length cells) (trace_of cells letters t) (table_of (length cells) f) (lines_are_of_cells cells letters t) (lines_of_cells (length cells) (length cells) f (λ i. refl) (omega arith)))
