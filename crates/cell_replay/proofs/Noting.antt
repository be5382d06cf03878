-- The lines of a replay as they are noted: cell by cell in a step, and step by step; and what their delays add up to.
use Rattle.std.proofs.Common.{◌≡◌, ℕ, zero, suc, ◌+◌, ◌-◌, List, [], ◌∷◌, ◌++◌, length, slice_index, append_assoc, add-one, refl, ap, ◌∙◌, sym}
use Rattle.std.specs.Prelude.{sum_by}
use Rattle.std.proofs.lemmas.List.Sums.{sum_by-append, sum_by_push}
use Rattle.listed.proofs.TableLaws.{slice_index-table_of, table_of-same, table_of-suc}
use Rattle.listed.specs.Below.{sum_below, table_of}
use Rattle.ct_base.specs.declared.cell.Cell.{Cell}
use Rattle.ct_base.specs.declared.net.Net.{Net}
use Rattle.ct_base.specs.declared.plan.Letter.{Letter}
use Rattle.traffic_model.specs.Delay.{cell_delay, delay_of, step_delay}
use Rattle.traffic_model.specs.Flow.{outflow}
use Rattle.traffic_model.specs.Occupancy.{occupancies}
use Rattle.cell_replay.proofs.Adding.{IsAt}
use Rattle.cell_replay.specs.inner.Moves.{line_of}
use Rattle.cell_replay.specs.Standing.{Standing, one_step_on}
use Rattle.cell_replay.specs.Trace.{line_from, lines_at, trace_of}
use Rattle.cell_replay.specs.declared.lines.Line.{Line}

-- ---- the lines of a step

-- the line of one cell more
pub one_line_more : (before lines : List Line) (f : ℕ → Line) (k : ℕ) (line : Line) → lines ≡ before ++ table_of k f → line ≡ f k →
    lines ++ line ∷ [] ≡ before ++ table_of (k + 1) f
one_line_more before lines f k line so_far is =
    ap (λ list. list ++ line ∷ []) so_far
    ∙ ap (λ l. (before ++ table_of k f) ++ l ∷ []) is
    ∙ append_assoc before (table_of k f) (f k ∷ [])
    ∙ ap (λ list. before ++ list) (sym (table_of-suc k f))

-- what leaves the cells in the step that a replay makes
pub leaves_in_step : (cells : List Cell) (letters : List Letter) (at after : Standing) (units outflows : List ℕ) → units ≡ at.units → after ≡ one_step_on cells letters at → outflows ≡ after.outflows →
    outflows ≡ table_of (length cells) (outflow cells letters units)
leaves_in_step cells letters at after units outflows held moves are =
    are ∙ ap (λ (s : Standing). s.outflows) moves ∙ ap (λ (list : List ℕ). table_of (length cells) (outflow cells letters list)) (sym held)

-- the lines of what left the cells are those that the model says
pub lines_from_step : (cells : List Cell) (letters : List Letter) (t n : ℕ) (at : Standing) (units outflows : List ℕ) → t ≡ at.step → units ≡ at.units → n ≡ length cells →
    outflows ≡ table_of (length cells) (outflow cells letters units) → table_of n (line_of t units outflows) ≡ table_of (length cells) (line_from cells letters at.step at.units)
lines_from_step cells letters t n at units outflows now held long sent =
    ap (λ m. table_of m (line_of t units outflows)) long
    ∙ table_of-same (length cells) (line_of t units outflows) (line_from cells letters t units)
    (λ i within.
    let line : ℕ → Line = λ out. record { step = t; cell = i; units = slice_index units i; out = out; delay = slice_index units i - out } in
    ap line (ap (λ (list : List ℕ). slice_index list i) sent ∙ slice_index-table_of (length cells) (outflow cells letters units) i within))
    ∙ ap (λ k. table_of (length cells) (line_from cells letters k units)) now
    ∙ ap (λ list. table_of (length cells) (line_from cells letters at.step list)) held

-- ---- the lines of the first steps

-- no step has no line
pub trace_of-zero : (cells : List Cell) (letters : ℕ → List Letter) → trace_of cells letters 0 ≡ []
unfolding trace_of
trace_of-zero cells letters = refl

-- the lines of one step more
pub trace_of-suc : (cells : List Cell) (letters : ℕ → List Letter) (t : ℕ) →
    trace_of cells letters (t + 1) ≡ trace_of cells letters t ++ table_of (length cells) (line_from cells (letters t) t (occupancies cells letters t))
unfolding trace_of lines_at
trace_of-suc cells letters t = rw add-one

-- the lines of the step at which a replay stands
pub one_step_more : (net : Net) (letters : ℕ → List Letter) (t : ℕ) (at : Standing) (before lines : List Line) (shown : List Letter) →
    IsAt net letters t at → shown ≡ letters t → before ≡ trace_of net.cells letters t →
    lines ≡ before ++ table_of (length net.cells) (line_from net.cells shown at.step at.units) → lines ≡ trace_of net.cells letters (t + 1)
one_step_more net letters t at before lines shown here shows so_far noted =
    noted
    ∙ ap (λ list. list ++ table_of (length net.cells) (line_from net.cells shown at.step at.units)) so_far
    ∙ ap (λ list. trace_of net.cells letters t ++ table_of (length net.cells) (line_from net.cells list at.step at.units)) shows
    ∙ ap (λ n. trace_of net.cells letters t ++ table_of (length net.cells) (line_from net.cells (letters t) n at.units)) here.step
    ∙ ap (λ units. trace_of net.cells letters t ++ table_of (length net.cells) (line_from net.cells (letters t) t units)) here.units
    ∙ sym (trace_of-suc net.cells letters t)

-- ---- what the delays of the lines add up to

-- over the cells of a step
delay_of_lines : (n : ℕ) (cells : List Cell) (letters : List Letter) (t : ℕ) (units : List ℕ) →
    sum_by (λ (line : Line). line.delay) (table_of n (line_from cells letters t units)) ≡ sum_below n (λ i. cell_delay cells letters units i)
unfolding table_of sum_below
delay_of_lines zero cells letters t units = refl
delay_of_lines (suc n) cells letters t units =
    sum_by_push (λ (line : Line). line.delay) (table_of n (line_from cells letters t units)) (line_from cells letters t units n)
    ∙ ap (λ s. s + cell_delay cells letters units n) (delay_of_lines n cells letters t units)

-- over the first steps
pub delays_of_trace : (cells : List Cell) (letters : ℕ → List Letter) (k : ℕ) → sum_by (λ (line : Line). line.delay) (trace_of cells letters k) ≡ delay_of cells letters k
unfolding trace_of lines_at delay_of step_delay sum_below
delays_of_trace cells letters zero = refl
delays_of_trace cells letters (suc t) =
    sum_by-append (λ (line : Line). line.delay) (trace_of cells letters t) (lines_at cells letters t)
    ∙ ap (λ s. s + sum_by (λ (line : Line). line.delay) (lines_at cells letters t)) (delays_of_trace cells letters t)
    ∙ ap (λ s. delay_of cells letters t + s) (delay_of_lines (length cells) cells (letters t) t (occupancies cells letters t))
