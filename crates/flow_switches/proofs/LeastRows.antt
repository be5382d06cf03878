-- All rows of a move: that of the switches, the lower rows and the upper rows.
use Rattle.std.proofs.Common.{◌≡◌, ℕ, ◌+◌, List, [], ◌∷◌, ◌++◌, length, map, Option, ap, ◌∙◌, sym, arith}
use Rattle.std.specs.Prelude.{ℤ}
use Rattle.std.proofs.lemmas.List.{length-map, map-append}
use Rattle.sparse_program.specs.declared.row.Row.{Row}
use Rattle.program_model.specs.Rows.{SumRow}
use Rattle.program_model.specs.SwitchRows as model
use Rattle.program_model.specs.SwitchRows.{least_rows}
use Rattle.flow_switches.specs.Sums.{cap_term, held, term_of, terms_of}
use Rattle.flow_switches.specs.declared.term.Term.{Term}
use Rattle.flow_switches.proofs.Adding.{lower, upper}

-- the row of the switches
abbrev pub one_on : ℕ → ℕ → List Row
one_on first switches = held (model.one_switch_row (λ m. first + m) switches) ∷ []

-- the rows of a move whose cap is this term
pub least_rows_list : (flow first : ℕ) (cap : ℤ) (gate : Option (List ℕ)) (terms : List Term) (term : Term) → term_of term ≡ cap_term cap gate →
    one_on first (length terms + 1) ++ lower flow first (length terms + 1) term terms ++ upper flow first term terms
    ≡ map held (least_rows flow (terms_of cap gate terms) (λ m. first + m))
unfolding least_rows
least_rows_list flow first cap gate terms term is =
    let switch : ℕ → ℕ = λ m. first + m in
    let rows : ℕ → model.Term ℕ → List Row = λ n t.
    map held (model.one_switch_row switch n ∷ model.lower_rows flow switch n 0 (t ∷ map term_of terms) ++ model.upper_rows flow switch 0 (t ∷ map term_of terms)) in
    let count : length terms + 1 ≡ length (terms_of cap gate terms) = omega (arith, length-map terms term_of) in
    sym (map-append held (model.one_switch_row switch (length terms + 1) ∷ model.lower_rows flow switch (length terms + 1) 0 (term_of term ∷ map term_of terms))
    (model.upper_rows flow switch 0 (term_of term ∷ map term_of terms)))
    ∙ ap (rows (length terms + 1)) is ∙ ap (λ (n : ℕ). rows n (cap_term cap gate)) count

-- a lower row for each term
length-lower_rows : (flow : ℕ) (switch : ℕ → ℕ) (count m : ℕ) (terms : List (model.Term ℕ)) → length (model.lower_rows flow switch count m terms) ≡ length terms
length-lower_rows flow switch count m [] = omega arith
length-lower_rows flow switch count m (term ∷ terms) = omega (arith, length-lower_rows flow switch count (m + 1) terms)

pub length-lower : (flow first switches : ℕ) (cap : Term) (further : List Term) → length (lower flow first switches cap further) ≡ length further + 1
length-lower flow first switches cap further =
    let all : List (SumRow ℕ) = model.lower_rows flow (λ m. first + m) switches 0 (term_of cap ∷ map term_of further) in
    omega (arith, length-map all held, length-lower_rows flow (λ m. first + m) switches 0 (term_of cap ∷ map term_of further), length-map further term_of)
