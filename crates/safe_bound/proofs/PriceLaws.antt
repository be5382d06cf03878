-- Laws of prices, one of each row: a column has few entries, sums of terms grow one by one, and values are below objectives.
use Rattle.std.proofs.Common.{◌≡◌, ℕ, ◌+◌, ◌<◌, ◌≤◌, Bool, true, false, List, [], ◌∷◌, ◌++◌, length, get_or, take, All, refl, ap, ◌∙◌, sym, arith}
use Rattle.std.specs.Prelude.{ℤ, pos, ◌+ℤ◌, ◌*ℤ◌, ◌≤ℤ◌}
use Rattle.std.proofs.Math.IntN.{*ℤ_comm, zero-*ℤ}
use Rattle.std.proofs.lemmas.Int.{ints}
use Rattle.std.proofs.lemmas.List.{take_more}
use Rattle.std.proofs.lemmas.List.Elements.{All-head, All-tail}
use Rattle.listed.specs.Below.{whole_sum_below}
use Rattle.listed.proofs.WholeSums.{whole_sum_below-mul, whole_sum_below-none, whole_sum_below-same, whole_sum_below-suc, whole_sum_below-zero}
use Rattle.sparse_program.specs.Box.{Ranges}
use Rattle.sparse_program.specs.Program.{Holds, IsProgram, Parts, col_of, no_row, row_of}
use Rattle.sparse_program.specs.Terms.{Rises, terms_sum}
use Rattle.sparse_program.specs.declared.row.Row.{Row}
use Rattle.sparse_program.proofs.TermLaws.{Rises-head, Rises-tail, terms_sum-append, times_swap}
use Rattle.certificate_model.specs.Value.{IsInside, IsSigned, column_value, objective_at, reduced_cost, scale, value}
use Rattle.certificate_model.proofs.ValueLaws.{TermsThere, value-below}
use Rattle.safe_bound.specs.Prices.{price_at}
use Rattle.safe_bound.specs.inner.Sums.{least_below, paid_below}

-- ---- columns

-- rising numbers from one number to below another are at most as many as lie between
rising_between : (terms : List (ℕ × ℤ)) (from count : ℕ) → from ≤ count → Rises terms → All (λ (term : ℕ × ℤ). from ≤ term.0) terms → All (λ (term : ℕ × ℤ). term.0 < count) terms → from + length terms ≤ count
rising_between [] from count le rises above there = omega arith
rising_between (t ∷ terms) from count le rises above there =
    let first : from ≤ t.0 = All-head (λ (term : ℕ × ℤ). from ≤ term.0) t terms above in
    let below : t.0 < count = All-head (λ (term : ℕ × ℤ). term.0 < count) t terms there in
    let rest : t.0 + 1 + length terms ≤ count =
    rising_between terms (t.0 + 1) count (omega arith) (Rises-tail t terms rises) (λ k d within. let up : t.0 < (get_or terms k d).0 = Rises-head t terms rises k d within in omega arith)
    (All-tail (λ (term : ℕ × ℤ). term.0 < count) t terms there) in
    omega arith

-- terms that rise below a count are at most so many
pub rising_few : (terms : List (ℕ × ℤ)) (count : ℕ) → Rises terms → All (λ (term : ℕ × ℤ). term.0 < count) terms → length terms ≤ count
rising_few terms count rises there = omega (arith, rising_between terms 0 count (omega arith) rises (λ k d within. omega arith) there)

-- a term more in a sum
pub terms_sum-more : (terms : List (ℕ × ℤ)) (i : ℕ) (d : ℕ × ℤ) (x : ℕ → ℤ) → i < length terms → terms_sum (take (i + 1) terms) x ≡ terms_sum (take i terms) x +ℤ (get_or terms i d).1 *ℤ x (get_or terms i d).0
terms_sum-more terms i d x within =
    let more : terms_sum (take (i + 1) terms) x ≡ terms_sum (take i terms ++ get_or terms i d ∷ []) x = ap (λ xs. terms_sum xs x) (take_more terms i d within) in
    let apart : terms_sum (take i terms ++ get_or terms i d ∷ []) x ≡ terms_sum (take i terms) x +ℤ terms_sum (get_or terms i d ∷ []) x = terms_sum-append (take i terms) (get_or terms i d ∷ []) x in
    omega (arith, ints, more, apart)

-- ---- the sums of a value

-- no row, and a row more
pub paid_below-zero : (rows : List Row) (prices : List ℤ) → paid_below rows prices 0 ≡ pos 0
unfolding paid_below
paid_below-zero rows prices = whole_sum_below-zero (λ i. price_at prices i *ℤ (row_of rows i).rhs)

pub paid_below-more : (rows : List Row) (prices : List ℤ) (n : ℕ) → paid_below rows prices (n + 1) ≡ paid_below rows prices n +ℤ price_at prices n *ℤ (row_of rows n).rhs
unfolding paid_below
paid_below-more rows prices n = whole_sum_below-suc n (λ i. price_at prices i *ℤ (row_of rows i).rhs)

-- no column, and a column more
pub least_below-zero : (program : Parts) (with_cost : Bool) (box : Ranges) (prices : List ℤ) → least_below program with_cost box prices 0 ≡ pos 0
unfolding least_below
least_below-zero program with_cost box prices = whole_sum_below-zero (λ j. column_value box (reduced_cost program with_cost (price_at prices) j) j)

pub least_below-more : (program : Parts) (with_cost : Bool) (box : Ranges) (prices : List ℤ) (n : ℕ) →
    least_below program with_cost box prices (n + 1) ≡ least_below program with_cost box prices n +ℤ column_value box (reduced_cost program with_cost (price_at prices) n) n
unfolding least_below
least_below-more program with_cost box prices n = whole_sum_below-suc n (λ j. column_value box (reduced_cost program with_cost (price_at prices) j) j)

-- the two sums are the value
pub value-sums : (program : Parts) (with_cost : Bool) (box : Ranges) (prices : List ℤ) →
    paid_below program.rows prices (length program.rows) +ℤ least_below program with_cost box prices (length program.columns) ≡ value program with_cost box (price_at prices)
unfolding value paid_below least_below
value-sums program with_cost box prices = refl

-- ---- weak duality

-- a product of three, the first two taken together
times_times : (a b c : ℤ) → (a *ℤ b) *ℤ c ≡ a *ℤ (b *ℤ c)
times_times a b c = *ℤ_comm (a *ℤ b) c ∙ ap (λ (z : ℤ). c *ℤ z) (*ℤ_comm a b) ∙ sym (times_swap a b c)

-- the rows of a program name columns that exist
pub program_terms : (program : Parts) → IsProgram program → TermsThere (length program.columns) program.rows
program_terms program is i within = (is.built.each_row i no_row within).terms.there

-- with costs the value of allowed prices is at most 1024 times what a point costs that lies in the box and meets all rows
pub value-below_objective : (program : Parts) (box : Ranges) (p x : ℕ → ℤ) → IsProgram program → ((i : ℕ) → i < length program.rows → IsSigned (row_of program.rows i) (p i)) →
    IsInside (length program.columns) box x → ((i : ℕ) → i < length program.rows → Holds (row_of program.rows i) x) → value program true box p ≤ℤ (pos scale *ℤ objective_at program x)
value-below_objective program box p x is signed inside holds =
    let below : value program true box p ≤ℤ whole_sum_below (length program.columns) (λ j. (pos scale *ℤ (col_of program.columns j).cost) *ℤ x j) =
    value-below program true box p x (program_terms program is) signed inside holds in
    let scaled : whole_sum_below (length program.columns) (λ j. (pos scale *ℤ (col_of program.columns j).cost) *ℤ x j) ≡ pos scale *ℤ whole_sum_below (length program.columns) (λ j. (col_of program.columns j).cost *ℤ x j) =
    whole_sum_below-same (length program.columns) (λ j. (pos scale *ℤ (col_of program.columns j).cost) *ℤ x j) (λ j. pos scale *ℤ ((col_of program.columns j).cost *ℤ x j))
    (λ j within. times_times (pos scale) (col_of program.columns j).cost (x j))
    ∙ whole_sum_below-mul (length program.columns) (pos scale) (λ j. (col_of program.columns j).cost *ℤ x j) in
    rw scaled at below

-- without costs it is at most 0
pub value-below_none : (program : Parts) (box : Ranges) (p x : ℕ → ℤ) → IsProgram program → ((i : ℕ) → i < length program.rows → IsSigned (row_of program.rows i) (p i)) →
    IsInside (length program.columns) box x → ((i : ℕ) → i < length program.rows → Holds (row_of program.rows i) x) → value program false box p ≤ℤ pos 0
value-below_none program box p x is signed inside holds =
    let below : value program false box p ≤ℤ whole_sum_below (length program.columns) (λ j. pos 0 *ℤ x j) = value-below program false box p x (program_terms program is) signed inside holds in
    let none : whole_sum_below (length program.columns) (λ j. pos 0 *ℤ x j) ≡ pos 0 = whole_sum_below-none (length program.columns) (λ j. pos 0 *ℤ x j) (λ j within. zero-*ℤ (x j)) in
    rw none at below
