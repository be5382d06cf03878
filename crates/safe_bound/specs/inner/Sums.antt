-- The sums of a value, as far as a loop has come.
use Rattle.std.specs.Prelude.{ℕ, ℤ, ◌*ℤ◌, Bool, List}
use Rattle.listed.specs.Below.{whole_sum_below}
use Rattle.sparse_program.specs.Box.{Ranges}
use Rattle.sparse_program.specs.Program.{Parts, row_of}
use Rattle.sparse_program.specs.declared.row.Row.{Row}
use Rattle.certificate_model.specs.Value.{column_value, reduced_cost}
use Rattle.safe_bound.specs.Prices.{price_at}

-- what the first rows pay for their right sides
unfoldable pub paid_below : List Row → List ℤ → ℕ → ℤ
paid_below rows prices n = whole_sum_below n (λ i. price_at prices i *ℤ (row_of rows i).rhs)

-- the least that the first columns come to
unfoldable pub least_below : Parts → Bool → Ranges → List ℤ → ℕ → ℤ
least_below program with_cost box prices n = whole_sum_below n (λ j. column_value box (reduced_cost program with_cost (price_at prices) j) j)
