-- First reasons: of a list, and of the pairs of a leaf one by one.
use Rattle.std.specs.Prelude.{ℕ, nat_lt, ℤ, pos, int_lt, unsigned_abs, not, ◌&&◌, List, [], ◌∷◌, ◌++◌, Option, Some, None, length}
use Rattle.refusals.specs.Faults.{where_so}
use Rattle.sparse_program.specs.Program.{row_of}
use Rattle.sparse_program.specs.declared.row.Row.{Row}
use Rattle.certificate_model.specs.Value.{most_price}
use Rattle.certificate_model.specs.declared.verdict.Why.{Why}
use Rattle.certificate_model.specs.declared.verdict.Why.TheVariants.{Row as NoRow, Order, Price, Sign}

-- the first reason of a list
abbrev pub first_of : List Why → Option Why
first_of [] = None
first_of (why ∷ more) = Some why

-- the reasons of one pair, whose row has to be at a number or behind it
abbrev pub reasons_of_pair : List Row → ℕ → ℕ × ℤ → List Why
reasons_of_pair rows next pair =
    where_so (not (nat_lt pair.0 (length rows))) NoRow
    ++ where_so (nat_lt pair.0 next) Order
    ++ where_so (nat_lt most_price (unsigned_abs pair.1)) Price
    ++ where_so (not (row_of rows pair.0).equal && int_lt pair.1 (pos 0)) Sign
