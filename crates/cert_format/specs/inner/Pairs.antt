-- The pairs of a leaf, as the readers of a line find them.
use Rattle.std.specs.Prelude.{ℕ, ℤ, Bool, true, false, List, Option, Some, None}
use Rattle.certificate_model.specs.Text.{number_digits}
use Rattle.texts.specs.Numbers.{natural_in, price_in}

-- a row and a price, where both are there
abbrev pub joined : Option ℕ → Option ℤ → Option (ℕ × ℤ)
joined (Some row) (Some price) = Some (row, price)
joined _ _ = None

-- the pair that two words name
abbrev pub pair_in : List ℕ → List ℕ → Option (ℕ × ℤ)
pair_in row price = joined (natural_in number_digits row) (price_in price)

-- the pairs, where there is no word that belongs to none
abbrev pub pairs_where : Bool → List (ℕ × ℤ) → Option (List (ℕ × ℤ))
pairs_where true pairs = Some pairs
pairs_where false pairs = None
