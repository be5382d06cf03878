-- The demand of a link: the pieces that it lists, and those of its rates.
use Rattle.std.proofs.Common.{◌≡◌, ℕ, ◌+◌, ◌<◌, List, [], ◌∷◌, ◌++◌, length, drop, get_or, refl, append_assoc, arith}
use Rattle.toml.specs.Data.{Data}
use Rattle.toml.specs.View.{items_view, view}
use Rattle.toml.specs.declared.value.Value.{Value}
use Rattle.toml.proofs.Views.{items_view-drop}
use Rattle.demand.specs.declared.piece.Piece.{Piece}
use Rattle.network_file.specs.Documents.{each_item, number_of}
use Rattle.network_file.specs.Spelled.{pieces_from}
use Rattle.network_file.proofs.ItemLists.{numbers_at-items, texts_at-items, numbers_of-items}
use Rattle.network_file.proofs.TableWalks.{tables_at-items}

-- there are as many items as values
pub length-each_item : {X : Type 0} (f : Data → X) (values : List Value) → length (each_item f (items_view values)) ≡ length values
length-each_item f [] = refl
length-each_item f (v ∷ values) = omega (arith, length-each_item f values)

-- the rate at an index
pub rates-drop : (pieces : List Piece) (t : ℕ) (rates : List Value) (d : Value) → t < length rates
    → pieces ++ pieces_from t (each_item number_of (items_view (drop t rates))) ≡ (pieces ++ (record { first = t; until = t + 1; rate = number_of (view (get_or rates t d)) }) ∷ []) ++ pieces_from (t + 1) (each_item number_of (items_view (drop (t + 1) rates)))
rates-drop pieces t rates d within = rw (items_view-drop rates t d within, append_assoc)

pub ruleset rates = (rates-drop)

pub ruleset parts = (numbers_at-items, texts_at-items, numbers_of-items, tables_at-items, length-each_item)
