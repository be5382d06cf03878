-- Arrays of a document, as slices and as items.
use Rattle.std.proofs.Common.{◌≡◌, ◌≢◌, ℤ, pos, Bool, false, Some, None, List, [], ◌∷◌, ◌&&◌, length, refl, ap, arith}
use Rattle.std.specs.List.{list_all}
use Rattle.std.proofs.lemmas.Bool.Decides.{nat_tests}
use Rattle.toml.specs.Data.{Data, array, as_integer, integer, item, Items, no_items}
use Rattle.toml.specs.View.{view, items_view}
use Rattle.toml.specs.declared.value.Value.{Value}
use Rattle.network_file.specs.Documents.{all_items, count_of}
use Rattle.network_file.specs.Keys.{wave}

-- there are as many items as values
pub count_of-items_view : (values : List Value) → count_of (items_view values) ≡ length values
count_of-items_view [] = refl
count_of-items_view (v ∷ values) = omega (arith, count_of-items_view values)

-- all items pass where all values do
pub all_items-view : (passes : Data → Bool) (values : List Value) → all_items passes (items_view values) ≡ list_all (λ v. passes (view v)) values
all_items-view passes [] = refl
all_items-view passes (v ∷ values) = ap (λ b. passes (view v) && b) (all_items-view passes values)

-- the number of items, what all of them pass, and tests on numbers
pub ruleset arrays = (count_of-items_view, all_items-view, nat_tests)

-- one item is no wave speed, nor are more than two
wave-one : (a : Data) → wave (array (item a no_items)) ≡ false
wave-one (integer (pos p)) = refl
wave-one _ = refl

wave-more : (a b c : Data) (ds : Items) → wave (array (item a (item b (item c ds)))) ≡ false
wave-more (integer (pos p)) (integer (pos q)) c ds = refl
wave-more (integer (pos p)) _ c ds = refl
wave-more _ b c ds = refl

-- an array of more or fewer than two items is no wave speed
pub only_two_numbers : (values : List Value) → length values ≢ 2 → wave (array (items_view values)) ≡ false
only_two_numbers [] other = refl
only_two_numbers (v ∷ []) other = wave-one (view v)
only_two_numbers (v ∷ w ∷ []) other = absurd (other refl)
only_two_numbers (v ∷ w ∷ x ∷ values) other = wave-more (view v) (view w) (view x) (items_view values)

-- whether two items are a wave speed, by the whole numbers that they are
pub wave-first : (a b : Data) → as_integer a ≡ None → wave (array (item a (item b no_items))) ≡ false
wave-first (integer z) b none = absurd (cc)
wave-first _ b none = refl

pub wave-second : (a b : Data) → as_integer b ≡ None → wave (array (item a (item b no_items))) ≡ false
wave-second (integer (pos p)) (integer z) none = absurd (cc)
wave-second (integer (pos p)) _ none = refl
wave-second _ b none = refl

pub wave-both : (a b : Data) (p q : ℤ) → as_integer a ≡ Some p → as_integer b ≡ Some q → wave (array (item a (item b no_items))) ≡ wave (array (item (integer p) (item (integer q) no_items)))
wave-both (integer x) (integer y) p q first second = cc
wave-both (integer x) _ p q first second = absurd (cc)
wave-both _ b p q first second = absurd (cc)

pub ruleset waves = (only_two_numbers, wave-first, wave-second, wave-both)
