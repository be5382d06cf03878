-- The items of an array, one by one, and at a key.
use Rattle.std.proofs.Common.{◌≡◌, ℕ, zero, suc, ◌<◌, ◌≤◌, List, [], ◌∷◌, length, get_or, map, Option, Some, None, refl, ap, subst, sym, ◌∙◌, arith}
use Rattle.std.specs.List.{All}
use Rattle.std.proofs.lemmas.List.Elements.{All-head, All-tail}
use Rattle.std.proofs.lemmas.Option.{same_Some}
use Rattle.std.proofs.lemmas.List.{get_or-map, get_or_past, length-map}
use Rattle.std.specs.Option.{option_map_or}
use Rattle.toml.specs.Data.{Data, array, as_table, table, Items, no_items, item, Members, get_member}
use Rattle.toml.specs.View.{items_view, view}
use Rattle.toml.specs.declared.value.Value.{Value}
use Rattle.network_file.specs.Documents.{array_of, each_item, number_of, numbers_at, tables_among, text_of, texts_at}
use Rattle.network_file.specs.inner.Tables.{items_at, items_in}

-- what f makes of an array is what it makes of its items
array_of-items : {X : Type 0} (f : Data → X) (d : Data) → array_of f d ≡ each_item f (items_in d)
array_of-items f (array ds) = refl
array_of-items f _ = refl

array_found : {X : Type 0} (f : Data → X) (found : Option Data) → option_map_or (array_of f) found [] ≡ each_item f (option_map_or items_in found no_items)
array_found f None = refl
array_found f (Some d) = array_of-items f d

-- the texts and the numbers at a key
pub texts_at-items : (key : List ℕ) (ms : Members) → texts_at key ms ≡ each_item text_of (items_at key ms)
texts_at-items key ms = array_found text_of (get_member key ms)

pub numbers_at-items : (key : List ℕ) (ms : Members) → numbers_at key ms ≡ each_item number_of (items_at key ms)
numbers_at-items key ms = array_found number_of (get_member key ms)

pub numbers_of-items : (d : Data) → array_of number_of d ≡ each_item number_of (items_in d)
numbers_of-items d = array_of-items number_of d

-- what f makes of each value
pub each_item-view : {X : Type 0} (f : Data → X) (values : List Value) → each_item f (items_view values) ≡ map (λ v. f (view v)) values
each_item-view f [] = refl
each_item-view f (v ∷ values) = ap (λ xs. f (view v) ∷ xs) (each_item-view f values)

pub ruleset items = (texts_at-items, numbers_at-items, numbers_of-items, each_item-view)

-- the number at a place
pub number_found : (key : List ℕ) (ms : Members) (values : List Value) (place default n : ℕ) (value : Value)
    → place < length values → value ≡ get_or values place value → items_view values ≡ items_at key ms → n ≡ number_of (view value) → n ≡ get_or (numbers_at key ms) place default
number_found key ms values place default n value within at items is =
    rw (numbers_at-items key ms, ← items, each_item-view number_of values) (is ∙ ap (λ v. number_of (view v)) at ∙ sym (get_or-map (λ v. number_of (view v)) values place value default within))

-- and none past the end
pub number_past : (key : List ℕ) (ms : Members) (values : List Value) (place default : ℕ)
    → length values ≤ place → items_view values ≡ items_at key ms → default ≡ get_or (numbers_at key ms) place default
number_past key ms values place default past items =
    rw (numbers_at-items key ms, ← items, each_item-view number_of values) (sym (get_or_past (map (λ v. number_of (view v)) values) place default (rw (length-map values (λ v. number_of (view v))) past)))

-- what all tables among the values keep, one of them keeps
table_among_data : (P : Members → Type 0) (d : Data) (ds : Items) (ms : Members) → Some ms ≡ as_table d → All P (tables_among (item d ds)) → P ms
table_among_data P (table own) ds ms is all = subst P (same_Some own ms (sym is)) (All-head P own (tables_among ds) all)
table_among_data P _ ds ms is all = absurd (cc)

table_behind : (P : Members → Type 0) (d : Data) (ds : Items) → All P (tables_among (item d ds)) → All P (tables_among ds)
table_behind P (table own) ds all = All-tail P own (tables_among ds) all
table_behind P _ ds all = all

among : (P : Members → Type 0) (values : List Value) (i : ℕ) (d : Value) (ms : Members) → i < length values → Some ms ≡ as_table (view (get_or values i d)) → All P (tables_among (items_view values)) → P ms
among P [] i d ms within is all = absurd (omega arith)
among P (v ∷ values) zero d ms within is all = table_among_data P (view v) (items_view values) ms is all
among P (v ∷ values) (suc i) d ms within is all = among P values i d ms (omega arith) is (table_behind P (view v) (items_view values) all)

pub table_among : (P : Members → Type 0) (values : List Value) (i : ℕ) (value : Value) (ms : Members)
    → i < length values → value ≡ get_or values i value → Some ms ≡ as_table (view value) → All P (tables_among (items_view values)) → P ms
table_among P values i value ms within at is all = among P values i value ms within (is ∙ ap (λ v. as_table (view v)) at) all
