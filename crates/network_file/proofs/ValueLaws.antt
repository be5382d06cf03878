-- What values keep that passed the tests of their keys.
use Rattle.std.proofs.Common.{◌≡◌, ◌≢◌, ℕ, ◌≤◌, ◌&&◌, min, Bool, true, false, not, nat_le, pos, List, [], ◌∷◌, length, get_or, Option, Some, None, refl, arith}
use Rattle.std.specs.Prelude.{IsSome, IfSome}
use Rattle.std.specs.List.{All}
use Rattle.std.specs.Option.{option_map_or}
use Rattle.std.proofs.lemmas.Bool.{and_parts, leb-true}
use Rattle.std.proofs.lemmas.List.Elements.{All-nil, All-cons}
use Rattle.toml.specs.Data.{Data, string, integer, array, table, Items, no_items, item}
use Rattle.texts.specs.Names.{is_name}
use Rattle.ct_base.specs.Validity.{IsBetween}
use Rattle.network_file.specs.Documents.{all_items, array_of, count_of, each_item, is_array_of, is_table, is_text, is_whole, number_of, tables_among, tables_of, text_of}
use Rattle.network_file.specs.Keys.{count, name_shape, wave, whole, wholes}

-- a test is passed that is not failed
pub passed : (test : Bool) → not test ≡ false → test ≡ true
passed true fine = refl
passed false fine = absurd (cc)

-- a whole number in a range, as 32 bits hold it
pub whole_between : (low high : ℕ) (d : Data) → high ≤ 4294967295 → whole low high d ≡ true → IsBetween low high (number_of d)
whole_between low high (integer (pos n)) fits within =
    let parts = and_parts (nat_le low n) (nat_le n high) within in
    let at_least : low ≤ n = leb-true low n parts.0 in
    let at_most : n ≤ high = leb-true n high parts.1 in
    (omega arith, omega arith)
whole_between low high _ fits within = absurd (cc)

-- a number that may be left out, and one that must stand
pub number_optional : (default low high : ℕ) (found : Option Data) → high ≤ 4294967295 → IsBetween low high default
    → option_map_or (λ (d : Data). not (whole low high d)) found false ≡ false → IsBetween low high (option_map_or number_of found default)
number_optional default low high None fits standard within = standard
number_optional default low high (Some d) fits standard within = whole_between low high d fits (passed (whole low high d) within)

pub number_needed : (default low high : ℕ) (found : Option Data) → high ≤ 4294967295
    → option_map_or (λ (d : Data). not (is_whole d)) found true ≡ false → option_map_or (λ (d : Data). not (whole low high d)) found false ≡ false → IsBetween low high (option_map_or number_of found default)
number_needed default low high None fits stands within = absurd (cc)
number_needed default low high (Some d) fits stands within = whole_between low high d fits (passed (whole low high d) within)

-- a name that must stand
name_in : (d : Data) → name_shape d ≡ true → is_name (text_of d) ≡ true
name_in (string text) shape = shape
name_in _ shape = absurd (cc)

pub name_needed : (found : Option Data) → option_map_or (λ (d : Data). not (is_text d)) found true ≡ false → option_map_or (λ (d : Data). not (name_shape d)) found false ≡ false
    → is_name (option_map_or text_of found []) ≡ true
name_needed None stands shape = absurd (cc)
name_needed (Some d) stands shape = name_in d (passed (name_shape d) shape)

-- a wave speed: q is at most 100, and p is from 1 to q
abbrev pub IsWave : List ℕ → Type 0
IsWave numbers = IsBetween 1 (get_or numbers 1 1) (get_or numbers 0 1) × (get_or numbers 1 1 ≤ 100)

wave_pair : (p q : ℕ) → (nat_le 1 p && (nat_le p q && nat_le q 100)) ≡ true → IsWave (min p 4294967295 ∷ min q 4294967295 ∷ [])
wave_pair p q within =
    let (first, others) = and_parts (nat_le 1 p) (nat_le p q && nat_le q 100) within in
    let (second, third) = and_parts (nat_le p q) (nat_le q 100) others in
    let low : 1 ≤ p = leb-true 1 p first in
    let order : p ≤ q = leb-true p q second in
    let high : q ≤ 100 = leb-true q 100 third in
    ((omega arith, omega arith), omega arith)

wave_in : (d : Data) → wave d ≡ true → IsWave (array_of number_of d)
wave_in (array (item (integer (pos p)) (item (integer (pos q)) no_items))) within = wave_pair p q within
wave_in _ within = absurd (cc)

pub wave_optional : (found : Option Data) → option_map_or (λ (d : Data). not (wave d)) found false ≡ false → IsWave (option_map_or (array_of number_of) found [])
wave_optional None within = ((omega arith, omega arith), omega arith)
wave_optional (Some d) within = wave_in d (passed (wave d) within)

-- as many items as were counted
length-each_item : {X : Type 0} (f : Data → X) (ds : Items) → length (each_item f ds) ≡ count_of ds
length-each_item f no_items = refl
length-each_item f (item d ds) = omega (arith, length-each_item f ds)

count_between : (low high n : ℕ) → (nat_le low n && nat_le n high) ≡ true → IsBetween low high n
count_between low high n within =
    let parts = and_parts (nat_le low n) (nat_le n high) within in
    (leb-true low n parts.0, leb-true n high parts.1)

items_between : {X : Type 0} (f : Data → X) (low high : ℕ) (d : Data) → count low high d ≡ true → IsBetween low high (length (array_of f d))
items_between f low high (array ds) within = rw (length-each_item f ds) (count_between low high (count_of ds) within)
items_between f low high _ within = absurd (cc)

-- a list of texts that must stand, and one that must stand where another value does
pub texts_needed : (low high : ℕ) (found : Option Data) → option_map_or (λ (d : Data). not (is_array_of is_text d)) found true ≡ false → option_map_or (λ (d : Data). not (count low high d)) found false ≡ false
    → IsBetween low high (length (option_map_or (array_of text_of) found []))
texts_needed low high None stands within = absurd (cc)
texts_needed low high (Some d) stands within = items_between text_of low high d (passed (count low high d) within)

pub texts_needed_with : (low high : ℕ) (other found : Option Data)
    → option_map_or (λ (d : Data). not (is_array_of is_text d)) found (option_map_or (λ (d : Data). true) other false) ≡ false → option_map_or (λ (d : Data). not (count low high d)) found false ≡ false
    → IsSome (option_map_or (λ (d : Data). Some (text_of d)) other None) → IsBetween low high (length (option_map_or (array_of text_of) found []))
texts_needed_with low high None found stands within some = absurd (cc some)
texts_needed_with low high (Some e) None stands within some = absurd (cc)
texts_needed_with low high (Some e) (Some d) stands within some = items_between text_of low high d (passed (count low high d) within)

-- and no texts where the other value must stand and does not
pub no_texts_alone : (other found : Option Data) → option_map_or (λ (d : Data). not (is_text d)) other (option_map_or (λ (d : Data). true) found false) ≡ false
    → option_map_or (λ (d : Data). Some (text_of d)) other None ≡ None → option_map_or (array_of text_of) found [] ≡ []
no_texts_alone other None stands none = refl
no_texts_alone None (Some d) stands none = absurd (cc)
no_texts_alone (Some e) (Some d) stands none = absurd (cc)

-- tables: as many as there are items, and never more
length-tables : (ds : Items) → all_items is_table ds ≡ true → length (tables_among ds) ≡ count_of ds
length-tables no_items all = refl
length-tables (item (table ms) ds) all = omega (arith, length-tables ds all)
length-tables (item _ ds) all = absurd (cc)

few_tables : (ds : Items) → length (tables_among ds) ≤ count_of ds
few_tables no_items = omega arith
few_tables (item (table ms) ds) = omega (arith, few_tables ds)
few_tables (item _ ds) = omega (arith, few_tables ds)

tables_between : (low high : ℕ) (d : Data) → is_array_of is_table d ≡ true → count low high d ≡ true → IsBetween low high (length (tables_of d))
tables_between low high (array ds) type within = rw (length-tables ds type) (count_between low high (count_of ds) within)
tables_between low high _ type within = absurd (cc)

pub tables_needed : (low high : ℕ) (found : Option Data) → option_map_or (λ (d : Data). not (is_array_of is_table d)) found true ≡ false → option_map_or (λ (d : Data). not (count low high d)) found false ≡ false
    → IsBetween low high (length (option_map_or tables_of found []))
tables_needed low high None stands within = absurd (cc)
tables_needed low high (Some d) stands within = tables_between low high d (passed (is_array_of is_table d) stands) (passed (count low high d) within)

pub tables_optional : (low high : ℕ) (found : Option Data) → option_map_or (λ (d : Data). not (is_array_of is_table d)) found false ≡ false → option_map_or (λ (d : Data). not (count low high d)) found false ≡ false
    → option_map_or tables_of found [] ≢ [] → IsBetween low high (length (option_map_or tables_of found []))
tables_optional low high None type within some = absurd (some refl)
tables_optional low high (Some d) type within some = tables_between low high d (passed (is_array_of is_table d) type) (passed (count low high d) within)

few_in : (low high : ℕ) (d : Data) → count low high d ≡ true → length (tables_of d) ≤ high
few_in low high (array ds) within = omega (arith, few_tables ds, count_between low high (count_of ds) within)
few_in low high _ within = absurd (cc)

pub tables_at_most : (low high : ℕ) (found : Option Data) → option_map_or (λ (d : Data). not (count low high d)) found false ≡ false → length (option_map_or tables_of found []) ≤ high
tables_at_most low high None within = omega arith
tables_at_most low high (Some d) within = few_in low high d (passed (count low high d) within)

-- whole numbers: how many, and each of them
abbrev pub AreFew : ℕ → ℕ → List ℕ → Type 0
AreFew most high numbers = (length numbers ≤ most) × All (λ n. n ≤ high) numbers

each_at_most : (low high : ℕ) (ds : Items) → high ≤ 4294967295 → all_items (whole low high) ds ≡ true → All (λ n. n ≤ high) (each_item number_of ds)
each_at_most low high no_items fits all = All-nil (λ n. n ≤ high)
each_at_most low high (item d ds) fits all =
    let parts = and_parts (whole low high d) (all_items (whole low high) ds) all in
    All-cons (λ n. n ≤ high) (number_of d) (each_item number_of ds) (whole_between low high d fits parts.0).1 (each_at_most low high ds fits parts.1)

few_wholes : (most low high : ℕ) (d : Data) → high ≤ 4294967295 → wholes most low high d ≡ true → AreFew most high (array_of number_of d)
few_wholes most low high (array ds) fits within =
    let parts = and_parts (nat_le (count_of ds) most) (all_items (whole low high) ds) within in
    (rw (length-each_item number_of ds) (leb-true (count_of ds) most parts.0), each_at_most low high ds fits parts.1)
few_wholes most low high _ fits within = absurd (cc)

pub numbers_optional : (most low high : ℕ) (found : Option Data) → high ≤ 4294967295 → option_map_or (λ (d : Data). not (wholes most low high d)) found false ≡ false → AreFew most high (option_map_or (array_of number_of) found [])
numbers_optional most low high None fits within = (omega arith, All-nil (λ n. n ≤ high))
numbers_optional most low high (Some d) fits within = few_wholes most low high d fits (passed (wholes most low high d) within)

pub some_numbers_optional : (most low high : ℕ) (found : Option Data) → high ≤ 4294967295 → option_map_or (λ (d : Data). not (wholes most low high d)) found false ≡ false
    → IfSome (option_map_or (λ (d : Data). Some (array_of number_of d)) found None) (AreFew most high)
some_numbers_optional most low high None fits within = tt
some_numbers_optional most low high (Some d) fits within = few_wholes most low high d fits (passed (wholes most low high d) within)
