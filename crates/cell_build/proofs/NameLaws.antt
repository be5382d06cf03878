-- Names among others, the numbers that they stand for, the sets of such numbers, and names that are numbered one by one.
use Rattle.std.proofs.Common.{◌≡◌, ℕ, Bool, not, List, [], ◌∷◌, cond, ◌+◌, map, position, refl, ap, ◌∙◌, ◌||◌, ◌++◌, ◌≢◌, zero, suc, ◌^◌, ◌<◌, ◌≤◌, true, false, length, get_or, Option, Some, None, is_none, unwrap_or, All, sym, arith, if◌then◌else◌, take, Bor, add-one}
use Rattle.std.specs.List.{list_any, position_or_len}
use Rattle.std.proofs.lemmas.List.{get_or-map, length-map, get_or-take, length-take-le, get_or_default, map_push}
use Rattle.std.proofs.lemmas.List.Folds.{list_any-append, list_any_at, list_any_none}
use Rattle.std.specs.Str.{bytes_eq}
use Rattle.network_file.specs.declared.raw.RawPhase.{RawPhase}
use Rattle.std.specs.Int.{bit_at}
use Rattle.std.proofs.lemmas.Bool.{false_from_ne_true, and_parts, false≢true, not-true}
use Rattle.std.proofs.lemmas.List.Quantifiers.{position-Some}
use Rattle.std.proofs.lemmas.Nat.{or_lt, le_or_l, pow_below, pow_pos}
use Rattle.std.proofs.lemmas.Nat.Bits.{bit_at_or, bit_at-pow_other, bit_at-zero}
use Rattle.std.proofs.lemmas.Slice.Eq.{bytes_eq-Decides}
use Rattle.network_file.specs.Range.{all_differ}
use Rattle.cell_build.specs.Names.{is_unknown, number_of, set_of}
use Rattle.std.proofs.Math.Seq.{take-suc}
use Rattle.indexmap.specs.IndexSet.{insert_key}
use Rattle.cell_build.specs.inner.Numbered.{texts}

-- the same, where the length stands for no place
position_or_len_map : {X Y : Type 0} (p : Y → Bool) (f : X → Y) (xs : List X) → position_or_len p (map f xs) ≡ position_or_len (λ x. p (f x)) xs
position_or_len_map p f [] = refl
position_or_len_map p f (x ∷ xs) = ap (λ n. cond (not (p (f x))) (1 + n) 0) (position_or_len_map p f xs)

-- a test is met at the same place among what a function makes of the elements
position_map : {X Y : Type 0} (p : Y → Bool) (f : X → Y) (xs : List X) → position p (map f xs) ≡ position (λ x. p (f x)) xs
position_map p f xs = rw (position_or_len_map p f xs, length-map xs f)

-- a name is found among the texts of references as among the references, and among the names of phases as among the phases
pub position_text : (name : List ℕ) (names : List (Bor (List ℕ))) → position (bytes_eq name) (texts names) ≡ position (λ (other : Bor (List ℕ)). bytes_eq name other.now) names
position_text name names = position_map (bytes_eq name) (λ (other : Bor (List ℕ)). other.now) names

pub position_phase : (name : List ℕ) (phases : List RawPhase) → position (bytes_eq name) (map (λ (phase : RawPhase). phase.name) phases) ≡ position (λ (phase : RawPhase). bytes_eq name phase.name) phases
position_phase name phases = position_map (bytes_eq name) (λ (phase : RawPhase). phase.name) phases

-- a test is met among what a function makes of the elements as among the elements
list_any-map : {X Y : Type 0} (p : Y → Bool) (f : X → Y) (xs : List X) → list_any p (map f xs) ≡ list_any (λ x. p (f x)) xs
list_any-map p f [] = refl
list_any-map p f (x ∷ xs) = ap (λ b. p (f x) || b) (list_any-map p f xs)

-- a name is led to by `to` or by a branch
pub list_any_led_to : (name : List ℕ) (to : List (List ℕ)) (turns : List (List ℕ × ℕ)) → list_any (bytes_eq name) (to ++ map (λ (turn : List ℕ × ℕ). turn.0) turns) ≡ (list_any (bytes_eq name) to || list_any (λ (turn : List ℕ × ℕ). bytes_eq name turn.0) turns)
list_any_led_to name to turns = list_any-append (bytes_eq name) to (map (λ (turn : List ℕ × ℕ). turn.0) turns) ∙ ap (λ b. list_any (bytes_eq name) to || b) (list_any-map (bytes_eq name) (λ (turn : List ℕ × ℕ). turn.0) turns)

-- the number of a name that is known is the place of the name
found : (names : List (List ℕ)) (name : List ℕ) (place : Option ℕ) → position (bytes_eq name) names ≡ place → is_none place ≡ false →
    (unwrap_or place 0 < length names) × ((d : List ℕ) → get_or names (unwrap_or place 0) d ≡ name)
found names name None is known = absurd (false≢true (sym known))
found names name (Some k) is known = (
  (position-Some (bytes_eq name) names k [] is).0,
  λ d. sym ((bytes_eq-Decides name (get_or names k d)).0 (position-Some (bytes_eq name) names k d is).1),
)

pub number_within : (names : List (List ℕ)) (name : List ℕ) → is_unknown names name ≡ false → number_of names name < length names
number_within names name known = (found names name (position (bytes_eq name) names) refl known).0

pub get_or-number_of : (names : List (List ℕ)) (name : List ℕ) (d : List ℕ) → is_unknown names name ≡ false → get_or names (number_of names name) d ≡ name
get_or-number_of names name d known = (found names name (position (bytes_eq name) names) refl known).1 d

-- a test that a list fails at one of its texts
pub not_among : (name : List ℕ) (names : List (List ℕ)) (k : ℕ) (d : List ℕ) → list_any (bytes_eq name) names ≡ false → k < length names → get_or names k d ≢ name
not_among name names k d none within same =
    false≢true (sym none ∙ list_any_at (bytes_eq name) names k d within ((bytes_eq-Decides name (get_or names k d)).1 (sym same)))

-- texts of which none stands twice differ
pub texts_differ : (names : List (List ℕ)) (i k : ℕ) (d : List ℕ) → all_differ names ≡ true → i < k → k < length names → get_or names i d ≢ get_or names k d
texts_differ [] i k d differ before within same = absurd (omega arith)
texts_differ (name ∷ names) i zero d differ before within same = absurd (omega arith)
texts_differ (name ∷ names) zero (suc k) d differ before within same =
    not_among name names k d (not-true (list_any (bytes_eq name) names) (and_parts (not (list_any (bytes_eq name) names)) (all_differ names) differ).0) (omega arith) (sym same)
texts_differ (name ∷ names) (suc i) (suc k) d differ before within same =
    texts_differ names i k d (and_parts (not (list_any (bytes_eq name) names)) (all_differ names) differ).1 (omega arith) (omega arith) same

-- the set of names that are known has no number past the last
pub set_of-lt : (names more : List (List ℕ)) → All (λ name. is_unknown names name ≡ false) more → set_of names more < 2 ^ length names
set_of-lt names [] known = pow_pos (length names)
set_of-lt names (name ∷ more) known =
    or_lt (length names) (2 ^ number_of names name) (set_of names more) (pow_below (number_of names name) (length names) (number_within names name (known 0 [] (omega arith))))
    (set_of-lt names more (λ k d within. known (suc k) d (omega arith)))

-- the set of some names is not empty
pub set_of-some : (names more : List (List ℕ)) → 0 < length more → 1 ≤ set_of names more
set_of-some names [] some = absurd (omega arith)
set_of-some names (name ∷ more) some = omega (arith, le_or_l (2 ^ number_of names name) (set_of names more), pow_pos (number_of names name))

-- a number is not in the set where none of the names stands for it
pub bit_at-set_of : (names more : List (List ℕ)) (p : ℕ) → All (λ name. number_of names name ≢ p) more → bit_at (set_of names more) p ≡ 0
bit_at-set_of names [] p none = bit_at-zero p
bit_at-set_of names (name ∷ more) p none =
    let here : bit_at (2 ^ number_of names name) p ≡ 0 = bit_at-pow_other (number_of names name) p (λ e. none 0 [] (omega arith) (sym e)) in
    let later : bit_at (set_of names more) p ≡ 0 = bit_at-set_of names more p (λ k d within. none (suc k) d (omega arith)) in
    bit_at_or (2 ^ number_of names name) (set_of names more) p ∙ (rw (here, later) refl)

-- name i is not among the names before it
name_is_new : (names : List (List ℕ)) (i : ℕ) → all_differ names ≡ true → i < length names → list_any (bytes_eq (get_or names i [])) (take i names) ≡ false
name_is_new names i differ within =
    list_any_none (bytes_eq (get_or names i [])) (take i names) (λ k d there.
    let before : k < i = omega (arith, there, length-take-le i names (omega arith)) in
    let here : get_or (take i names) k d ≡ get_or names k d = get_or-take i names k d before in
    rw here (false_from_ne_true (bytes_eq (get_or names i []) (get_or names k d)) (λ same.
    texts_differ names k i d differ before within (sym ((bytes_eq-Decides (get_or names i []) (get_or names k d)).0 same) ∙ get_or_default names i [] d within))))

-- the name of one item more
pub one_name_more : {X : Type 0} (name_of : X → List ℕ) (items : List X) (names : List (Bor (List ℕ))) (name : Bor (List ℕ)) (item : X) (i : ℕ) → all_differ (map name_of items) ≡ true → i < length items →
    texts names ≡ take i (map name_of items) → item ≡ get_or items i item → name.now ≡ name_of item → texts (insert_key (λ (a b : Bor (List ℕ)). bytes_eq a.now b.now) names name) ≡ take (i + 1) (map name_of items)
one_name_more name_of items names name item i differ within before is own =
    let all = map name_of items in
    let there : i < length all = rw length-map within in
    let here : name.now ≡ get_or all i [] = own ∙ ap name_of is ∙ sym (get_or-map name_of items i item [] within) in
    let new : list_any (λ (other : Bor (List ℕ)). bytes_eq name.now other.now) names ≡ false =
    sym (list_any-map (bytes_eq name.now) (λ (other : Bor (List ℕ)). other.now) names) ∙ ap (list_any (bytes_eq name.now)) before ∙ ap (λ text. list_any (bytes_eq text) (take i all)) here ∙ name_is_new all i differ there in
    ap (λ (found : Bool). texts (if found then names else names ++ name ∷ [])) new
    ∙ map_push (λ (name : Bor (List ℕ)). name.now) names name
    ∙ ap (λ texts. texts ++ name.now ∷ []) before ∙ ap (λ text. take i all ++ text ∷ []) here
    ∙ sym (take-suc all i [] there) ∙ ap (λ n. take n all) (sym (add-one i))
