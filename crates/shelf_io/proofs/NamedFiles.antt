-- A list of files, and the finite map that it makes.
use Rattle.std.proofs.Common.{◌≡◌, ℕ, zero, suc, ◌+◌, ◌<◌, ◌≤◌, Bool, true, false, cond, not, List, [], ◌∷◌, ◌++◌, length, get_or, refl, ap, sym, ◌∙◌, arith, Option, Some, None, IsSome, unwrap_or}
use Rattle.std.proofs.Math.ListN.{set}
use Rattle.std.specs.List.{position, position_or_len}
use Rattle.std.specs.Str.{bytes_eq}
use Rattle.std.specs.Ordering.{nat_cmp}
use Rattle.std.specs.Cmp.Lexicographic.{slice_cmp}
use Rattle.std.specs.FinMap as map
use Rattle.std.proofs.lemmas.Cmp.{nat_list_cmp_total}
use Rattle.std.proofs.lemmas.Map.Lookups.{exact_bytes}
use Rattle.std.proofs.lemmas.Map.Text.{is_eq-slice_cmp}
use Rattle.std.proofs.lemmas.Slice.Eq.{bytes_eq-Decides}
use Rattle.std.proofs.lemmas.Bool.Decides.{nat_tests}
use Rattle.std.proofs.lemmas.List.Quantifiers.{position-Some}
use Rattle.shelf_io.specs.Told.{Files}
use Rattle.shelf_io.specs.FileList.{files_of}
use Rattle.shelf_io.specs.inner.NamedFile.{is_named, bytes_named}
use Rattle.shelf_io.specs.declared.file_map.File.{File}

-- what the map has at a name once one more file is put into it
pub get_inserted : (files : Files) (name bytes q : List ℕ) → map.get (map.insert files name bytes) q ≡ cond (bytes_eq q name) (Some bytes) (map.get files q)
get_inserted files name bytes q =
    map.get-insert nat_list_cmp_total files name bytes q
    ∙ ap (λ same. cond same (Some bytes) (map.get files q)) (is_eq-slice_cmp q name)

-- what the map has at a name is what the list has
pub get-files_of : (fs : List File) (q : List ℕ) → map.get (files_of fs) q ≡ bytes_named q fs
get-files_of [] q = map.get-empty (slice_cmp nat_cmp) q
get-files_of (f ∷ fs) q =
    get_inserted (files_of fs) f.name f.bytes q
    ∙ ap (cond (bytes_eq q f.name) (Some f.bytes)) (get-files_of fs q)

-- lists that differ at one name make maps that differ there
one_given : (fs gs : List File) (name bytes : List ℕ) → ((q : List ℕ) → bytes_named q gs ≡ cond (bytes_eq q name) (Some bytes) (bytes_named q fs)) → files_of gs ≡ map.insert (files_of fs) name bytes
one_given fs gs name bytes given = map.same_map nat_list_cmp_total exact_bytes _ _ (λ q.
    get-files_of gs q ∙ given q
    ∙ ap (cond (bytes_eq q name) (Some bytes)) (sym (get-files_of fs q))
    ∙ sym (get_inserted (files_of fs) name bytes q))

-- of two tests that do not hold together, either goes first
either_first : (a b : Bool) (x y z : Option (List ℕ)) → (a ≡ true → b ≡ true → ⊥) → cond a x (cond b y z) ≡ cond b y (cond a x z)
either_first true true x y z apart = absurd (apart refl refl)
either_first true false x y z apart = refl
either_first false b x y z apart = refl

-- a test that stands twice
stands_twice : (a : Bool) (x y z : Option (List ℕ)) → cond a x (cond a y z) ≡ cond a x z
stands_twice true x y z = refl
stands_twice false x y z = refl

-- no bytes are those of two names that differ
two_names : (q a b : List ℕ) → bytes_eq a b ≡ false → bytes_eq q b ≡ true → bytes_eq q a ≡ true → ⊥
two_names q a b differ is_b is_a =
    let e : a ≡ b = sym ((bytes_eq-Decides q a).0 is_a) ∙ (bytes_eq-Decides q b).0 is_b in
    let same : bytes_eq a b ≡ true = (bytes_eq-Decides a b).1 e in
    cc

-- what the first file of a name is, once it is replaced by a file of that name
bytes_named-set : (fs : List File) (place : ℕ) (file d : File) → place < length fs → bytes_eq file.name (get_or fs place d).name ≡ true → ((k : ℕ) → k < place → bytes_eq file.name (get_or fs k d).name ≡ false) → (q : List ℕ) → bytes_named q (set fs place file) ≡ cond (bytes_eq q file.name) (Some file.bytes) (bytes_named q fs)
bytes_named-set [] place file d within named first q = absurd (omega arith)
bytes_named-set (f ∷ fs) zero file d within named first q =
    let same : file.name ≡ f.name = (bytes_eq-Decides file.name f.name).0 named in
    rw (← same) (sym (stands_twice (bytes_eq q file.name) (Some file.bytes) (Some f.bytes) (bytes_named q fs)))
bytes_named-set (f ∷ fs) (suc place) file d within named first q =
    let differ : bytes_eq file.name f.name ≡ false = first 0 (omega arith) in
    let further : (k : ℕ) → k < place → bytes_eq file.name (get_or fs k d).name ≡ false = λ k below. first (suc k) (omega arith) in
    ap (cond (bytes_eq q f.name) (Some f.bytes)) (bytes_named-set fs place file d (omega arith) named further q)
    ∙ either_first (bytes_eq q f.name) (bytes_eq q file.name) _ _ _ (two_names q file.name f.name differ)

-- the bytes of a name are those of the first file of that name
bytes_named-at : (fs : List File) (name : List ℕ) (place : ℕ) (d : File) → place < length fs → bytes_eq name (get_or fs place d).name ≡ true → ((k : ℕ) → k < place → bytes_eq name (get_or fs k d).name ≡ false) → bytes_named name fs ≡ Some (get_or fs place d).bytes
bytes_named-at [] name place d within named first = absurd (omega arith)
bytes_named-at (f ∷ fs) name zero d within named first = rw named refl
bytes_named-at (f ∷ fs) name (suc place) d within named first =
    let differ : bytes_eq name f.name ≡ false = first 0 (omega arith) in
    rw differ (bytes_named-at fs name place d (omega arith) named (λ k below. first (suc k) (omega arith)))

-- where no file of a name is found, there is none
none_before : (fs : List File) (name : List ℕ) → length fs ≤ position_or_len (is_named name) fs → bytes_named name fs ≡ None
none_before [] name all = refl
none_before (f ∷ fs) name all =
    elim (bytes_eq name f.name) as (λ same. length (f ∷ fs) ≤ cond (not same) (1 + position_or_len (is_named name) fs) 0 → cond same (Some f.bytes) (bytes_named name fs) ≡ None) [
      | true ↦ λ all. absurd (omega arith)
      | false ↦ λ all. none_before fs name (omega arith)
    ] all

-- a choice that is none
chose_none : (a : Bool) (x : List ℕ) (y : Option (List ℕ)) → cond a (Some x) y ≡ None → (a ≡ false) × (y ≡ None)
chose_none true x y none = cc
chose_none false x y none = (refl, none)

-- a file whose name is not there yet, put at the end
bytes_named-push : (fs : List File) (file : File) → bytes_named file.name fs ≡ None → (q : List ℕ) → bytes_named q (fs ++ file ∷ []) ≡ cond (bytes_eq q file.name) (Some file.bytes) (bytes_named q fs)
bytes_named-push [] file none q = refl
bytes_named-push (f ∷ fs) file none q =
    let apart = chose_none (bytes_eq file.name f.name) f.bytes (bytes_named file.name fs) none in
    ap (cond (bytes_eq q f.name) (Some f.bytes)) (bytes_named-push fs file apart.1 q)
    ∙ either_first (bytes_eq q f.name) (bytes_eq q file.name) _ _ _ (two_names q file.name f.name apart.0)

-- where no place is found, none of the files has the name
none_found : (fs : List File) (name : List ℕ) → position (is_named name) fs ≡ None → bytes_named name fs ≡ None
none_found fs name none =
    let past : length fs ≤ position_or_len (is_named name) fs = grind (arith, nat_tests) in
    none_before fs name past

-- the map has nothing at a name of which no place is found
pub get_none : (fs : List File) (name : List ℕ) → position (is_named name) fs ≡ None → map.get (files_of fs) name ≡ None
get_none fs name none = get-files_of fs name ∙ none_found fs name none

-- the map has at a name the bytes of the file at the place that is found
pub get_found : (fs : List File) (name : List ℕ) (place : ℕ) (d : File) → position (is_named name) fs ≡ Some place → map.get (files_of fs) name ≡ Some (get_or fs place d).bytes
get_found fs name place d found =
    let p = position-Some (is_named name) fs place d found in
    get-files_of fs name ∙ bytes_named-at fs name place d p.0 p.1 p.2

-- to write the bytes of the file at the place that is found is to insert them
pub files_of-set : (fs : List File) (name : List ℕ) (place : ℕ) (file : File) (bytes : List ℕ) → position (is_named name) fs ≡ Some place → file ≡ get_or fs place file → files_of (set fs place (record { name = file.name; bytes = bytes })) ≡ map.insert (files_of fs) name bytes
files_of-set fs name place file bytes found is =
    let p = position-Some (is_named name) fs place file found in
    let same : name ≡ file.name = (bytes_eq-Decides name (get_or fs place file).name).0 p.1 ∙ ap (λ (f : File). f.name) (sym is) in
    rw same (one_given fs _ file.name bytes (bytes_named-set fs place (record { name = file.name; bytes = bytes }) file p.0 (rw same at p.1) (rw same at p.2)))

-- to add a file at the end, where none has the name, is to insert it
pub files_of-push : (fs : List File) (file : File) → position (is_named file.name) fs ≡ None → files_of (fs ++ file ∷ []) ≡ map.insert (files_of fs) file.name file.bytes
files_of-push fs file none = one_given fs _ file.name file.bytes (bytes_named-push fs file (none_found fs file.name none))

-- a place is found of a name that the map has
pub is_found : (fs : List File) (name : List ℕ) (place : Option ℕ) → place ≡ position (is_named name) fs → IsSome (map.get (files_of fs) name) → IsSome place
is_found fs name None none there = rw (get_none fs name (sym none)) at there
is_found fs name (Some place) found there = refl

-- to write more bytes behind those of the file at the place that is found is to insert both
pub files_of-append : (fs : List File) (name : List ℕ) (place : ℕ) (file : File) (bytes longer : List ℕ) → position (is_named name) fs ≡ Some place → file ≡ get_or fs place file → longer ≡ file.bytes ++ bytes → files_of (set fs place (record { name = file.name; bytes = longer })) ≡ map.insert (files_of fs) name (unwrap_or (map.get (files_of fs) name) [] ++ bytes)
files_of-append fs name place file bytes longer found is long =
    let had : map.get (files_of fs) name ≡ Some file.bytes = get_found fs name place file found ∙ ap (λ (f : File). Some f.bytes) (sym is) in
    files_of-set fs name place file longer found is
    ∙ ap (map.insert (files_of fs) name) (long ∙ ap (λ found. unwrap_or found [] ++ bytes) (sym had))
