-- What a sink took and what a file holds grow by fronts of the bytes that are put or written.
use Rattle.std.proofs.Common.{◌≡◌, ℕ, ◌+◌, ◌-◌, subst, Bool, true, false, cond, List, [], ◌++◌, length, take, drop, refl, ap, sym, ◌∙◌, inl, inr, append_assoc, Option, Some, None, option_map, unwrap_or}
use Rattle.std.proofs.Math.Seq.{take-add}
use Rattle.std.proofs.lemmas.List.{take-append-drop}
use Rattle.std.specs.FinMap as map
use Rattle.std.specs.Str.{bytes_eq}
use Rattle.std.proofs.lemmas.Cmp.{nat_list_cmp_total}
use Rattle.std.proofs.lemmas.Map.Lookups.{exact_bytes}
use Rattle.std.proofs.lemmas.Slice.Eq.{bytes_eq-Decides}
use Rattle.shelf_io.specs.Told.{Files, IfTold, ShelfState, SinkState, StopsInFile, StopsInText, bytes_of, take_failed, with_file, with_more, with_taken, write_failed}
use Rattle.shelf_io.proofs.Fronts.{rest_is}
use Rattle.shelf_io.proofs.NamedFiles.{get_inserted}

-- bytes that are known, with some added and then more
added_twice : (told : Option (List ℕ)) (first then : List ℕ) → option_map (λ (taken : List ℕ). taken ++ then) (option_map (λ (taken : List ℕ). taken ++ first) told) ≡ option_map (λ (taken : List ℕ). taken ++ (first ++ then)) told
added_twice None first then = refl
added_twice (Some taken) first then = ap Some (append_assoc taken first then)

-- what was taken first and what was taken then
taken_twice : (sink : SinkState) (first then : List ℕ) → with_taken (with_taken sink first) then ≡ with_taken sink (first ++ then)
taken_twice sink first then =
    ap (λ (taken : Option (List ℕ)). let made : SinkState = record { taken = taken; faults = sink.faults } in made) (added_twice sink.taken first then)

-- a front, and what a call took of the rest, is a longer front
front_further : (bytes : List ℕ) (done k : ℕ) → take done bytes ++ take k (take (length bytes - done) (drop done bytes)) ≡ take (done + k) bytes
front_further bytes done k =
    ap (λ rest. take done bytes ++ take k rest) (rest_is bytes done) ∙ sym (take-add done k bytes)

-- the sink took a longer front of the bytes
pub taken_further : (old now new : SinkState) (bytes : List ℕ) (put k : ℕ) → now ≡ with_taken old (take put bytes) → new ≡ with_taken now (take k (take (length bytes - put) (drop put bytes))) → new ≡ with_taken old (take (put + k) bytes)
taken_further old now new bytes put k so_far after =
    after ∙ ap (λ sink. with_taken sink (take k (take (length bytes - put) (drop put bytes)))) so_far
    ∙ taken_twice old (take put bytes) (take k (take (length bytes - put) (drop put bytes)))
    ∙ ap (with_taken old) (front_further bytes put k)

-- a call that failed leaves a front of the bytes put
pub stops_in_text : (old now new : SinkState) (bytes : List ℕ) (put : ℕ) → now ≡ with_taken old (take put bytes) → new ≡ take_failed now → StopsInText old bytes new
stops_in_text old now new bytes put so_far failed = record {
  front = take put bytes;
  rest = drop put bytes;
  whole = sym (take-append-drop put bytes);
  stands = failed ∙ ap take_failed so_far;
}

-- what the map has at a name that was put into it
pub get_same : (files : Files) (name bytes : List ℕ) → map.get (map.insert files name bytes) name ≡ Some bytes
get_same files name bytes =
    let same : bytes_eq name name ≡ true = (bytes_eq-Decides name name).1 refl in
    get_inserted files name bytes name ∙ ap (λ test. cond test (Some bytes) (map.get files name)) same

-- of two choices by one test the second is never made
chosen_twice : (test : Bool) (x y z : Option (List ℕ)) → cond test x (cond test y z) ≡ cond test x z
chosen_twice true x y z = refl
chosen_twice false x y z = refl

-- of two bytes at one name the later stand
insert_twice : (files : Files) (name first then : List ℕ) → map.insert (map.insert files name first) name then ≡ map.insert files name then
insert_twice files name first then = map.same_map nat_list_cmp_total exact_bytes _ _ (λ q.
    get_inserted (map.insert files name first) name then q
    ∙ ap (cond (bytes_eq q name) (Some then)) (get_inserted files name first q)
    ∙ chosen_twice (bytes_eq q name) (Some then) (Some first) (map.get files q)
    ∙ sym (get_inserted files name then q))

-- told files, of which one was given bytes and then more
filed_twice : (told : Option Files) (name first then : List ℕ) → option_map (λ (files : Files). map.insert files name (unwrap_or (bytes_of files name) [] ++ then)) (option_map (λ (files : Files). map.insert files name first) told) ≡ option_map (λ (files : Files). map.insert files name (first ++ then)) told
filed_twice None name first then = refl
filed_twice (Some files) name first then =
    ap Some (ap (λ (found : Option (List ℕ)). map.insert (map.insert files name first) name (unwrap_or found [] ++ then)) (get_same files name first)
    ∙ insert_twice files name first (first ++ then))

-- a file that was given bytes and then more
written_twice : (shelf : ShelfState) (name first then : List ℕ) → with_more (with_file shelf name first) name then ≡ with_file shelf name (first ++ then)
written_twice shelf name first then =
    ap (λ (files : Option Files). let made : ShelfState = record { files = files; read_faults = shelf.read_faults; write_faults = shelf.write_faults } in made) (filed_twice shelf.files name first then)

-- the file holds a longer front of the bytes
pub written_further : (old now new : ShelfState) (name bytes : List ℕ) (written k : ℕ) → now ≡ with_file old name (take written bytes) → new ≡ with_more now name (take k (take (length bytes - written) (drop written bytes))) → new ≡ with_file old name (take (written + k) bytes)
written_further old now new name bytes written k so_far after =
    after ∙ ap (λ shelf. with_more shelf name (take k (take (length bytes - written) (drop written bytes)))) so_far
    ∙ written_twice old name (take written bytes) (take k (take (length bytes - written) (drop written bytes)))
    ∙ ap (with_file old name) (front_further bytes written k)

-- a write that failed leaves a front of the bytes in the file
pub stops_in_file : (old now new : ShelfState) (name bytes : List ℕ) (written : ℕ) → now ≡ with_file old name (take written bytes) → new ≡ write_failed now → StopsInFile old name bytes new
stops_in_file old now new name bytes written so_far failed = record {
  front = take written bytes;
  rest = drop written bytes;
  whole = sym (take-append-drop written bytes);
  stands = inr (failed ∙ ap write_failed so_far);
}

-- a file that was given bytes is there
file_is_told : (told : Option Files) (name bytes : List ℕ) → IfTold (option_map (λ (files : Files). map.insert files name bytes) told) name (λ _. Unit {0})
file_is_told None name bytes = tt
file_is_told (Some files) name bytes = rw (get_same files name bytes) tt

pub file_is_there : (old now : ShelfState) (name bytes : List ℕ) → now ≡ with_file old name bytes → IfTold now.files name (λ _. Unit {0})
file_is_there old now name bytes holds =
    let P : ShelfState → Type 0 = λ shelf. IfTold shelf.files name (λ _. Unit {0}) in
    subst P (sym holds) (file_is_told old.files name bytes)
