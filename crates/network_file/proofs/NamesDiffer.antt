-- Names without name faults differ.
use Rattle.std.proofs.Common.{◌≡◌, inl, inr, ℕ, ◌+◌, ◌<◌, ◌||◌, Bool, true, false, List, [], ◌∷◌, length, take, get_or, refl, sym, ◌∙◌, add-one, arith}
use Rattle.std.specs.List.{list_any}
use Rattle.std.specs.Str.{bytes_eq}
use Rattle.std.proofs.lemmas.Bool.{cases_Bool, false≢true}
use Rattle.std.proofs.lemmas.Slice.Eq.{bytes_eq-Decides}
use Rattle.std.proofs.lemmas.List.Elements.{All-from_get_or}
use Rattle.std.proofs.lemmas.List.Folds.{list_any_none}
use Rattle.refusals.specs.Faults.{per_item}
use Rattle.refusals.proofs.Items.{per_item_none}
use Rattle.refusals.proofs.FirstFaults.{where_none}
use Rattle.network_file.specs.Range.{all_differ}
use Rattle.network_file.specs.Refusals.{name_at}
use Rattle.network_file.specs.declared.fault.At.{At}
use Rattle.network_file.specs.declared.fault.NetFault.TheVariants as fault

-- neither of two tests holds
neither : (a b : Bool) → (a || b) ≡ false → (a ≡ false) × (b ≡ false)
neither true b none = absurd (cc)
neither false b none = (refl, none)

-- no name of the list is an earlier one
abbrev IsNew : List (List ℕ) → Type 0
IsNew names = (i : ℕ) → i < length names → list_any (bytes_eq (get_or names i [])) (take i names) ≡ false

new_next : (name : List ℕ) (names : List (List ℕ)) (i : ℕ) → IsNew (name ∷ names) → i < length names → (bytes_eq (get_or names i []) name || list_any (bytes_eq (get_or names i [])) (take i names)) ≡ false
new_next name names i new within = rw (add-one i) at (new (i + 1) (omega arith))

same_bytes-sym : (a b : List ℕ) → bytes_eq a b ≡ false → bytes_eq b a ≡ false
same_bytes-sym a b other =
    elim (cases_Bool (bytes_eq b a)) [
      | inl same ↦ absurd (false≢true (sym other ∙ (bytes_eq-Decides a b).1 (sym ((bytes_eq-Decides b a).0 same))))
      | inr differs ↦ differs
    ]

-- so they all differ
differ : (names : List (List ℕ)) → IsNew names → all_differ names ≡ true
differ [] new = refl
differ (name ∷ names) new =
    let apart : list_any (bytes_eq name) names ≡ false =
    list_any_none (bytes_eq name) names (All-from_get_or (λ other. bytes_eq name other ≡ false) names [] (λ i within.
    same_bytes-sym (get_or names i []) name (neither (bytes_eq (get_or names i []) name) (list_any (bytes_eq (get_or names i [])) (take i names)) (new_next name names i new within)).0)) in
    rw apart (differ names (λ i within. (neither (bytes_eq (get_or names i []) name) (list_any (bytes_eq (get_or names i [])) (take i names)) (new_next name names i new within)).1))

pub names_differ : (names : List (List ℕ)) (at : ℕ → At) → per_item names (name_at names at) ≡ [] → all_differ names ≡ true
names_differ names at none =
    differ names (λ i within. where_none (list_any (bytes_eq (get_or names i [])) (take i names)) (fault.Name (at i)) (per_item_none names (name_at names at) i [] none within))
