-- Answers of functions that take memory: how a callee's becomes a caller's.
use Rattle.std.proofs.Common.{◌≡◌, inl, inr, ℕ, ◌+◌, ◌<◌, ◌≤◌, List, [], ◌∷◌, ◌++◌, drop, get_or, length, Result, Ok, Err, refl, ap, sym, ◌∙◌}
use Rattle.std.proofs.lemmas.List.{drop_all, drop_more}
use Rattle.refusals.specs.Faults.{items_from, per_item, unless}
use Rattle.refusals.specs.Memory.{OrMemory}
use Rattle.refusals.proofs.FirstFaults.{unless_made, unless_left}

-- what is made is what is deserved
pub made_is_deserved : {X E : Type 0} (memory : E) (deserved result : Result X E) (x : X) → OrMemory memory deserved result → result ≡ Ok x → deserved ≡ Ok x
made_is_deserved memory deserved result x (inl is) made = sym is ∙ made
made_is_deserved memory deserved result x (inr wanting) made = absurd (cc)

-- what is made is what would be made, and there is no fault
pub made_without_fault : {X E : Type 0} (memory : E) (faults : List E) (made x : X) → OrMemory memory (unless faults made) (Ok x) → (faults ≡ []) × (x ≡ made)
made_without_fault memory faults made x (inl is) = unless_made faults made x is
made_without_fault memory faults made x (inr wanting) = absurd (cc)

-- a callee's refusal is the caller's, where what the callee deserves is what the caller deserves
pub refused_or_memory : {X Y E : Type 0} (memory e : E) (deserved : Result X E) (wanted answer : Result Y E) → answer ≡ Err e → (Err e ≡ deserved → Err e ≡ wanted) → OrMemory memory deserved (Err e) → OrMemory memory wanted answer
refused_or_memory memory e deserved wanted answer is same (inl refused) = inl (is ∙ same refused)
refused_or_memory memory e deserved wanted answer is same (inr wanting) = inr (is ∙ cc)

-- a refusal where nothing was made yet, whatever is made in the end
pub refused_as_well : {X Y E : Type 0} (memory e : E) (faults : List E) (made : X) (other : Y) (answer : Result Y E) → answer ≡ Err e → OrMemory memory (unless faults made) (Err e) → OrMemory memory (unless faults other) answer
refused_as_well memory e [] made other answer is (inl refused) = absurd (cc)
refused_as_well memory e (first ∷ faults) made other answer is (inl refused) = inl (is ∙ cc)
refused_as_well memory e faults made other answer is (inr wanting) = inr (is ∙ cc)

-- a walk over items that take memory: a refusal of item k, where the items from it on have the faults of all
pub item_refused_or_memory : {X Y Z E : Type 0} (memory e : E) (xs : List Z) (k : ℕ) (x : Z) (faults : ℕ → Z → List E) (made : X) (other : Y) (answer : Result Y E) →
    answer ≡ Err e → k < length xs → x ≡ get_or xs k x → per_item xs faults ≡ items_from k (drop k xs) faults → OrMemory memory (unless (faults k x) made) (Err e) → OrMemory memory (unless (per_item xs faults) other) answer
item_refused_or_memory memory e xs k x faults made other answer is within at left refused =
    let here : per_item xs faults ≡ faults k x ++ items_from (k + 1) (drop (k + 1) xs) faults = left ∙ rw (drop_more xs k x within, ← at) in
    refused_or_memory memory e (unless (faults k x) made) (unless (per_item xs faults) other) answer is
    (λ first. unless_left (faults k x) (items_from (k + 1) (drop (k + 1) xs) faults) made other e first ∙ ap (λ all. unless all other) (sym here)) refused

-- and an item without a fault: the items behind it have the faults of all
pub item_passed_or_memory : {X Z E : Type 0} (memory : E) (xs : List Z) (k : ℕ) (x : Z) (faults : ℕ → Z → List E) (made y : X) →
    k < length xs → x ≡ get_or xs k x → per_item xs faults ≡ items_from k (drop k xs) faults → OrMemory memory (unless (faults k x) made) (Ok y) → per_item xs faults ≡ items_from (k + 1) (drop (k + 1) xs) faults
item_passed_or_memory memory xs k x faults made y within at left passed =
    let none : faults k x ≡ [] = (made_without_fault memory (faults k x) made y passed).0 in
    left ∙ rw (drop_more xs k x within, ← at, none)

-- behind the last item there is no fault
pub all_passed : {Z E : Type 0} (xs : List Z) (k : ℕ) (faults : ℕ → Z → List E) → length xs ≤ k → per_item xs faults ≡ items_from k (drop k xs) faults → per_item xs faults ≡ []
all_passed xs k faults past left = left ∙ rw (drop_all k xs past)
