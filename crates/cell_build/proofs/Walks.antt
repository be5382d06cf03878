-- A walk over the items of a list that stops at the first fault.
use Rattle.std.proofs.Common.{◌≡◌, ℕ, List, drop}
use Rattle.refusals.proofs.Memory.{all_passed, item_passed_or_memory, item_refused_or_memory, made_without_fault}
use Rattle.std.proofs.lemmas.Grind.{common_steps}
use Rattle.refusals.specs.Faults.{items_from, per_item}

-- the items from k on have the faults of all
abbrev pub RestHasAll : {X E : Type 0} → List X → (ℕ → X → List E) → ℕ → Type 0
RestHasAll xs faults k = per_item xs faults ≡ items_from k (drop k xs) faults

-- the steps of a walk that takes memory
pub ruleset memory_steps = (common_steps, all_passed, item_passed_or_memory, item_refused_or_memory, made_without_fault)
