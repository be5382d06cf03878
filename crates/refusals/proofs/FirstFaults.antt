-- A chain of rules that stops at the first fault: how an answer on a part is an answer on the whole.
use Rattle.std.proofs.Common.{◌≡◌, ℕ, ◌<◌, Bool, true, false, List, [], ◌∷◌, ◌++◌, Ok, Err, refl}
use Rattle.listed.specs.Below.{join_below}
use Rattle.listed.proofs.JoinLaws.{join_below-begins}
use Rattle.refusals.specs.Faults.{unless, where_so}

-- no refusal: there is no fault
pub unless_fine : {X E : Type 0} (faults : List E) (made other : X) → Ok other ≡ unless faults made → faults ≡ []
unless_fine [] made other fine = refl
unless_fine (e ∷ faults) made other fine = absurd (cc)

-- what is made is what would be made, and there is no fault
pub unless_made : {X E : Type 0} (faults : List E) (made x : X) → Ok x ≡ unless faults made → (faults ≡ []) × (x ≡ made)
unless_made [] made x fine = (refl, cc)
unless_made (e ∷ faults) made x fine = absurd (cc)

-- a list begins with a fault
abbrev pub BeginsWith : {E : Type 0} → E → List E → Type 0
BeginsWith {E} e faults = (rest : List E) × (faults ≡ e ∷ rest)

-- a refusal: the faults begin with it
pub unless_refused : {X E : Type 0} (faults : List E) (made : X) (e : E) → Err e ≡ unless faults made → BeginsWith e faults
unless_refused [] made e refused = absurd (cc)
unless_refused (first ∷ faults) made e refused = (faults, cc)

-- and the other way round
pub unless_begins : {X E : Type 0} (faults : List E) (made : X) (e : E) → BeginsWith e faults → Err e ≡ unless faults made
unless_begins faults made e begins = rw begins.1

-- a refusal of the first part
pub unless_left : {X Y E : Type 0} (part after : List E) (x : X) (y : Y) (e : E) → Err e ≡ unless part x → Err e ≡ unless (part ++ after) y
unless_left part after x y e refused =
    let begins : BeginsWith e part = unless_refused part x e refused in
    rw begins.1

-- the second part, where the first has no fault
pub unless_right : {X E : Type 0} (before part : List E) (x : X) → before ≡ [] → unless (before ++ part) x ≡ unless part x
unless_right before part x none = rw none

-- a refusal of list k, where the lists before it have no fault
pub unless_place : {X Y E : Type 0} (n k : ℕ) (f : ℕ → List E) (x : X) (y : Y) (e : E) → k < n → join_below k f ≡ [] → Err e ≡ unless (f k) x → Err e ≡ unless (join_below n f) y
unless_place n k f x y e within before refused =
    let here : BeginsWith e (f k) = unless_refused (f k) x e refused in
    unless_begins (join_below n f) y e (join_below-begins n k f e here.0 within before here.1)

-- a test that gives no fault does not hold
pub where_none : {X : Type 0} (holds : Bool) (fault : X) → where_so holds fault ≡ [] → holds ≡ false
where_none true fault none = absurd (cc)
where_none false fault none = refl
