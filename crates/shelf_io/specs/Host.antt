-- What a call on the host's files comes to: one opening, and in the file that it gave one seek with one read, or one
-- write.
use Rattle.std.specs.Prelude.{◌≡◌, ℕ, ◌<◌, List, length, take, Option, Some, IfSome, IsErr, IsSomeAnd, IfOk, MatchOption, Result}
use Rattle.std.specs.Io.KnownBytes.{Consumes, IsAtEnd, WriteAppends}

-- a file was sought to a place, and from where that left it one read gave k bytes: none only with no room or at the end
pub record ReadsAt {F : Type 0} (position : F → Option ℕ) (left : F → Option (List ℕ)) (before : F) (at k : ℕ) (buffer : List ℕ) (after : F) : Type 0 where
  pub sought : F
  pub there : IfSome (position before) (λ _. position sought ≡ Some at)
  pub bytes : Consumes (left sought) (left after) (take k buffer)
  pub ends : k ≡ 0 → 0 < length buffer → IsAtEnd (left after)

-- all that was done is one opening, and an Ok comes of one read at the place of the file that it gave
pub record ReadsOpened {F E : Type 0} (opens : Option F → Type 0) (position : F → Option ℕ) (left : F → Option (List ℕ)) (at : ℕ) (outcome : Result ℕ E) (buffer : List ℕ) : Type 0 where
  pub opened : Option F
  pub once : opens opened
  pub reads : IfOk outcome (λ k. IsSomeAnd opened (λ file. (after : F) × ReadsAt position left file at k buffer after))

-- all that was done is one opening, one write of these bytes into the file that it gave, and the closing of that file
pub record AddsOpened {R F E : Type 0} (opens : Option F → R → Type 0) (closes : R → F → R → Type 0) (contents : F → Option (List ℕ)) (outcome : Result ℕ E) (bytes : List ℕ) (after : R) : Type 0 where
  pub opened : Option F
  pub between : R
  pub once : opens opened between
  pub adds : MatchOption opened ((between ≡ after) × IsErr outcome) (λ file. (left : F) × WriteAppends (contents file) (contents left) outcome bytes × closes between left after)
