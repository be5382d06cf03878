-- What a shelf and a sink are to contracts, and what a call may do to them.
use Rattle.std.specs.Prelude.{◌≡◌, ℕ, ◌-◌, ◌≤◌, ◌⊎◌, List, [], ◌++◌, length, take, drop, Option, Some, None, MatchOption, option_map, unwrap_or}
use Rattle.std.specs.Ordering.{nat_cmp}
use Rattle.std.specs.Cmp.Lexicographic.{slice_cmp}
use Rattle.std.specs.FinMap as map
use Rattle.shelf_io.specs.Counts.{risen}

-- the bytes of files by the bytes of their names
abbrev pub Files : Type 0
Files = map.FinMap (slice_cmp nat_cmp) (List ℕ)

-- the bytes of a file, if it is there
abbrev pub bytes_of : Files → List ℕ → Option (List ℕ)
bytes_of told name = map.get told name

-- what a shelf is: its files, where it tells them, and how many reads and how many writes failed so far
pub record ShelfState : Type 0 where
  pub files : Option Files
  pub read_faults : ℕ
  pub write_faults : ℕ

-- what a sink is: the bytes that it took so far, where it tells them, and how many calls failed
pub record SinkState : Type 0 where
  pub taken : Option (List ℕ)
  pub faults : ℕ

-- a count of faults rose, or stands where it can't rise
abbrev pub Rises : ℕ → ℕ → Type 0
Rises before after = risen before ≤ after

-- the shelf after a read that failed and was counted
abbrev pub read_failed : ShelfState → ShelfState
read_failed shelf = record shelf { read_faults = risen shelf.read_faults }

-- the shelf after a write that failed and was counted
abbrev pub write_failed : ShelfState → ShelfState
write_failed shelf = record shelf { write_faults = risen shelf.write_faults }

-- the shelf where the named file holds these bytes
abbrev pub with_file : ShelfState → List ℕ → List ℕ → ShelfState
with_file shelf name bytes = record shelf { files = option_map (λ (files : Files). map.insert files name bytes) shelf.files }

-- the shelf where bytes were added at the end of the named file
abbrev pub with_more : ShelfState → List ℕ → List ℕ → ShelfState
with_more shelf name bytes = record shelf { files = option_map (λ (files : Files). map.insert files name (unwrap_or (bytes_of files name) [] ++ bytes)) shelf.files }

-- the sink after it took bytes
abbrev pub with_taken : SinkState → List ℕ → SinkState
with_taken sink bytes = record sink { taken = option_map (λ (taken : List ℕ). taken ++ bytes) sink.taken }

-- the sink after a call that failed
abbrev pub take_failed : SinkState → SinkState
take_failed sink = record sink { faults = risen sink.faults }

-- files are told, and the name is not among them
abbrev pub IsMissing : Option Files → List ℕ → Type 0
IsMissing None name = ⊥
IsMissing (Some told) name = bytes_of told name ≡ None

-- where files are told, the name is among them and P holds of its bytes
abbrev pub IfTold : Option Files → List ℕ → (List ℕ → Type 0) → Type 0
IfTold None name P = Unit {0}
IfTold (Some told) name P = MatchOption (bytes_of told name) ⊥ P

-- a read failed: it was counted, or the file is not there and nothing changed
abbrev pub FailsToRead : ShelfState → List ℕ → ShelfState → Type 0
FailsToRead before name after = (after ≡ read_failed before) ⊎ (IsMissing before.files name × (after ≡ before))

-- the first k bytes of the buffer are those of the file from a place on; no byte was read only where none was asked
-- for or the file ends there
pub record ReadsFrom (bytes : List ℕ) (at k : ℕ) (buffer : List ℕ) : Type 0 where
  pub within : k ≤ length bytes - at
  pub same : take k buffer ≡ take k (drop at bytes)
  pub ends : k ≡ 0 → (length buffer ≡ 0) ⊎ (length bytes ≤ at)

-- at least one of the bytes, unless there is none, and at most all
pub record IsSomeOf (bytes : List ℕ) (k : ℕ) : Type 0 where
  pub most : k ≤ length bytes
  pub least : (1 ≤ k) ⊎ (length bytes ≡ 0)

-- a write failed and was counted: the file holds a front of the bytes, or nothing changed in it
pub record StopsInFile (before : ShelfState) (name bytes : List ℕ) (after : ShelfState) : Type 0 where
  pub front : List ℕ
  pub rest : List ℕ
  pub whole : bytes ≡ front ++ rest
  pub stands : (after ≡ write_failed before) ⊎ (after ≡ write_failed (with_file before name front))

-- a call failed and was counted: the sink took a front of the bytes
pub record StopsInText (before : SinkState) (bytes : List ℕ) (after : SinkState) : Type 0 where
  pub front : List ℕ
  pub rest : List ℕ
  pub whole : bytes ≡ front ++ rest
  pub stands : after ≡ take_failed (with_taken before front)
