-- Readers of a text that comes in pieces: for which text a reader stands, and what its answers tell.
use Rattle.std.specs.Prelude.{◌≡◌, ◌⊎◌, ℕ, ◌+◌, ◌<◌, ◌≤◌, ℤ, List, [], ◌∷◌, ◌++◌, length, Option, Some}
use Rattle.texts.specs.Lines.{behind_lines, lines_of}
use Rattle.certificate_model.specs.Nodes as model
use Rattle.cert_format.specs.Marks.{node_of}
use Rattle.cert_format.specs.Progress.{Progress, progress_of}
use Rattle.cert_format.specs.Unfinished.{ReadsAs}
use Rattle.cert_format.specs.declared.event.Event.{Event}
use Rattle.cert_format.specs.declared.event.Event.TheVariants.{More, Head, Node, Whole, BadForm, Tail}
use Rattle.cert_format.specs.declared.next.Next.{Next}
use Rattle.cert_format.specs.declared.next.Next.TheVariants as next
use Rattle.cert_format.specs.declared.reader.TheConstants.{ALL_PAIRS}

-- what a reader holds: what has to come next, or nothing once memory was wanting; the number of the line that comes next, and the bytes
-- that are kept of it; how many bytes it has taken
pub record Reading : Type 0 where
  pub next : Option Next
  pub line : ℕ
  pub bytes : List ℕ
  pub taken : ℕ

-- a reader has read the whole lines of a text, and has the bytes that no line feed follows
pub record IsBehindLines (reading : Reading) (text : List ℕ) : Type 0 where
  pub line : reading.line ≡ length (lines_of text) + 1
  pub bytes : ReadsAs ALL_PAIRS reading.bytes (behind_lines text)

-- the same, until a text breaks: then its lines do not count any more
abbrev pub IsBehindLinesBefore : Next → Reading → List ℕ → Type 0
IsBehindLinesBefore (next.BadForm line) reading text = Unit {0}
IsBehindLinesBefore (next.Tail line) reading text = Unit {0}
IsBehindLinesBefore _ reading text = IsBehindLines reading text

-- a reader stands for a text: it holds what the text says of the bytes that may come, and nothing else of it
pub record StandsFor (reading : Reading) (text : List ℕ) : Type 0 where
  pub next : reading.next ≡ Some (progress_of text).next
  pub lines : IsBehindLinesBefore (progress_of text).next reading text
  pub taken : reading.taken ≡ length text

-- the bound, where an event tells it
abbrev pub bound_with : Event → ℤ → ℤ
bound_with (Head told) bound = told
bound_with _ bound = bound

-- nodes, with the one that an event tells
abbrev pub nodes_with : Event → List model.Node → List model.Node
nodes_with (Node node) nodes = nodes ++ node_of node ∷ []
nodes_with _ nodes = nodes

-- what was said, with what an event tells besides, where this has to come then
abbrev pub with_event : Event → Next → Progress → Progress
with_event event next progress = record { bound = bound_with event progress.bound; nodes = nodes_with event progress.nodes; next = next }

-- the text is not broken
abbrev pub IsUnbroken : Next → Type 0
IsUnbroken (next.BadForm line) = ⊥
IsUnbroken (next.Tail line) = ⊥
IsUnbroken _ = Unit {0}

-- what had to come before an event, and what has to come then: nothing is told of the first line
abbrev pub Marks : Event → Next → Next → Type 0
Marks More before after = IsUnbroken after × ((after ≡ before) ⊎ ((before ≡ next.Head) × (after ≡ next.Bound)))
Marks (Head bound) before after = after ≡ next.Subtrees 1
Marks (Node node) before after = (awaited : ℕ) × (after ≡ next.Subtrees awaited)
Marks Whole before after = (before ≡ next.Subtrees 0) × (after ≡ next.Nothing)
Marks (BadForm line) before after = after ≡ next.BadForm line
Marks (Tail line) before after = after ≡ next.Tail line

-- an event tells all that a text says beyond what it said before
pub record Tells (event : Event) (before after : Progress) : Type 0 where
  pub said : after ≡ with_event event after.next before
  pub mark : Marks event before.next after.next

-- a reader that stood for a text stands for it with some bytes more, and the event tells what these say
pub record IsFed (text bytes : List ℕ) (event : Event) (reading : Reading) : Type 0 where
  pub stands : StandsFor reading (text ++ bytes)
  pub tells : Tells event (progress_of text) (progress_of (text ++ bytes))

-- so many bytes of a piece are consumed: one at least, and all where there is no other event, or where the text was broken before
pub record Consumes (before : Option Next) (piece : List ℕ) (count : ℕ) (event : Event) : Type 0 where
  pub within : count ≤ length piece
  pub some : 0 < length piece → 0 < count
  pub all : event ≡ More → count ≡ length piece
  pub broken : (line : ℕ) → (before ≡ Some (next.BadForm line)) ⊎ (before ≡ Some (next.Tail line)) → count ≡ length piece

-- events tell, one after another, what a text says beyond what it said before
abbrev pub AreTold : List Event → Progress → Progress → Type 0
AreTold [] before after = after ≡ before
AreTold (event ∷ events) before after = (between : Progress) × (Tells event before between × AreTold events between after)

-- the bound, where events tell it
abbrev pub bound_told : List Event → ℤ → ℤ
bound_told [] bound = bound
bound_told (event ∷ events) bound = bound_told events (bound_with event bound)

-- nodes, with those that events tell
abbrev pub nodes_told : List Event → List model.Node → List model.Node
nodes_told [] nodes = nodes
nodes_told (event ∷ events) nodes = nodes_told events (nodes_with event nodes)
