-- How large the numbers of a reader are: each line has a byte at least, and brings one subtree more at most.
use Rattle.std.specs.Prelude.{ℕ, ◌+◌, ◌≤◌, Option, Some, None}
use Rattle.cert_format.specs.declared.next.Next.{Next}
use Rattle.cert_format.specs.declared.next.Next.TheVariants.{Subtrees}

-- how many subtrees are to come
abbrev pub awaited_in : Next → ℕ
awaited_in (Subtrees awaited) = awaited
awaited_in _ = 0

-- the numbers of a reader are no larger than its bytes allow, until memory is wanting
abbrev pub IsCounted : Option Next → ℕ → ℕ → Type 0
IsCounted None line taken = Unit {0}
IsCounted (Some next) line taken = (awaited_in next ≤ line) × (line ≤ taken + 1)
