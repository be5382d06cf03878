-- What the lines of a text say one after another, and what has to come behind them (docs/certificate.md, "The text"). So a text that
-- comes in pieces is read as if it were there as a whole: each piece goes on where those before it ended.
use Rattle.std.specs.Prelude.{ℕ, zero, suc, ◌+◌, if◌then◌else◌, ℤ, pos, List, [], ◌∷◌, ◌++◌, length, Option, Some, None}
use Rattle.std.specs.Str.{bytes_eq}
use Rattle.texts.specs.Lines.{behind_lines, lines_of}
use Rattle.certificate_model.specs.Nodes as model
use Rattle.certificate_model.specs.Text.{bound_in, end_line, head_line, node_in}
use Rattle.cert_format.specs.Fronts.{awaited_behind}
use Rattle.cert_format.specs.declared.next.Next.{Next}
use Rattle.cert_format.specs.declared.next.Next.TheVariants.{Head, Bound, Subtrees, Nothing, BadForm, Tail}

-- the bound and the nodes that lines name, and what has to come behind them; 0 where no line has named the bound
pub record Progress : Type 0 where
  pub bound : ℤ
  pub nodes : List model.Node
  pub next : Next

-- before the first line
abbrev pub at_first : Progress
at_first = record { bound = pos 0; nodes = []; next = Head }

-- the line with a number breaks the form
abbrev pub at_break : ℕ → Progress → Progress
at_break number progress = record progress { next = BadForm number }

-- something stands behind the line `end`, as the line with a number
abbrev pub at_tail : ℕ → Progress → Progress
at_tail number progress = record progress { next = Tail number }

-- behind a line where the bound has to be
abbrev pub with_bound_in : ℕ → Progress → Option ℤ → Progress
with_bound_in number progress None = at_break number progress
with_bound_in number progress (Some bound) = record { bound = bound; nodes = progress.nodes; next = Subtrees 1 }

-- behind a line where a node has to be, with so many subtrees to come besides its own
abbrev pub with_node_in : ℕ → ℕ → Progress → Option model.Node → Progress
with_node_in number others progress None = at_break number progress
with_node_in number others progress (Some node) = record { bound = progress.bound; nodes = progress.nodes ++ node ∷ []; next = Subtrees (awaited_behind node others) }

-- behind a line, where this has to come
abbrev pub after_next : Next → ℕ → Progress → List ℕ → Progress
after_next Head number progress line = if bytes_eq line head_line then record progress { next = Bound } else at_break number progress
after_next Bound number progress line = with_bound_in number progress (bound_in line)
after_next (Subtrees zero) number progress line = if bytes_eq line end_line then record progress { next = Nothing } else at_break number progress
after_next (Subtrees (suc others)) number progress line = with_node_in number others progress (node_in line)
after_next Nothing number progress line = at_tail number progress
after_next _ number progress line = progress

-- behind a line, which has a number
abbrev pub after_line : ℕ → Progress → List ℕ → Progress
after_line number progress line = after_next progress.next number progress line

-- behind some lines, of which the first has a number
abbrev pub after_lines : ℕ → Progress → List (List ℕ) → Progress
after_lines number progress [] = progress
after_lines number progress (line ∷ lines) = after_lines (number + 1) (after_line number progress line) lines

-- what has to come behind bytes that no line feed follows, where this has to come: they count where nothing may come
abbrev pub next_with : Next → ℕ → List ℕ → Next
next_with Nothing number (byte ∷ bytes) = Tail number
next_with next number bytes = next

-- behind bytes that no line feed follows, of a line with a number
abbrev pub after_bytes : ℕ → Progress → List ℕ → Progress
after_bytes number progress bytes = record progress { next = next_with progress.next number bytes }

-- what a text says, and what has to come behind it
unfoldable pub progress_of : List ℕ → Progress
progress_of text = after_bytes (length (lines_of text) + 1) (after_lines 1 at_first (lines_of text)) (behind_lines text)
