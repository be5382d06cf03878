-- The terms of a move by the numbers of their columns, as the code makes them, and the bits of its gate.
use Rattle.std.specs.Prelude.{ℕ, ◌/◌, nat_lt, if◌then◌else◌, pos, List, [], ◌∷◌, map, filter, Option, Some, None}
use Rattle.ct_base.specs.Access.{cell_of, signal_of}
use Rattle.ct_base.specs.declared.cell.Gate.{Gate}
use Rattle.ct_base.specs.declared.net.Net.{Net}
use Rattle.ct_base.specs.declared.plan.Letter.{Letter}
use Rattle.traffic_model.specs.Flow.{is_green_among}
use Rattle.program_model.specs.Columns.{Bit, Column, letters_of}
use Rattle.program_model.specs.FlowRows.{room, room_most}
use Rattle.program_model.specs.Numbers.{number_of}
use Rattle.program_model.specs.Sparse.{by_number}
use Rattle.program_model.specs.SwitchRows as model
use Rattle.program_model.specs.Values.{most_room}
use Rattle.flow_switches.specs.declared.term.Term.{Term}

-- a term by the numbers of its columns
abbrev pub term_by_number : Net → model.Term Column → Term
term_by_number net term = record { of = record { constant = term.of.constant; terms = by_number (number_of net) term.of.terms }; most = pos term.most }

-- the term of the column with a number
abbrev pub column_term : ℕ → ℕ → Term
column_term column most = record { of = record { constant = pos 0; terms = (column, pos 1) ∷ [] }; most = pos most }

-- the term of what cell b has room for
abbrev pub room_term : Net → ℕ → ℕ → Term
room_term net t b = term_by_number net (record { of = room net.cells t b; most = room_most net.cells t b })

-- the term of a branch, whose columns begin with a number where it has any
abbrev pub branch_by_number : Net → ℕ → ℕ → ℕ × ℕ → Term
branch_by_number net t column branch = if nat_lt 1 branch.1 then column_term column (most_room (cell_of net.cells branch.0) / branch.1) else room_term net t branch.0

-- the bits at step t of those letters of a signal that are greens of a set
abbrev pub green_bits : Net → ℕ → ℕ → ℕ → List ℕ
green_bits net t signal greens = map (λ (letter : Letter). number_of net (Bit t signal letter)) (filter (is_green_among greens) (letters_of (signal_of net.signals signal)))

-- the bits of a gate, if there is one
abbrev pub gate_bits : Net → ℕ → Option Gate → Option (List ℕ)
gate_bits net t None = None
gate_bits net t (Some gate) = Some (green_bits net t gate.signal gate.greens)
