-- What the layout of a network answers.
use Rattle.std.proofs.Common.{◌≡◌, ℕ, ◌+◌, ◌<◌, Bool, false, List, [], ◌∷◌, ◌++◌, length, map, get_or, refl, ◌∙◌, arith}
use Rattle.std.specs.Prelude.{◌==◌}
use Rattle.std.specs.List.{list_any}
use Rattle.listed.specs.Below.{table_of}
use Rattle.listed.proofs.TableLaws.{get_or-table_of, length-table_of, table_of-suc}
use Rattle.ct_base.specs.declared.net.Net.{Net}
use Rattle.program_model.specs.Columns.{has_room}
use Rattle.program_model.specs.Numbers.{bits_before, cells_before}
use Rattle.program_layout.specs.Layout.{IsLayout}
use Rattle.program_layout.specs.declared.layout.Layout.{Layout}

-- an element of a table that has another name
pub from_table : {X : Type 0} (xs : List X) (n : ℕ) (f : ℕ → X) (i : ℕ) (d : X) → xs ≡ table_of n f → i < n → (i < length xs) × (get_or xs i d ≡ f i)
from_table xs n f i d is inside =
    rw is (omega (arith, inside, length-table_of n f), get_or-table_of n f i d inside)

-- one element more
pub table_more : {X : Type 0} (n : ℕ) (f : ℕ → X) (xs : List X) (x : X) → xs ≡ table_of n f → x ≡ f n → xs ++ x ∷ [] ≡ table_of (n + 1) f
table_more n f xs x before here = rw (table_of-suc, before, here) refl

-- the bits of a step before those of signal s
pub bits_kept : (net : Net) (layout : Layout) (bits : List ℕ) (s : ℕ) → IsLayout net layout → bits ≡ layout.bits_before → s < length net.signals →
    (s < length bits) × (get_or bits s 0 ≡ bits_before net.signals s)
bits_kept net layout bits s is same inside = from_table bits (length net.signals) (bits_before net.signals) s 0 (same ∙ is.bits_before) inside

-- the columns of a step before those of cell i
pub cells_kept : (net : Net) (layout : Layout) (cells : List ℕ) (i : ℕ) → IsLayout net layout → cells ≡ layout.cells_before → i < length net.cells →
    (i < length cells) × (get_or cells i 0 ≡ cells_before net.cells i)
cells_kept net layout cells i is same inside = from_table cells (length net.cells) (cells_before net.cells) i 0 (same ∙ is.cells_before) inside

-- whether the room of cell i is a column
pub rooms_kept : (net : Net) (layout : Layout) (rooms : List Bool) (i : ℕ) → IsLayout net layout → rooms ≡ layout.rooms → i < length net.cells →
    (i < length rooms) × (get_or rooms i false ≡ has_room net.cells i)
rooms_kept net layout rooms i is same inside = from_table rooms (length net.cells) (has_room net.cells) i false (same ∙ is.rooms) inside

-- some branch leads into cell i: by its target, or by the targets of all
pub branch_into : (i : ℕ) (branches : List (ℕ × ℕ)) → list_any (λ (branch : ℕ × ℕ). branch.0 == i) branches ≡ list_any (λ target. target == i) (map (λ (branch : ℕ × ℕ). branch.0) branches)
branch_into i [] = refl
branch_into i (branch ∷ branches) = rw (branch_into i branches) refl
