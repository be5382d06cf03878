-- Rows that are added one after another are added as one list, and there is room for each part where there is room for all.
use Rattle.std.proofs.Common.{◌≡◌, inl, inr, ℕ, zero, suc, ◌+◌, ◌<◌, ◌≤◌, List, [], ◌∷◌, ◌++◌, length, map, All, take, drop, get_or, take-append-drop, add-one, refl, ap, ◌∙◌, sym, subst, append_assoc, arith}
use Rattle.std.specs.Prelude.{ℤ, pos, ◌-ℤ◌, Bool}
use Rattle.std.proofs.lemmas.Bool.{cases_eq}
use Rattle.std.proofs.lemmas.List.{append-nil, length-append, length-map, map-append}
use Rattle.std.proofs.Math.Seq.{drop-cons}
use Rattle.std.proofs.lemmas.List.Elements.{All-cons, All-nil}
use Rattle.listed.specs.Below.{join_below}
use Rattle.listed.proofs.JoinLaws.{join_below-suc, join_below-zero}
use Rattle.ct_base.specs.declared.net.Net.{Net}
use Rattle.sparse_program.specs.Program.{Begun, IsRow, row_from}
use Rattle.sparse_program.specs.Terms.{IsSmall, rising, weight}
use Rattle.sparse_program.specs.declared.limits.TheConstants.{MAX_NUMBER, MAX_ROWS, MAX_TERMS}
use Rattle.sparse_program.proofs.BuildLaws.{IsRow-row_from}
use Rattle.sparse_program.proofs.LawfulTerms.{AreTerms-rising, length-rising}
use Rattle.std.proofs.lemmas.Int.{ints}
use Rattle.sparse_program.specs.declared.row.Row.{Row}
use Rattle.program_model.specs.Columns.{Column, Flow, columns}
use Rattle.program_model.specs.Existence.{IsColumn}
use Rattle.program_model.specs.Numbers.{number_of}
use Rattle.program_model.specs.Rows.{SumRow}
use Rattle.program_model.specs.Sparse.{by_number, sparse}
use Rattle.program_model.proofs.ColumnLaws.{Each}
use Rattle.program_model.proofs.RowColumns.{RowNames}
use Rattle.program_model.proofs.PlaceLaws.{column_stands}
use Rattle.lo_program.specs.inner.Adding.{Adds, Below, Fits, RowBelow}

-- the builder with more rows
abbrev with_rows : Begun → List Row → Begun
with_rows program more = record program { rows = program.rows ++ more }

-- no row
pub adds_none : (net : Net) (program : Begun) → Adds net program program []
adds_none net program = record { all = ap (λ (rows : List Row). record program { rows = rows }) (sym (append-nil program.rows)) }

-- rows, and then more
pub adds_both : (net : Net) (a b c : Begun) (xs ys : List (SumRow Column)) → Adds net a b xs → Adds net b c ys → Adds net a c (xs ++ ys)
adds_both net a b c xs ys first second =
    let mapped : map (sparse (number_of net)) (xs ++ ys) ≡ map (sparse (number_of net)) xs ++ map (sparse (number_of net)) ys = map-append (sparse (number_of net)) xs ys in
    record {
      all = second.all ∙ ap (λ (program : Begun). with_rows program (map (sparse (number_of net)) ys)) first.all
          ∙ ap (λ (rows : List Row). record a { rows = rows })
          (append_assoc a.rows (map (sparse (number_of net)) xs) (map (sparse (number_of net)) ys) ∙ ap (λ (rows : List Row). a.rows ++ rows) (sym mapped));
    }

-- the rows of one part more
pub adds_part : (net : Net) (a b c : Begun) (k : ℕ) (parts : ℕ → List (SumRow Column)) → Adds net a b (join_below k parts) → Adds net b c (parts k) → Adds net a c (join_below (k + 1) parts)
adds_part net a b c k parts first second = rw (join_below-suc k parts) (adds_both net a b c (join_below k parts) (parts k) first second)

-- the rows of no part
pub adds_no_part : (net : Net) (program : Begun) (parts : ℕ → List (SumRow Column)) → Adds net program program (join_below 0 parts)
adds_no_part net program parts = rw (join_below-zero parts) (adds_none net program)

-- ---- room

-- what holds of each of two lists' elements holds of those of either
each_first : {X : Type 0} (P : X → Type 0) (xs ys : List X) → Each P (xs ++ ys) → Each P xs
each_first P [] ys each = tt
each_first P (x ∷ xs) ys each = (each.0, each_first P xs ys each.1)

each_second : {X : Type 0} (P : X → Type 0) (xs ys : List X) → Each P (xs ++ ys) → Each P ys
each_second P [] ys each = each
each_second P (x ∷ xs) ys each = each_second P xs ys each.1

-- the first of two lists of rows
pub fits_first : (net : Net) (a : Begun) (xs ys : List (SumRow Column)) → Fits net a (xs ++ ys) → Fits net a xs
fits_first net a xs ys fits = record {
  few = omega (arith, fits.few, length-append xs ys);
  there = each_first (RowBelow net (length a.columns)) xs ys fits.there;
}

-- as many rows as are mapped
length_held : (net : Net) (xs : List (SumRow Column)) → length (map (sparse (number_of net)) xs) ≡ length xs
length_held net xs = length-map xs (sparse (number_of net))

-- rows bring no column
pub same_columns : (net : Net) (a b : Begun) (xs : List (SumRow Column)) → Adds net a b xs → length b.columns ≡ length a.columns
same_columns net a b xs added = ap (λ (program : Begun). length program.columns) added.all

-- the second, behind the first
pub fits_second : (net : Net) (a b : Begun) (xs ys : List (SumRow Column)) → Fits net a (xs ++ ys) → Adds net a b xs → Fits net b ys
fits_second net a b xs ys fits added =
    let rows : length b.rows ≡ length (a.rows ++ map (sparse (number_of net)) xs) = ap (λ (program : Begun). length program.rows) added.all in
    record {
      few = omega (arith, fits.few, length-append xs ys, rows, length-append a.rows (map (sparse (number_of net)) xs), length_held net xs);
      there = subst (λ (n : ℕ). Each (RowBelow net n) ys) (sym (same_columns net a b xs added)) (each_second (RowBelow net (length a.columns)) xs ys fits.there);
    }

-- one part, behind those before it
pub fits_part : (net : Net) (a b : Begun) (n k : ℕ) (parts : ℕ → List (SumRow Column)) → Fits net a (join_below n parts) → k < n → Adds net a b (join_below k parts) → Fits net b (parts k)
unfolding join_below
fits_part net a b zero k parts fits inside added = absurd (omega (arith, inside))
fits_part net a b (suc n) k parts fits inside added =
    elim (cases_eq k n) [
      | inl same ↦ subst (λ m. Fits net b (parts m)) (sym same) (fits_second net a b (join_below n parts) (parts n) fits (subst (λ m. Adds net a b (join_below m parts)) same added))
      | inr other ↦ fits_part net a b n k parts (fits_first net a (join_below n parts) (parts n) fits) (omega (arith, inside, other)) added
    ]

-- ---- one row

-- terms of columns of the network name the first columns, where these are all
pub names_below : (net : Net) (count : ℕ) (terms : List (Column × ℤ)) → count ≡ length (columns net) → Each (λ (term : Column × ℤ). IsColumn net term.0) terms → Below net count terms
names_below net count [] all each = tt
names_below net count (term ∷ terms) all each = (omega (arith, all, (column_stands net term.0 (Flow 0 0) each.0).0), names_below net count terms all each.1)

-- and so do rows
pub rows_below : (net : Net) (count : ℕ) (rows : List (SumRow Column)) → count ≡ length (columns net) → Each (RowNames net) rows → Each (RowBelow net count) rows
rows_below net count [] all each = tt
rows_below net count (row ∷ rows) all each = (names_below net count row.sum.terms all each.0, rows_below net count rows all each.1)

-- the numbers of terms that name the first columns
pub below_there : (net : Net) (count : ℕ) (terms : List (Column × ℤ)) → Below net count terms → All (λ (term : ℕ × ℤ). term.0 < count) (by_number (number_of net) terms)
below_there net count [] each = All-nil (λ (term : ℕ × ℤ). term.0 < count)
below_there net count (term ∷ terms) each =
    All-cons (λ (other : ℕ × ℤ). other.0 < count) (number_of net term.0, term.1) (by_number (number_of net) terms) each.0 (below_there net count terms each.1)

-- the numbers of a row's columns are those of columns that are there
pub columns_there : (net : Net) (count : ℕ) (terms : List (Column × ℤ)) → count ≡ length (columns net) → Each (λ (term : Column × ℤ). IsColumn net term.0) terms →
    All (λ (term : ℕ × ℤ). term.0 < count) (by_number (number_of net) terms)
columns_there net count terms all each = below_there net count terms (names_below net count terms all each)

-- the row of such terms is lawful
pub is_row : (count : ℕ) (equal : Bool) (rhs : ℤ) (terms : List (ℕ × ℤ)) → All (λ (term : ℕ × ℤ). term.0 < count) terms → weight terms ≤ MAX_NUMBER → length terms ≤ MAX_TERMS → IsSmall rhs →
    IsRow count (row_from equal rhs (record { constant = pos 0; terms = rising terms }))
is_row count equal rhs terms there light few small =
    let none : rhs -ℤ pos 0 ≡ rhs = omega (arith, ints) in
    IsRow-row_from count equal rhs (record { constant = pos 0; terms = rising terms }) (AreTerms-rising count terms there light) (omega (arith, few, length-rising terms)) (rw none small)

-- where one row was added, it was that row of what columns count
pub adds_row : (net : Net) (old new : Begun) (row : SumRow Column) (equal : Bool) (rhs : ℤ) (terms : List (ℕ × ℤ)) → row.equal ≡ equal → row.rhs ≡ rhs → row.sum.constant ≡ pos 0 →
    by_number (number_of net) row.sum.terms ≡ terms → new ≡ record old { rows = old.rows ++ row_from equal rhs (record { constant = pos 0; terms = rising terms }) ∷ [] } → Adds net old new (row ∷ [])
adds_row net old new row equal rhs terms same_equal same_rhs no_constant same_terms is =
    let held : sparse (number_of net) row ≡ row_from equal rhs (record { constant = pos 0; terms = rising terms }) = rw (← same_equal, ← same_rhs, ← same_terms, no_constant) refl in
    record { all = is ∙ ap (λ (one : Row). record old { rows = old.rows ++ one ∷ [] }) (sym held) }

-- a row that fits names columns that are there, by the numbers of its terms
pub row_there : (net : Net) (program : Begun) (row : SumRow Column) (terms : List (ℕ × ℤ)) → Fits net program (row ∷ []) → by_number (number_of net) row.sum.terms ≡ terms →
    All (λ (term : ℕ × ℤ). term.0 < length program.columns) terms
row_there net program row terms fits same =
    subst (λ (others : List (ℕ × ℤ)). All (λ (term : ℕ × ℤ). term.0 < length program.columns) others) same
    (below_there net (length program.columns) row.sum.terms fits.there.0)

-- there is room for a row that fits
pub row_room : (net : Net) (program : Begun) (row : SumRow Column) → Fits net program (row ∷ []) → length program.rows < MAX_ROWS
row_room net program row fits = omega (arith, fits.few)

-- a list around one of its elements
around : {X : Type 0} (xs : List X) (k : ℕ) (d : X) → k < length xs → xs ≡ take k xs ++ get_or xs k d ∷ drop (k + 1) xs
around {X} xs k d inside = rw add-one (sym (take-append-drop k xs) ∙ ap (λ (rest : List X). take k xs ++ rest) (drop-cons xs k d inside))

-- the rows around that of one of them
pub mapped_around : {X : Type 0} (f : X → SumRow Column) (xs : List X) (k : ℕ) (d : X) → k < length xs → map f xs ≡ map f (take k xs) ++ f (get_or xs k d) ∷ map f (drop (k + 1) xs)
mapped_around f xs k d inside = ap (map f) (around xs k d inside) ∙ map-append f (take k xs) (get_or xs k d ∷ drop (k + 1) xs)

-- the row of one element, behind those of the elements before it
pub fits_mapped : {X : Type 0} (net : Net) (a b : Begun) (f : X → SumRow Column) (xs : List X) (k : ℕ) (d : X) → Fits net a (map f xs) → k < length xs → Adds net a b (map f (take k xs)) → Fits net b (f (get_or xs k d) ∷ [])
fits_mapped net a b f xs k d fits inside added =
    let behind : Fits net b (f (get_or xs k d) ∷ map f (drop (k + 1) xs)) =
    fits_second net a b (map f (take k xs)) (f (get_or xs k d) ∷ map f (drop (k + 1) xs)) (subst (λ (rows : List (SumRow Column)). Fits net a rows) (mapped_around f xs k d inside) fits) added in
    record { few = omega (arith, behind.few); there = (behind.there.0, tt) }
