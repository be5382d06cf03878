-- What is built of a program stays within the limits as a column or a row is added.
use Rattle.std.proofs.Common.{◌≡◌, ℕ, zero, suc, ◌+◌, ◌<◌, ◌≤◌, List, [], ◌∷◌, ◌++◌, length, get_or, map, All, Bool, true, false, refl, sym, ◌∙◌, arith}
use Rattle.std.specs.Prelude.{ℤ, ◌-ℤ◌, ◌↔◌}
use Rattle.std.proofs.lemmas.Int.{ints}
use Rattle.std.proofs.lemmas.List.{length_push, length-map}
use Rattle.std.proofs.lemmas.List.Elements.{All-push, All-weaker}
use Rattle.sparse_program.specs.Terms.{IsSmall, AreTerms, terms_sum, nonzero}
use Rattle.sparse_program.specs.Box.{IsBox, low_of, high_of, ranges_of}
use Rattle.sparse_program.specs.Program.{IsCol, IsRow, AreBuilt, no_col, col_of, row_from, linear_value, Reaches, Holds}
use Rattle.sparse_program.specs.declared.limits.TheConstants.{MAX_ROWS, MAX_COLUMNS, MAX_TERMS}
use Rattle.sparse_program.specs.declared.column.Col.{Col}
use Rattle.sparse_program.specs.declared.row.Row.{Row}
use Rattle.sparse_program.specs.declared.row.Linear.{Linear}
use Rattle.sparse_program.proofs.TermLaws.{terms_sum-nonzero}
use Rattle.sparse_program.proofs.LawfulTerms.{AreTerms-nonzero, length-nonzero}

-- terms below a count are below a greater one
pub AreTerms-more : (m n : ℕ) (terms : List (ℕ × ℤ)) → m ≤ n → AreTerms m terms → AreTerms n terms
AreTerms-more m n terms le are = record {
  rises = are.rises;
  there = All-weaker (λ (term : ℕ × ℤ). term.0 < m) (λ (term : ℕ × ℤ). term.0 < n) (λ term below. omega arith) terms are.there;
  small = are.small;
}

-- a row of some columns is a row of more
pub IsRow-more : (m n : ℕ) (row : Row) → m ≤ n → IsRow m row → IsRow n row
IsRow-more m n row le is = record { terms = AreTerms-more m n row.terms le is.terms; few = is.few; rhs = is.rhs }

-- a column more
pub AreBuilt-col : (columns : List Col) (rows : List Row) (col : Col) → AreBuilt columns rows → IsCol col → length columns < MAX_COLUMNS → AreBuilt (columns ++ col ∷ []) rows
AreBuilt-col columns rows col built is room =
    let long : length (columns ++ col ∷ []) ≡ length columns + 1 = length_push columns col in
    record {
      few_columns = omega arith;
      few_rows = built.few_rows;
      each_column = All-push IsCol columns col built.each_column is;
      each_row = All-weaker (IsRow (length columns)) (IsRow (length (columns ++ col ∷ []))) (λ row lawful. IsRow-more (length columns) (length (columns ++ col ∷ [])) row (omega arith) lawful) rows built.each_row;
    }

-- a row more
pub AreBuilt-row : (columns : List Col) (rows : List Row) (row : Row) → AreBuilt columns rows → IsRow (length columns) row → length rows < MAX_ROWS → AreBuilt columns (rows ++ row ∷ [])
AreBuilt-row columns rows row built is room =
    let long : length (rows ++ row ∷ []) ≡ length rows + 1 = length_push rows row in
    record {
      few_columns = built.few_columns;
      few_rows = omega arith;
      each_column = built.each_column;
      each_row = All-push (IsRow (length columns)) rows row built.each_row is;
    }

-- a field of an element, at the element that stands for one that is not there
get_or-map : {X Y : Type 0} (f : X → Y) (xs : List X) (i : ℕ) (d : X) → get_or (map f xs) i (f d) ≡ f (get_or xs i d)
get_or-map f [] i d = refl
get_or-map f (x ∷ xs) zero d = refl
get_or-map f (x ∷ xs) (suc i) d = get_or-map f xs i d

-- the bounds of a program's columns are a box
pub IsBox-ranges_of : (columns : List Col) → length columns ≤ MAX_COLUMNS → All IsCol columns → IsBox (ranges_of columns)
IsBox-ranges_of columns few each =
    let many : length (map (λ (col : Col). col.low) columns) ≡ length columns = length-map columns (λ (col : Col). col.low) in
    record {
      same = length-map columns (λ (col : Col). col.high) ∙ sym many;
      few = omega arith;
      each = λ j below.
          let col : IsCol (col_of columns j) = each j no_col (omega arith) in
          let low : low_of (ranges_of columns) j ≡ (col_of columns j).low = get_or-map (λ (col : Col). col.low) columns j no_col in
          let high : high_of (ranges_of columns) j ≡ (col_of columns j).high = get_or-map (λ (col : Col). col.high) columns j no_col in
          record { bounds = rw (low, high) col.bounds; low = rw low col.low; high = rw high col.high };
    }

-- a row that is made of an expression holds exactly where the expression reaches the number
pub row_says : (equal : Bool) (rhs : ℤ) (of : Linear) (x : ℕ → ℤ) → Holds (row_from equal rhs of) x ↔ Reaches equal rhs (linear_value of x)
row_says true rhs of x = let same : terms_sum (nonzero of.terms) x ≡ terms_sum of.terms x = terms_sum-nonzero of.terms x in (λ holds. omega (arith, ints), λ reaches. omega (arith, ints))
row_says false rhs of x = let same : terms_sum (nonzero of.terms) x ≡ terms_sum of.terms x = terms_sum-nonzero of.terms x in (λ holds. omega (arith, ints), λ reaches. omega (arith, ints))

-- a row that is made of lawful terms is lawful
pub IsRow-row_from : (columns : ℕ) (equal : Bool) (rhs : ℤ) (of : Linear) → AreTerms columns of.terms → length of.terms ≤ MAX_TERMS → IsSmall (rhs -ℤ of.constant) → IsRow columns (row_from equal rhs of)
IsRow-row_from columns equal rhs of are few small =
    let fewer : length (nonzero of.terms) ≤ length of.terms = length-nonzero of.terms in
    record { terms = AreTerms-nonzero columns of.terms are; few = omega arith; rhs = small }
