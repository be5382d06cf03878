-- The terms of the rows of how long letters last.
use Rattle.std.proofs.Common.{◌≡◌, ℕ, zero, suc, ◌+◌, List, [], ◌∷◌, ◌++◌, refl, ap, ◌∙◌, sym, arith}
use Rattle.std.specs.Prelude.{ℤ, pos, neg_ℤ}
use Rattle.listed.specs.Below.{table_of}
use Rattle.ct_base.specs.declared.net.Net.{Net}
use Rattle.ct_base.specs.declared.plan.Letter.{Letter}
use Rattle.sparse_program.specs.Terms.{weight}
use Rattle.program_model.specs.Columns.{Bit, Column}
use Rattle.program_model.specs.Numbers.{number_of}
use Rattle.program_model.specs.Rows.{times, total}
use Rattle.program_model.specs.RuleRows.{letter_before, stay_row}
use Rattle.program_model.specs.Sparse.{by_number}
use Rattle.lo_program.proofs.Inserting.{weight_both}

-- the terms of a letter that stays, pushed one after another
pub stay_terms : (net : Net) (s t k : ℕ) (letter : Letter) (none one two all : List (ℕ × ℤ)) → none ≡ [] → one ≡ none ++ (number_of net (Bit (t + k) s letter), pos 1) ∷ [] →
    two ≡ one ++ (number_of net (Bit t s letter), neg_ℤ (pos 1)) ∷ [] → all ≡ two ++ by_number (number_of net) (letter_before s t letter).terms →
    by_number (number_of net) (stay_row s t letter k).sum.terms ≡ all
stay_terms net s t k letter none one two all is_none is_one is_two is_all = sym (rw (is_all, is_two, is_one, is_none) refl)

-- columns by their numbers, each with the coefficient -1
abbrev pub taken : Net → List Column → List (ℕ × ℤ)
taken net columns = by_number (number_of net) (times (neg_ℤ (pos 1)) (total columns)).terms

taken-push : (net : Net) (columns : List Column) (last : Column) → taken net (columns ++ last ∷ []) ≡ taken net columns ++ (number_of net last, neg_ℤ (pos 1)) ∷ []
taken-push net [] last = refl
taken-push net (column ∷ columns) last = ap (λ (terms : List (ℕ × ℤ)). (number_of net column, neg_ℤ (pos 1)) ∷ terms) (taken-push net columns last)

-- those of a table are a table
pub taken-table : (net : Net) (n : ℕ) (f : ℕ → Column) → taken net (table_of n f) ≡ table_of n (λ k. (number_of net (f k), neg_ℤ (pos 1)))
unfolding table_of
taken-table net zero f = refl
taken-table net (suc n) f =
    taken-push net (table_of n f) (f n) ∙ ap (λ (terms : List (ℕ × ℤ)). terms ++ (number_of net (f n), neg_ℤ (pos 1)) ∷ []) (taken-table net n f)

-- which weighs as much as it has elements
pub weight-table : (n : ℕ) (f : ℕ → ℕ) → weight (table_of n (λ k. (f k, neg_ℤ (pos 1)))) ≡ n
unfolding table_of
weight-table zero f = refl
weight-table (suc n) f = omega (arith, weight_both (table_of n (λ k. (f k, neg_ℤ (pos 1)))) ((f n, neg_ℤ (pos 1)) ∷ []), weight-table n f)
