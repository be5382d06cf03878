-- Rows that do not name a column have no coefficient there.
use Rattle.std.proofs.Common.{◌≡◌, ◌≢◌, ◌⊎◌, inl, inr, ℕ, suc, ◌<◌, Bool, true, false, List, [], ◌∷◌, length, get_or, cond, Contains, refl, ap, ◌∙◌, subst, arith}
use Rattle.std.specs.Prelude.{ℤ, pos}
use Rattle.std.proofs.lemmas.Bool.{cases_eq, cases_lt, ne_eqb}
use Rattle.std.proofs.lemmas.Int.{ints}
use Rattle.std.proofs.lemmas.List.{get_or_default, get_or_past}
use Rattle.std.proofs.lemmas.List.Elements.{Contains-get_or}
use Rattle.sparse_program.specs.Program.{column_of, entry, terms_of}
use Rattle.sparse_program.specs.Terms.{coefficient, names}
use Rattle.sparse_program.specs.declared.row.Row.{Row}
use Rattle.sparse_program.proofs.MatrixLaws.{one_matrix}
use Rattle.sparse_program.proofs.TermLaws.{coefficient-none}
use Rattle.dual_prices.specs.inner.Waiting.{waits}

-- a row that does not wait is there
pub waits_there : (waiting : List Bool) (i : ℕ) → waits waiting i ≡ false → i < length waiting
waits_there waiting i calm =
    elim (cases_lt i (length waiting)) [
      | inl below ↦ below
      | inr past ↦ let is : waits waiting i ≡ true = get_or_past waiting i true past in absurd (cc (is, calm))
    ]

-- what follows at each number that terms name follows, unless they have no coefficient there
pub named_or_none : {X : Type 0} (terms : List (ℕ × ℤ)) (j : ℕ) → ((k : ℕ) → k < length terms → (get_or terms k (0, pos 0)).0 ≡ j → X) → (coefficient terms j ≡ pos 0) ⊎ X
named_or_none [] j named = inl refl
named_or_none (t ∷ terms) j named =
    elim (cases_eq t.0 j) [
      | inl same ↦ inr (named 0 (omega arith) same)
      | inr apart ↦
          elim (named_or_none terms j (λ k below is. named (suc k) (omega arith) is)) [
            | inl none ↦
                let here : cond (names j t) t.1 (pos 0) ≡ pos 0 = ap (λ b. cond b t.1 (pos 0)) (ne_eqb t.0 j apart) in
                inl (omega (arith, ints, here, none))
            | inr follows ↦ inr follows
          ]
    ]

-- a row that a column does not name has no coefficient there
pub entry-unnamed : (rows : List Row) (i j : ℕ) → ((k : ℕ) → k < length (column_of rows j) → (get_or (column_of rows j) k (0, pos 0)).0 ≢ i) → i < length rows → entry rows i j ≡ pos 0
entry-unnamed rows i j unnamed within =
    coefficient-none (terms_of rows i) j
    (λ k d below same.
    let c : ℤ = (get_or (terms_of rows i) k d).1 in
    let there : Contains (terms_of rows i) (j, c) = subst (λ (t : ℕ × ℤ). Contains (terms_of rows i) t) (ap (λ (z : ℕ). (z, c)) same) (Contains-get_or (terms_of rows i) k d below) in
    let found : Contains (column_of rows j) (i, c) = (one_matrix rows i j c).1 (within, there) in
    unnamed found.0 found.1 (ap (λ (t : ℕ × ℤ). t.0) (get_or_default (column_of rows j) found.0 (0, pos 0) (i, c) found.1 ∙ found.2)))
