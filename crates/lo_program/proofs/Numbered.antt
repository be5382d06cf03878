-- The rows of floors and of moves by the numbers of their columns are the rows over those numbers.
use Rattle.std.proofs.Common.{◌≡◌, ℕ, zero, suc, ◌+◌, ◌-◌, List, [], ◌∷◌, ◌++◌, length, map, refl, ap, ◌∙◌, sym, true, false}
use Rattle.std.specs.Prelude.{ℤ, pos, neg_ℤ, ◌*ℤ◌}
use Rattle.std.proofs.lemmas.List.{length-map, map-append}
use Rattle.listed.specs.Below.{table_of}
use Rattle.sparse_program.specs.declared.row.Row.{Row}
use Rattle.program_model.specs.Rows.{Sum, SumRow, column, minus, once, plus, times, total}
use Rattle.program_model.specs.Sparse.{by_number, sparse}
use Rattle.program_model.specs.SwitchRows.{Term, floor_row, least_rows, lower_row, lower_rows, one_switch_row, upper_row, upper_rows}

-- ---- sums

-- a sum by the numbers of its columns
abbrev pub numbered : {C : Type 0} → (C → ℕ) → Sum C → Sum ℕ
numbered n sum = record { constant = sum.constant; terms = by_number n sum.terms }

abbrev pub numbered_term : {C : Type 0} → (C → ℕ) → Term C → Term ℕ
numbered_term n term = record { of = numbered n term.of; most = term.most }

-- a row by the numbers of its columns
abbrev pub numbered_row : {C : Type 0} → (C → ℕ) → SumRow C → SumRow ℕ
numbered_row n row = record { equal = row.equal; rhs = row.rhs; sum = numbered n row.sum }

same_number : (terms : List (ℕ × ℤ)) → by_number (λ (c : ℕ). c) terms ≡ terms
same_number [] = refl
same_number (term ∷ terms) = ap (λ (others : List (ℕ × ℤ)). term ∷ others) (same_number terms)

-- the program holds the same
pub sparse-numbered : {C : Type 0} (n : C → ℕ) (row : SumRow C) → sparse (λ (c : ℕ). c) (numbered_row n row) ≡ sparse n row
sparse-numbered n row = rw (same_number (by_number n row.sum.terms)) refl

times_terms : {C : Type 0} (n : C → ℕ) (k : ℤ) (terms : List (C × ℤ)) →
    by_number n (map (λ (term : C × ℤ). (term.0, k *ℤ term.1)) terms) ≡ map (λ (term : ℕ × ℤ). (term.0, k *ℤ term.1)) (by_number n terms)
times_terms n k [] = refl
times_terms n k (term ∷ terms) = ap (λ (others : List (ℕ × ℤ)). (n term.0, k *ℤ term.1) ∷ others) (times_terms n k terms)

pub numbered-plus : {C : Type 0} (n : C → ℕ) (a b : Sum C) → numbered n (plus a b) ≡ plus (numbered n a) (numbered n b)
numbered-plus {C} n a b =
    let parts : by_number n (a.terms ++ b.terms) ≡ by_number n a.terms ++ by_number n b.terms = map-append {B = ℕ × ℤ} (λ (term : C × ℤ). (n term.0, term.1)) a.terms b.terms in
    rw parts refl

pub numbered-times : {C : Type 0} (n : C → ℕ) (k : ℤ) (a : Sum C) → numbered n (times k a) ≡ times k (numbered n a)
numbered-times n k a = rw (times_terms n k a.terms) refl

pub numbered-minus : {C : Type 0} (n : C → ℕ) (a b : Sum C) → numbered n (minus a b) ≡ minus (numbered n a) (numbered n b)
numbered-minus n a b = numbered-plus n a (times (neg_ℤ (pos 1)) b) ∙ ap (plus (numbered n a)) (numbered-times n (neg_ℤ (pos 1)) b)

pub numbered-total : {C : Type 0} (n : C → ℕ) (columns : List C) → numbered n (total columns) ≡ total (map n columns)
numbered-total n columns = ap (λ (terms : List (ℕ × ℤ)). (let sum : Sum ℕ = record { constant = pos 0; terms = terms } in sum)) (each_once n columns)
  where
    each_once : {C : Type 0} (n : C → ℕ) (columns : List C) → by_number n (map once columns) ≡ map once (map n columns)
    each_once n [] = refl
    each_once n (c ∷ columns) = ap (λ (others : List (ℕ × ℤ)). (n c, pos 1) ∷ others) (each_once n columns)

-- ---- floors

pub numbered-floor : {C : Type 0} (n : C → ℕ) (whole rest : C) (divisor : ℕ) (of : Sum C) →
    sparse n (floor_row whole rest divisor of) ≡ sparse (λ (c : ℕ). c) (floor_row (n whole) (n rest) divisor (numbered n of))
numbered-floor n whole rest divisor of =
    let sums : numbered n (minus (plus (times (pos divisor) (column whole)) (column rest)) of) ≡ minus (plus (times (pos divisor) (column (n whole))) (column (n rest))) (numbered n of) =
    numbered-minus n (plus (times (pos divisor) (column whole)) (column rest)) of in
    sym (sparse-numbered n (floor_row whole rest divisor of))
    ∙ ap (λ (sum : Sum ℕ). sparse (λ (c : ℕ). c) (let row : SumRow ℕ = record { equal = true; rhs = pos 0; sum = sum } in row)) sums

-- ---- moves

map_table : {C : Type 0} (n : C → ℕ) (count : ℕ) (f : ℕ → C) → map n (table_of count f) ≡ table_of count (λ k. n (f k))
unfolding table_of
map_table n zero f = refl
map_table n (suc count) f = map-append n (table_of count f) (f count ∷ []) ∙ ap (λ (xs : List ℕ). xs ++ n (f count) ∷ []) (map_table n count f)

numbered-one_switch : {C : Type 0} (n : C → ℕ) (switch : ℕ → C) (count : ℕ) → sparse n (one_switch_row switch count) ≡ sparse (λ (c : ℕ). c) (one_switch_row (λ k. n (switch k)) count)
numbered-one_switch n switch count =
    sym (sparse-numbered n (one_switch_row switch count))
    ∙ ap (λ (sum : Sum ℕ). sparse (λ (c : ℕ). c) (let row : SumRow ℕ = record { equal = true; rhs = pos 1; sum = sum } in row)) (numbered-total n (table_of count switch) ∙ ap total (map_table n count switch))

numbered-lower : {C : Type 0} (n : C → ℕ) (flow : C) (switch : ℕ → C) (count m : ℕ) (of : Sum C) →
    sparse n (lower_row flow switch count m of) ≡ sparse (λ (c : ℕ). c) (lower_row (n flow) (λ k. n (switch k)) count m (numbered n of))
numbered-lower {C} n flow switch count m of =
    let later : List C = table_of (count - (m + 1)) (λ k. switch (m + 1 + k)) in
    let switches : numbered n (total later) ≡ total (table_of (count - (m + 1)) (λ k. n (switch (m + 1 + k)))) = numbered-total n later ∙ ap total (map_table n (count - (m + 1)) (λ k. switch (m + 1 + k))) in
    let sums : numbered n (minus (minus of (column flow)) (total later)) ≡ minus (minus (numbered n of) (column (n flow))) (total (table_of (count - (m + 1)) (λ k. n (switch (m + 1 + k))))) =
    numbered-minus n (minus of (column flow)) (total later) ∙ ap (λ (s : Sum ℕ). minus s (numbered n (total later))) (numbered-minus n of (column flow)) ∙ ap (minus (minus (numbered n of) (column (n flow)))) switches in
    sym (sparse-numbered n (lower_row flow switch count m of))
    ∙ ap (λ (sum : Sum ℕ). sparse (λ (c : ℕ). c) (let row : SumRow ℕ = record { equal = false; rhs = pos 0; sum = sum } in row)) sums

numbered-upper : {C : Type 0} (n : C → ℕ) (flow switch : C) (term : Term C) → sparse n (upper_row flow switch term) ≡ sparse (λ (c : ℕ). c) (upper_row (n flow) (n switch) (numbered_term n term))
numbered-upper {C} n flow switch term =
    let most : Sum C = times (pos term.most) (column switch) in
    let sums : numbered n (minus (minus (column flow) term.of) most) ≡ minus (minus (column (n flow)) (numbered n term.of)) (times (pos term.most) (column (n switch))) =
    numbered-minus n (minus (column flow) term.of) most ∙ ap (λ (s : Sum ℕ). minus s (numbered n most)) (numbered-minus n (column flow) term.of)
    ∙ ap (minus (minus (column (n flow)) (numbered n term.of))) (numbered-times n (pos term.most) (column switch)) in
    sym (sparse-numbered n (upper_row flow switch term))
    ∙ ap (λ (sum : Sum ℕ). sparse (λ (c : ℕ). c) (let row : SumRow ℕ = record { equal = false; rhs = neg_ℤ (pos term.most); sum = sum } in row)) sums

numbered-lowers : {C : Type 0} (n : C → ℕ) (flow : C) (switch : ℕ → C) (count m : ℕ) (terms : List (Term C)) →
    map (sparse n) (lower_rows flow switch count m terms) ≡ map (sparse (λ (c : ℕ). c)) (lower_rows (n flow) (λ k. n (switch k)) count m (map (numbered_term n) terms))
numbered-lowers n flow switch count m [] = refl
numbered-lowers n flow switch count m (term ∷ terms) = rw (numbered-lower n flow switch count m term.of, numbered-lowers n flow switch count (m + 1) terms) refl

numbered-uppers : {C : Type 0} (n : C → ℕ) (flow : C) (switch : ℕ → C) (m : ℕ) (terms : List (Term C)) →
    map (sparse n) (upper_rows flow switch m terms) ≡ map (sparse (λ (c : ℕ). c)) (upper_rows (n flow) (λ k. n (switch k)) m (map (numbered_term n) terms))
numbered-uppers n flow switch m [] = refl
numbered-uppers n flow switch m (term ∷ terms) = rw (numbered-upper n flow (switch m) term, numbered-uppers n flow switch (m + 1) terms) refl

-- all rows of a move
pub numbered-least : {C : Type 0} (n : C → ℕ) (flow : C) (terms : List (Term C)) (switch : ℕ → C) →
    map (sparse n) (least_rows flow terms switch) ≡ map (sparse (λ (c : ℕ). c)) (least_rows (n flow) (map (numbered_term n) terms) (λ k. n (switch k)))
unfolding least_rows
numbered-least {C} n flow terms switch =
    let count : length (map (numbered_term n) terms) ≡ length terms = length-map terms (numbered_term n) in
    let left : map (sparse n) (lower_rows flow switch (length terms) 0 terms ++ upper_rows flow switch 0 terms) ≡ map (sparse n) (lower_rows flow switch (length terms) 0 terms) ++ map (sparse n) (upper_rows flow switch 0 terms) =
    map-append {B = Row} (sparse n) (lower_rows flow switch (length terms) 0 terms) (upper_rows flow switch 0 terms) in
    let lowers : List (SumRow ℕ) = lower_rows (n flow) (λ k. n (switch k)) (length terms) 0 (map (numbered_term n) terms) in
    let uppers : List (SumRow ℕ) = upper_rows (n flow) (λ k. n (switch k)) 0 (map (numbered_term n) terms) in
    let right : map (sparse (λ (c : ℕ). c)) (lowers ++ uppers) ≡ map (sparse (λ (c : ℕ). c)) lowers ++ map (sparse (λ (c : ℕ). c)) uppers = map-append {B = Row} (sparse (λ (c : ℕ). c)) lowers uppers in
    let behind : map (sparse n) (lower_rows flow switch (length terms) 0 terms ++ upper_rows flow switch 0 terms) ≡ map (sparse (λ (c : ℕ). c)) (lowers ++ uppers) =
    left ∙ ap (λ (xs : List Row). xs ++ map (sparse n) (upper_rows flow switch 0 terms)) (numbered-lowers n flow switch (length terms) 0 terms)
    ∙ ap (λ (xs : List Row). map (sparse (λ (c : ℕ). c)) lowers ++ xs) (numbered-uppers n flow switch 0 terms) ∙ sym right in
    ap (λ (row : Row). row ∷ map (sparse n) (lower_rows flow switch (length terms) 0 terms ++ upper_rows flow switch 0 terms)) (numbered-one_switch n switch (length terms))
    ∙ ap (λ (xs : List Row). sparse (λ (c : ℕ). c) (one_switch_row (λ k. n (switch k)) (length terms)) ∷ xs) behind
    ∙ ap (λ (k : ℕ). map (sparse (λ (c : ℕ). c)) (one_switch_row (λ m. n (switch m)) k ∷ lower_rows (n flow) (λ m. n (switch m)) k 0 (map (numbered_term n) terms) ++ uppers)) (sym count)
