-- A front of rows: where memory is wanting behind some of them.
use Rattle.std.proofs.Common.{◌≡◌, inl, inr, ℕ, zero, suc, ◌+◌, ◌<◌, List, [], ◌∷◌, ◌++◌, length, map, take, drop, get_or, refl, ap, ◌∙◌, sym, subst, append_assoc, arith}
use Rattle.std.proofs.lemmas.Bool.{cases_eq}
use Rattle.std.proofs.lemmas.List.{map-append}
use Rattle.std.specs.Prelude.{Result, Ok, Err, IsErrAnd, OnErr, OnOk}
use Rattle.listed.specs.Below.{join_below}
use Rattle.ct_base.specs.declared.net.Net.{Net}
use Rattle.sparse_program.specs.Program.{Begun}
use Rattle.sparse_program.specs.declared.row.Row.{Row}
use Rattle.program_model.specs.Columns.{Column}
use Rattle.program_model.specs.Numbers.{number_of}
use Rattle.program_model.specs.Rows.{SumRow}
use Rattle.program_model.specs.Sparse.{sparse}
use Rattle.flow_switches.specs.Added as held
use Rattle.flow_switches.proofs.Adding.{adds_front}
use Rattle.lo_program.specs.inner.Adding.{Adds, AddsAllOrFront, AddsFront}
use Rattle.lo_program.proofs.RowLaws.{adds_both, adds_none, mapped_around}

-- where nothing changed no row was added
pub front_none : (net : Net) (a b : Begun) (rows : List (SumRow Column)) → b ≡ a → AddsFront net a b rows
front_none net a b rows same =
    record { front = []; rest = rows; parts = refl; added = subst (λ (program : Begun). Adds net a program []) (sym same) (adds_none net a) }

-- a front of some rows is one of them and more
pub front_first : (net : Net) (a b : Begun) (xs ys : List (SumRow Column)) → AddsFront net a b xs → AddsFront net a b (xs ++ ys)
front_first net a b xs ys some =
    record {
      front = some.front;
      rest = some.rest ++ ys;
      parts = sym (append_assoc some.front some.rest ys) ∙ ap (λ (rows : List (SumRow Column)). rows ++ ys) some.parts;
      added = some.added;
    }

-- some rows, and then a front of others
pub front_second : (net : Net) (a b c : Begun) (xs ys : List (SumRow Column)) → Adds net a b xs → AddsFront net b c ys → AddsFront net a c (xs ++ ys)
front_second net a b c xs ys first then =
    record {
      front = xs ++ then.front;
      rest = then.rest;
      parts = append_assoc xs then.front then.rest ∙ ap (λ (rows : List (SumRow Column)). xs ++ rows) then.parts;
      added = adds_both net a b c xs then.front first then.added;
    }

-- the parts before one, and a front of that part
pub front_part : (net : Net) (a b c : Begun) (n k : ℕ) (parts : ℕ → List (SumRow Column)) → k < n → Adds net a b (join_below k parts) → AddsFront net b c (parts k) →
    AddsFront net a c (join_below n parts)
unfolding join_below
front_part net a b c zero k parts inside before here = absurd (omega (arith, inside))
front_part net a b c (suc n) k parts inside before here =
    elim (cases_eq k n) [
      | inl same ↦
          front_second net a b c (join_below n parts) (parts n) (subst (λ m. Adds net a b (join_below m parts)) same before) (subst (λ m. AddsFront net b c (parts m)) same here)
      | inr other ↦ front_first net a c (join_below n parts) (parts n) (front_part net a b c n k parts (omega (arith, inside, other)) before here)
    ]

-- the rows of the elements before one, and a front of the row of that one
pub front_mapped : {X : Type 0} (net : Net) (a b c : Begun) (f : X → SumRow Column) (xs : List X) (k : ℕ) (d : X) → k < length xs → Adds net a b (map f (take k xs)) →
    AddsFront net b c (f (get_or xs k d) ∷ []) → AddsFront net a c (map f xs)
front_mapped net a b c f xs k d inside before here =
    let behind : List (SumRow Column) = map f (drop (k + 1) xs) in
    subst (λ (rows : List (SumRow Column)). AddsFront net a c rows) (sym (mapped_around f xs k d inside))
    (front_second net a b c (map f (take k xs)) (f (get_or xs k d) ∷ behind) before (front_first net b c (f (get_or xs k d) ∷ []) behind here))

-- what a call that failed answers is handed on
pub front_exit : {T E : Type 0} (Q : E → Type 0) {net : Net} {a b : Begun} {rows : List (SumRow Column)} (result : Result T E) → IsErrAnd result Q → AddsFront net a b rows → AddsAllOrFront result net a b rows
front_exit Q (Ok x) failed front = absurd failed
front_exit Q (Err e) failed front = front

-- the rows as the program holds them
pub front_held : (net : Net) (a b : Begun) (rows : List (SumRow Column)) → AddsFront net a b rows → held.AddsFront a (map (sparse (number_of net)) rows) b
front_held net a b rows some =
    let held_row : SumRow Column → Row = sparse (number_of net) in
    subst (λ (them : List Row). held.AddsFront a them b) (sym (map-append held_row some.front some.rest) ∙ ap (map held_row) some.parts)
    (adds_front a b (map held_row some.front) (map held_row some.rest) some.added.all)

-- and so what a call answers says of them
pub held_ok : {T E : Type 0} (result : Result T E) (net : Net) (a b : Begun) (rows : List (SumRow Column)) → AddsAllOrFront result net a b rows →
    OnOk result (b ≡ record a { rows = a.rows ++ map (sparse (number_of net)) rows })
held_ok (Ok x) net a b rows added = added.all
held_ok (Err e) net a b rows added = tt

pub held_err : {T E : Type 0} (result : Result T E) (net : Net) (a b : Begun) (rows : List (SumRow Column)) → AddsAllOrFront result net a b rows →
    OnErr result (held.AddsFront a (map (sparse (number_of net)) rows) b)
held_err (Ok x) net a b rows added = tt
held_err (Err e) net a b rows added = front_held net a b rows added
