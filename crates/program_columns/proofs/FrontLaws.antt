-- A front of columns: where memory is wanting behind some of them.
use Rattle.std.proofs.Common.{◌≡◌, ◌≢◌, inl, inr, ℕ, zero, suc, ◌<◌, List, [], ◌∷◌, ◌++◌, length, map, take, refl, ap, ◌∙◌, sym, subst, append_assoc, arith}
use Rattle.std.specs.Prelude.{Result, Ok, Err, IsErrAnd, OnErr}
use Rattle.std.proofs.lemmas.Bool.{cases_eq}
use Rattle.std.proofs.lemmas.List.{take_at}
use Rattle.listed.specs.Below.{join_below}
use Rattle.ct_base.specs.declared.net.Net.{Net}
use Rattle.ct_base.specs.declared.plan.Letter.TheVariants.{Clear, Green}
use Rattle.sparse_program.specs.Program.{Begun}
use Rattle.program_model.specs.Columns.{Bit, Column, letters_by}
use Rattle.program_columns.specs.Columns.{IsWithFront, with_columns}
use Rattle.program_columns.specs.inner.Fronts.{AddsAllOrFront, AddsFront}
use Rattle.program_columns.proofs.BuildingLaws.{both_added, with_none}

-- where nothing changed no column was added
pub front_none : (net : Net) (a b : Begun) (columns : List Column) → b ≡ a → AddsFront net a b columns
front_none net a b columns same = record { front = []; rest = columns; parts = refl; added = same ∙ with_none net a }

-- a front of some columns is one of them and more
pub front_first : (net : Net) (a b : Begun) (xs ys : List Column) → AddsFront net a b xs → AddsFront net a b (xs ++ ys)
front_first net a b xs ys some =
    record {
      front = some.front;
      rest = some.rest ++ ys;
      parts = sym (append_assoc some.front some.rest ys) ∙ ap (λ (columns : List Column). columns ++ ys) some.parts;
      added = some.added;
    }

-- some columns, and then a front of others
pub front_second : (net : Net) (a b c : Begun) (xs ys : List Column) → b ≡ with_columns net a xs → AddsFront net b c ys → AddsFront net a c (xs ++ ys)
front_second net a b c xs ys first then =
    record {
      front = xs ++ then.front;
      rest = then.rest;
      parts = append_assoc xs then.front then.rest ∙ ap (λ (columns : List Column). xs ++ columns) then.parts;
      added = both_added net a b c xs then.front first then.added;
    }

-- the parts before one, and a front of that part
pub front_part : (net : Net) (a b c : Begun) (n k : ℕ) (parts : ℕ → List Column) → k < n → b ≡ with_columns net a (join_below k parts) → AddsFront net b c (parts k) → AddsFront net a c (join_below n parts)
unfolding join_below
front_part net a b c zero k parts inside before here = absurd (omega (arith, inside))
front_part net a b c (suc n) k parts inside before here =
    elim (cases_eq k n) [
      | inl same ↦
          front_second net a b c (join_below n parts) (parts n) (subst (λ m. b ≡ with_columns net a (join_below m parts)) same before) (subst (λ m. AddsFront net b c (parts m)) same here)
      | inr other ↦ front_first net a c (join_below n parts) (parts n) (front_part net a b c n k parts (omega (arith, inside, other)) before here)
    ]

-- the green of a phase with clearing is a front of the letters that the phase brings
pub front_green : (net : Net) (a b : Begun) (t s p clear : ℕ) → clear ≢ 0 → b ≡ with_columns net a (Bit t s (Green p) ∷ []) → AddsFront net a b (map (Bit t s) (letters_by p clear))
front_green net a b t s p zero some added = absurd (some refl)
front_green net a b t s p (suc clear) some added = record { front = Bit t s (Green p) ∷ []; rest = Bit t s (Clear p) ∷ []; parts = refl; added = added }

-- what a call that failed answers is handed on
pub front_exit : {T E : Type 0} (Q : E → Type 0) {net : Net} {a b : Begun} {columns : List Column} (result : Result T E) → IsErrAnd result Q → AddsFront net a b columns → AddsAllOrFront result net a b columns
front_exit Q (Ok x) failed front = absurd failed
front_exit Q (Err e) failed front = front

-- the front by how many columns it has
pub front_counted : (net : Net) (a b : Begun) (columns : List Column) → AddsFront net a b columns → IsWithFront net a columns b
front_counted net a b columns some =
    (length some.front, some.added ∙ ap (with_columns net a) (sym (ap (take (length some.front)) (sym some.parts) ∙ take_at some.front some.rest (length some.front) refl)))

pub counted_on_err : {T E : Type 0} (result : Result T E) (net : Net) (a b : Begun) (columns : List Column) → AddsFront net a b columns → OnErr result (IsWithFront net a columns b)
counted_on_err (Ok x) net a b columns front = tt
counted_on_err (Err e) net a b columns front = front_counted net a b columns front
