-- Columns that are added to a builder one part after another.
use Rattle.std.proofs.Common.{◌≡◌, inl, inr, ℕ, zero, suc, ◌+◌, ◌<◌, ◌≤◌, List, [], ◌∷◌, ◌++◌, length, map, refl, ap, ◌∙◌, sym, arith, append_assoc}
use Rattle.std.specs.Prelude.{◌==◌}
use Rattle.std.proofs.lemmas.Bool.{cases_eq}
use Rattle.std.proofs.lemmas.List.{append-nil, length-append, length-map, map-append}
use Rattle.listed.specs.Below.{join_below, table_of}
use Rattle.listed.proofs.JoinLaws.{join_below-suc, join_below-zero}
use Rattle.listed.proofs.TableLaws.{length-table_of, table_of-suc, table_of-zero}
use Rattle.ct_base.specs.Access.{signal_of}
use Rattle.ct_base.specs.declared.net.Net.{Net}
use Rattle.ct_base.specs.declared.plan.Letter.TheVariants.{Green, Clear}
use Rattle.sparse_program.specs.Program.{Begun}
use Rattle.program_model.specs.Columns.{Bit, Column}
use Rattle.program_model.specs.Points.{col}
use Rattle.program_columns.specs.Columns.{with_columns}
use Rattle.program_columns.specs.inner.Bounds.{clear_col, green_col}

-- no column
pub with_none : (net : Net) (begun : Begun) → begun ≡ with_columns net begun []
with_none net begun = rw (append-nil begun.columns) refl

-- some columns, and then others
pub with_both : (net : Net) (begun : Begun) (some others : List Column) → with_columns net (with_columns net begun some) others ≡ with_columns net begun (some ++ others)
with_both net begun some others = rw (map-append (col net) some others, append_assoc begun.columns (map (col net) some) (map (col net) others)) refl

-- so many columns are there
pub length-with : (net : Net) (begun before : Begun) (some : List Column) → before ≡ with_columns net begun some → length before.columns ≡ length begun.columns + length some
length-with net begun before some has = omega (arith, ap (λ (b : Begun). length b.columns) has, length-append begun.columns (map (col net) some), length-map some (col net))

-- some columns were added, and then others
pub both_added : (net : Net) (begun between after : Begun) (some others : List Column) →
    between ≡ with_columns net begun some → after ≡ with_columns net between others → after ≡ with_columns net begun (some ++ others)
both_added net begun between after some others first second = second ∙ ap (λ (b : Begun). with_columns net b others) first ∙ with_both net begun some others

-- the others fit where both do
pub others_fit : (net : Net) (begun between : Begun) (most : ℕ) (some others : List Column) →
    between ≡ with_columns net begun some → length begun.columns + length (some ++ others) ≤ most → length between.columns + length others ≤ most
others_fit net begun between most some others first room = omega (arith, length-with net begun between some first, length-append some others, room)

-- no part of a join
pub parts_begin : (net : Net) (begun : Begun) (parts : ℕ → List Column) → begun ≡ with_columns net begun (join_below 0 parts)
parts_begin net begun parts = with_none net begun ∙ ap (with_columns net begun) (sym (join_below-zero parts))

-- one part more
pub parts_more : (net : Net) (begun before after : Begun) (n : ℕ) (parts : ℕ → List Column) →
    before ≡ with_columns net begun (join_below n parts) → after ≡ with_columns net before (parts n) → after ≡ with_columns net begun (join_below (n + 1) parts)
parts_more net begun before after n parts has more =
    both_added net begun before after (join_below n parts) (parts n) has more ∙ ap (with_columns net begun) (sym (join_below-suc n parts))

-- a part fits where the whole does
part_fits : (n k : ℕ) (parts : ℕ → List Column) → k < n → length (join_below k parts) + length (parts k) ≤ length (join_below n parts)
unfolding join_below
part_fits zero k parts inside = absurd (omega (arith, inside))
part_fits (suc n) k parts inside =
    elim (cases_eq k n) [
      | inl e ↦ rw e (omega (arith, length-append (join_below n parts) (parts n)))
      | inr ne ↦ omega (arith, part_fits n k parts (omega (arith, inside, ne)), length-append (join_below n parts) (parts n))
    ]

pub parts_fit : (net : Net) (begun before : Begun) (n k most : ℕ) (parts : ℕ → List Column) →
    before ≡ with_columns net begun (join_below k parts) → k < n → length begun.columns + length (join_below n parts) ≤ most → length before.columns + length (parts k) ≤ most
parts_fit net begun before n k most parts has inside room =
    omega (arith, length-with net begun before (join_below k parts) has, part_fits n k parts inside, room)

-- all parts
pub parts_end : (net : Net) (begun before : Begun) (n k : ℕ) (parts : ℕ → List Column) → before ≡ with_columns net begun (join_below k parts) → k ≡ n → before ≡ with_columns net begun (join_below n parts)
parts_end net begun before n k parts has end = has ∙ ap (λ m. with_columns net begun (join_below m parts)) end

-- the map of a join is the join of the maps
pub map_join : {X Y : Type 0} (f : X → Y) (n : ℕ) (parts : ℕ → List X) → map f (join_below n parts) ≡ join_below n (λ k. map f (parts k))
unfolding join_below
map_join f zero parts = refl
map_join f (suc n) parts = map-append f (join_below n parts) (parts n) ∙ ap (λ xs. xs ++ map f (parts n)) (map_join f n parts)

-- a green's bit
pub col-green : (net : Net) (t s p : ℕ) → col net (Bit t s (Green p)) ≡ green_col t (p == (signal_of net.signals s).start)
col-green net zero s p = refl
col-green net (suc t) s p = refl

-- a clearing letter's bit
pub col-clear : (net : Net) (t s p : ℕ) → col net (Bit t s (Clear p)) ≡ clear_col t
col-clear net zero s p = refl
col-clear net (suc t) s p = refl

-- no element of a table
pub table_begins : (net : Net) (begun : Begun) (f : ℕ → Column) → begun ≡ with_columns net begun (table_of 0 f)
table_begins net begun f = with_none net begun ∙ ap (with_columns net begun) (sym (table_of-zero f))

-- one element more
pub table_grows : (net : Net) (begun before after : Begun) (n : ℕ) (f : ℕ → Column) →
    before ≡ with_columns net begun (table_of n f) → after ≡ with_columns net before (f n ∷ []) → after ≡ with_columns net begun (table_of (n + 1) f)
table_grows net begun before after n f has more =
    both_added net begun before after (table_of n f) (f n ∷ []) has more ∙ ap (with_columns net begun) (sym (table_of-suc n f))

-- so many columns are there
pub length-table : (net : Net) (begun before : Begun) (n : ℕ) (f : ℕ → Column) → before ≡ with_columns net begun (table_of n f) → length before.columns ≡ length begun.columns + n
length-table net begun before n f has =
    omega (arith, length-with net begun before (table_of n f) has, length-table_of n f)
