-- Rows that are added one after another, and the rows of a loop over terms.
use Rattle.std.proofs.Common.{◌≡◌, ℕ, suc, ◌+◌, ◌<◌, ◌≤◌, List, [], ◌∷◌, ◌++◌, length, map, take, drop, get_or, min, Ok, Err, refl, ap, subst, ◌∙◌, sym, arith}
use Rattle.std.proofs.lemmas.List.{append_assoc, append-nil, length-map, length-take-le, map-append, take-append-drop, take-append-le, take_at, take_min, take_more}
use Rattle.std.specs.Prelude.{Result, OnErr}
use Rattle.sparse_program.specs.Program.{Begun}
use Rattle.sparse_program.specs.declared.row.Row.{Row}
use Rattle.program_model.specs.Rows.{SumRow}
use Rattle.program_model.specs.SwitchRows as model
use Rattle.flow_switches.specs.Added.{Adds, AddsFront}
use Rattle.flow_switches.specs.Sums.{held, term_of}
use Rattle.flow_switches.specs.declared.term.Term.{Term}

-- a program with these rows behind its own
abbrev with_rows : Begun → List Row → Begun
with_rows program rows = record program { rows = program.rows ++ rows }

-- some rows, and then others
pub adds_then : (a b c : Begun) (xs ys : List Row) → Adds a xs b → Adds b ys c → Adds a (xs ++ ys) c
adds_then a b c xs ys first then =
    let by_rows : List Row → Begun = λ rows. record a { rows = rows } in
    then ∙ ap (λ (program : Begun). with_rows program ys) first ∙ ap by_rows (append_assoc a.rows xs ys)

-- some rows are a front of them and others
pub adds_front : (a b : Begun) (xs ys : List Row) → Adds a xs b → AddsFront a (xs ++ ys) b
adds_front a b xs ys first = (length xs, first ∙ ap (with_rows a) (sym (take_at xs ys (length xs) refl)))

-- so many more than some rows
take_beyond : (xs ys : List Row) (k : ℕ) → take (length xs + k) (xs ++ ys) ≡ xs ++ take k ys
take_beyond [] ys k = let same : 0 + k ≡ k = omega arith in ap (λ (n : ℕ). take n ys) same
take_beyond (x ∷ xs) ys k =
    let same : suc (length xs) + k ≡ suc (length xs + k) = omega arith in
    ap (λ (n : ℕ). take n (x ∷ xs ++ ys)) same ∙ ap (λ (rows : List Row). x ∷ rows) (take_beyond xs ys k)

-- some rows, and then a front of others
pub adds_then_front : (a b c : Begun) (xs ys : List Row) → Adds a xs b → AddsFront b ys c → AddsFront a (xs ++ ys) c
adds_then_front a b c xs ys first then =
    (length xs + then.0, adds_then a b c xs (take then.0 ys) first then.1 ∙ ap (with_rows a) (sym (take_beyond xs ys then.0)))

-- no row is a front of any
pub adds_none : (a b : Begun) (xs : List Row) → b ≡ a → AddsFront a xs b
adds_none a b xs same =
    let by_rows : List Row → Begun = λ rows. record a { rows = rows } in
    (0, same ∙ ap by_rows (sym (append-nil a.rows)))

-- ---- a loop over the further terms of a move

-- the lower rows of the cap and some further terms
abbrev pub lower : ℕ → ℕ → ℕ → Term → List Term → List Row
lower flow first switches cap further = map held (model.lower_rows flow (λ m. first + m) switches 0 (term_of cap ∷ map term_of further))

-- their upper rows
abbrev pub upper : ℕ → ℕ → Term → List Term → List Row
upper flow first cap further = map held (model.upper_rows flow (λ m. first + m) 0 (term_of cap ∷ map term_of further))

-- rows of two lists of terms
lower_rows-append : (flow : ℕ) (switch : ℕ → ℕ) (count m : ℕ) (xs ys : List (model.Term ℕ)) →
    model.lower_rows flow switch count m (xs ++ ys) ≡ model.lower_rows flow switch count m xs ++ model.lower_rows flow switch count (m + length xs) ys
lower_rows-append flow switch count m [] ys = let same : m + 0 ≡ m = omega arith in ap (λ (n : ℕ). model.lower_rows flow switch count n ys) (sym same)
lower_rows-append flow switch count m (x ∷ xs) ys =
    let same : m + 1 + length xs ≡ m + suc (length xs) = omega arith in
    let row : SumRow ℕ = model.lower_row flow switch count m x.of in
    ap (λ (rows : List (SumRow ℕ)). row ∷ rows) (lower_rows-append flow switch count (m + 1) xs ys
    ∙ ap (λ (n : ℕ). model.lower_rows flow switch count (m + 1) xs ++ model.lower_rows flow switch count n ys) same)

upper_rows-append : (flow : ℕ) (switch : ℕ → ℕ) (m : ℕ) (xs ys : List (model.Term ℕ)) →
    model.upper_rows flow switch m (xs ++ ys) ≡ model.upper_rows flow switch m xs ++ model.upper_rows flow switch (m + length xs) ys
upper_rows-append flow switch m [] ys = let same : m + 0 ≡ m = omega arith in ap (λ (n : ℕ). model.upper_rows flow switch n ys) (sym same)
upper_rows-append flow switch m (x ∷ xs) ys =
    let same : m + 1 + length xs ≡ m + suc (length xs) = omega arith in
    let row : SumRow ℕ = model.upper_row flow (switch m) x in
    ap (λ (rows : List (SumRow ℕ)). row ∷ rows) (upper_rows-append flow switch (m + 1) xs ys
    ∙ ap (λ (n : ℕ). model.upper_rows flow switch (m + 1) xs ++ model.upper_rows flow switch n ys) same)

pub lower-append : (flow first switches : ℕ) (cap : Term) (xs ys : List Term) →
    lower flow first switches cap (xs ++ ys) ≡ lower flow first switches cap xs ++ map held (model.lower_rows flow (λ m. first + m) switches (length xs + 1) (map term_of ys))
lower-append flow first switches cap xs ys =
    let switch : ℕ → ℕ = λ m. first + m in
    let front : List (model.Term ℕ) = term_of cap ∷ map term_of xs in
    let number : 0 + length front ≡ length xs + 1 = omega (arith, length-map xs term_of) in
    ap (λ (terms : List (model.Term ℕ)). map held (model.lower_rows flow switch switches 0 (term_of cap ∷ terms))) (map-append term_of xs ys)
    ∙ ap (map held) (lower_rows-append flow switch switches 0 front (map term_of ys))
    ∙ map-append held (model.lower_rows flow switch switches 0 front) (model.lower_rows flow switch switches (0 + length front) (map term_of ys))
    ∙ ap (λ (n : ℕ). lower flow first switches cap xs ++ map held (model.lower_rows flow switch switches n (map term_of ys))) number

pub upper-append : (flow first : ℕ) (cap : Term) (xs ys : List Term) →
    upper flow first cap (xs ++ ys) ≡ upper flow first cap xs ++ map held (model.upper_rows flow (λ m. first + m) (length xs + 1) (map term_of ys))
upper-append flow first cap xs ys =
    let switch : ℕ → ℕ = λ m. first + m in
    let front : List (model.Term ℕ) = term_of cap ∷ map term_of xs in
    let number : 0 + length front ≡ length xs + 1 = omega (arith, length-map xs term_of) in
    ap (λ (terms : List (model.Term ℕ)). map held (model.upper_rows flow switch 0 (term_of cap ∷ terms))) (map-append term_of xs ys)
    ∙ ap (map held) (upper_rows-append flow switch 0 front (map term_of ys))
    ∙ map-append held (model.upper_rows flow switch 0 front) (model.upper_rows flow switch (0 + length front) (map term_of ys))
    ∙ ap (λ (n : ℕ). upper flow first cap xs ++ map held (model.upper_rows flow switch n (map term_of ys))) number

-- the first rows of a loop, with the row of the next term
pub step_added : (rows : List Term → List Row) (a b c : Begun) (further : List Term) (k : ℕ) (item : Term) (row : Row) → k < length further → item ≡ get_or further k item →
    rows (take k further ++ item ∷ []) ≡ rows (take k further) ++ row ∷ [] →
    Adds a (rows (take k further)) b → Adds b (row ∷ []) c → Adds a (rows (take (k + 1) further)) c
step_added rows a b c further k item row inside is more before now =
    let next : take (k + 1) further ≡ take k further ++ item ∷ [] =
    take_more further k item inside ∙ ap (λ (term : Term). take k further ++ term ∷ []) (sym is) in
    adds_then a b c (rows (take k further)) (row ∷ []) before now ∙ ap (with_rows a) (sym more ∙ ap rows (sym next))

-- the first rows of a loop are a front of all its rows
pub front_added : (rows : List Term → List Row) (a b c : Begun) (further : List Term) (k : ℕ) (left : List Row) →
    rows (take k further ++ drop k further) ≡ rows (take k further) ++ left → Adds a (rows (take k further)) b → c ≡ b → AddsFront a (rows further) c
front_added rows a b c further k left all before same =
    let whole : rows (take k further) ++ left ≡ rows further = sym all ∙ ap rows (take-append-drop k further) in
    subst (λ (them : List Row). AddsFront a them c) whole (adds_front a c (rows (take k further)) left (same ∙ before))

-- the row of the term behind so many
pub lower_more : (flow first switches : ℕ) (cap : Term) (further : List Term) (k : ℕ) (item : Term) → k ≤ length further →
    lower flow first switches cap (take k further ++ item ∷ []) ≡ lower flow first switches cap (take k further) ++ held (model.lower_row flow (λ m. first + m) switches (k + 1) (term_of item).of) ∷ []
lower_more flow first switches cap further k item inside =
    lower-append flow first switches cap (take k further) (item ∷ [])
    ∙ ap (λ (n : ℕ). lower flow first switches cap (take k further) ++ held (model.lower_row flow (λ m. first + m) switches (n + 1) (term_of item).of) ∷ []) (length-take-le k further inside)

pub upper_more : (flow first : ℕ) (cap : Term) (further : List Term) (k : ℕ) (item : Term) → k ≤ length further →
    upper flow first cap (take k further ++ item ∷ []) ≡ upper flow first cap (take k further) ++ held (model.upper_row flow (first + (k + 1)) (term_of item)) ∷ []
upper_more flow first cap further k item inside =
    upper-append flow first cap (take k further) (item ∷ [])
    ∙ ap (λ (n : ℕ). upper flow first cap (take k further) ++ held (model.upper_row flow (first + (n + 1)) (term_of item)) ∷ []) (length-take-le k further inside)

-- what holds after any failure holds where a call failed
pub on_err : {T E P : Type 0} (result : Result T E) → P → OnErr result P
on_err (Ok x) holds = tt
on_err (Err e) holds = holds

-- a front of some rows is a front of them and others
pub front_more : (a b : Begun) (xs ys : List Row) → AddsFront a xs b → AddsFront a (xs ++ ys) b
front_more a b xs ys front =
    let same : take (min front.0 (length xs)) (xs ++ ys) ≡ take front.0 xs =
    take-append-le (min front.0 (length xs)) xs ys (omega arith) ∙ take_min front.0 xs in
    (min front.0 (length xs), front.1 ∙ ap (with_rows a) (sym same))
