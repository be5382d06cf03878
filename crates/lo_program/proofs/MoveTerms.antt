-- The terms of a move by their numbers are those of the model, and so are its rows.
use Rattle.std.proofs.Common.{◌≡◌, inl, inr, ℕ, zero, suc, ◌+◌, ◌*◌, ◌<◌, ◌≤◌, ◌^◌, true, false, List, [], ◌∷◌, ◌++◌, length, map, take, get_or, filter, add-one, append_assoc, refl, ap, subst, ◌∙◌, sym, arith}
use Rattle.std.specs.Prelude.{if◌then◌else◌, nat_lt, ℤ, pos, Bool, Option, Some, None}
use Rattle.std.proofs.lemmas.Bool.{cases_Bool}
use Rattle.std.proofs.lemmas.List.{append-nil, get_or_default, map-append}
use Rattle.std.proofs.lemmas.List.Elements.{filter_more}
use Rattle.listed.proofs.SumLaws.{sum_below-bound, sum_below-suc, sum_below-zero}
use Rattle.ct_base.specs.Access.{cell_of, signal_of}
use Rattle.ct_base.specs.Validity.{IsSplit, IsValid}
use Rattle.ct_base.specs.declared.cell.Cell.{Cell}
use Rattle.ct_base.specs.declared.cell.Gate.{Gate}
use Rattle.ct_base.specs.declared.cell.Out.TheVariants.{Turns}
use Rattle.ct_base.specs.declared.net.Net.{Net}
use Rattle.ct_base.specs.declared.plan.Letter.{Letter}
use Rattle.traffic_model.specs.Flow.{cap_of, is_green_among}
use Rattle.sparse_program.specs.Program.{Begun}
use Rattle.sparse_program.specs.declared.row.Row.{Row}
use Rattle.program_model.specs.Columns.{Bit, BranchRoom, Column, Flow, Switch, letters_of}
use Rattle.program_model.specs.FlowRows.{branch_term, branch_terms, further_terms, gated_cap, move_terms}
use Rattle.program_model.specs.Numbers.{after_room, branches_before, first_column, number_of}
use Rattle.program_model.specs.Rows.{Sum, times, total}
use Rattle.program_model.specs.Sparse.{sparse}
use Rattle.program_model.specs.SwitchRows as model
use Rattle.program_model.specs.SwitchRows.{least_rows}
use Rattle.program_model.proofs.PlanMoves.{IsLedInto, turn_is_led_into}
use Rattle.flow_switches.specs.Added.{Adds}
use Rattle.flow_switches.specs.Sums.{cap_term, held, term_of, terms_of}
use Rattle.flow_switches.specs.declared.term.Term.{Term}
use Rattle.lo_program.specs.inner.Moves.{branch_by_number, gate_bits, green_bits, term_by_number}
use Rattle.program_layout.proofs.CountLaws.{small_first}
use Rattle.lo_program.proofs.Numbered.{numbered, numbered-least, numbered-times, numbered-total, numbered_term}

-- ---- branches

-- the term of one branch more
branch_terms-more : (cells : List Cell) (t i m k : ℕ) (branches : List (ℕ × ℕ)) (d : ℕ × ℕ) → k < length branches →
    branch_terms cells t i m (take (suc k) branches) ≡ branch_terms cells t i m (take k branches) ++ branch_term cells t i (m + k) (get_or branches k d) ∷ []
branch_terms-more cells t i m k [] d inside = absurd (omega (arith, inside))
branch_terms-more cells t i m zero (branch ∷ branches) d inside =
    let at : m ≡ m + 0 = omega arith in
    ap (λ (n : ℕ). branch_term cells t i n branch ∷ []) at
branch_terms-more cells t i m (suc k) (branch ∷ branches) d inside =
    let at : m + 1 + k ≡ m + suc k = omega arith in
    ap (λ (terms : List (model.Term Column)). branch_term cells t i m branch ∷ terms)
    (branch_terms-more cells t i (m + 1) k branches d (omega (arith, inside))
    ∙ ap (λ (n : ℕ). branch_terms cells t i (m + 1) (take k branches) ++ branch_term cells t i n (get_or branches k d) ∷ []) at)

-- the term of a branch by the number of its columns
branch_is : (net : Net) (t i k column : ℕ) (branch : ℕ × ℕ) → column ≡ number_of net (BranchRoom t i k) → branch_by_number net t column branch ≡ term_by_number net (branch_term net.cells t i k branch)
branch_is net t i k column branch is =
    elim (cases_Bool (nat_lt 1 branch.1)) [
      | inl many ↦ rw (many, is) refl
      | inr one ↦ rw one refl
    ]

-- the terms of the first branches, and that of the next
pub branches_more : (net : Net) (t i k column : ℕ) (branches : List (ℕ × ℕ)) (d : ℕ × ℕ) (old before after : List Term) → k < length branches → (cell_of net.cells i).out ≡ Turns branches →
    before ≡ old ++ map (term_by_number net) (branch_terms net.cells t i 0 (take k branches)) → column ≡ first_column net t i + after_room net.cells i + 2 + branches_before branches k →
    after ≡ before ++ branch_by_number net t column (get_or branches k d) ∷ [] → after ≡ old ++ map (term_by_number net) (branch_terms net.cells t i 0 (take (k + 1) branches))
branches_more net t i k column branches d old before after inside out first is pushed =
    let branch : ℕ × ℕ = get_or branches k d in
    let number : column ≡ number_of net (BranchRoom t i k) = rw out is in
    let terms : List (model.Term Column) = branch_terms net.cells t i 0 (take k branches) in
    let at : 0 + k ≡ k = omega arith in
    let more : branch_terms net.cells t i 0 (take (k + 1) branches) ≡ terms ++ branch_term net.cells t i k branch ∷ [] =
    rw add-one (branch_terms-more net.cells t i 0 k branches d inside ∙ ap (λ (n : ℕ). terms ++ branch_term net.cells t i n branch ∷ []) at) in
    pushed ∙ ap (λ (all : List Term). all ++ branch_by_number net t column branch ∷ []) first
    ∙ append_assoc old (map (term_by_number net) terms) (branch_by_number net t column branch ∷ [])
    ∙ ap (λ (term : Term). old ++ (map (term_by_number net) terms ++ term ∷ [])) (branch_is net t i k column branch number)
    ∙ ap (λ (all : List Term). old ++ all) (sym (map-append (term_by_number net) terms (branch_term net.cells t i k branch ∷ [])) ∙ ap (map (term_by_number net)) (sym more))

-- no branch has columns before the first
pub none_before : (branches : List (ℕ × ℕ)) → branches_before branches 0 ≡ 0
none_before branches = sum_below-zero (λ j. if nat_lt 1 (get_or branches j (0, 0)).1 then 2 else 0)

-- the columns of one branch more
pub branches_before-more : (branches : List (ℕ × ℕ)) (k : ℕ) → branches_before branches (k + 1) ≡ branches_before branches k + (if nat_lt 1 (get_or branches k (0, 0)).1 then 2 else 0)
branches_before-more branches k = sum_below-suc k (λ j. if nat_lt 1 (get_or branches j (0, 0)).1 then 2 else 0)

two_or_none : (many : Bool) → (if many then 2 else 0) ≤ 2
two_or_none many = elim (cases_Bool many) [ inl two ↦ rw two (omega arith) | inr none ↦ rw none (omega arith) ]

pub few_before : (branches : List (ℕ × ℕ)) (k : ℕ) → branches_before branches k ≤ k * 2
few_before branches k = sum_below-bound k 2 (λ j. if nat_lt 1 (get_or branches j (0, 0)).1 then 2 else 0) (λ j inside. two_or_none (nat_lt 1 (get_or branches j (0, 0)).1))

-- a diverge has few branches
pub few_branches : (net : Net) (i : ℕ) (branches : List (ℕ × ℕ)) → IsValid net → i < length net.cells → (cell_of net.cells i).out ≡ Turns branches → length branches ≤ 4
few_branches net i branches valid inside is =
    let split : IsSplit (Turns branches) = subst IsSplit is (valid.each_cell i inside).split in
    split.0.1

-- the cell of a branch
pub branch_is_led_into : (net : Net) (i k : ℕ) (branches : List (ℕ × ℕ)) → IsValid net → i < length net.cells → (cell_of net.cells i).out ≡ Turns branches → k < length branches → IsLedInto net (get_or branches k (0, 0)).0
branch_is_led_into net i k branches valid inside is there =
    subst (λ (branch : ℕ × ℕ). IsLedInto net branch.0) (get_or_default branches k (0, 1) (0, 0) there) (turn_is_led_into net i branches k valid inside is there)

-- the first column of a cell has a small number
pub first_column-small : (net : Net) (t i : ℕ) → IsValid net → t < net.steps → i < length net.cells → first_column net t i < 2 ^ 21
unfolding first_column
first_column-small net t i valid before inside = (small_first net t i valid (omega (arith, before)) (omega (arith, inside))).1

-- ---- the bits of a gate

-- the bits of those letters that are greens of a set
abbrev bits_among : Net → ℕ → ℕ → ℕ → List Letter → List ℕ
bits_among net t s greens letters = map (λ (letter : Letter). number_of net (Bit t s letter)) (filter (is_green_among greens) letters)

bits_among-more : (net : Net) (t s greens k : ℕ) (letters : List Letter) (d : Letter) → k < length letters →
    bits_among net t s greens (take (k + 1) letters) ≡ bits_among net t s greens (take k letters) ++ map (λ (letter : Letter). number_of net (Bit t s letter)) (if is_green_among greens (get_or letters k d) then get_or letters k d ∷ [] else [])
bits_among-more net t s greens k letters d inside =
    let bit : Letter → ℕ = λ (letter : Letter). number_of net (Bit t s letter) in
    ap (map bit) (filter_more (is_green_among greens) letters k d inside)
    ∙ map-append bit (filter (is_green_among greens) (take k letters)) (if is_green_among greens (get_or letters k d) then get_or letters k d ∷ [] else [])

-- a letter that is a green of the set
pub green_passed : (net : Net) (t s greens k bit : ℕ) (letters items : List Letter) (d : Letter) (before after : List ℕ) → items ≡ letters → k < length items → before ≡ bits_among net t s greens (take k letters) →
    true ≡ is_green_among greens (get_or items k d) → bit ≡ number_of net (Bit t s (get_or items k d)) → after ≡ before ++ bit ∷ [] → after ≡ bits_among net t s greens (take (k + 1) letters)
green_passed net t s greens k bit letters items d before after same inside has passes is pushed =
    let here : bits_among net t s greens (take (k + 1) letters) ≡ bits_among net t s greens (take k letters) ++ number_of net (Bit t s (get_or items k d)) ∷ [] =
    rw (← same) (bits_among-more net t s greens k items d inside ∙ rw (← passes) refl) in
    pushed ∙ ap (λ (found : List ℕ). found ++ bit ∷ []) has ∙ ap (λ (n : ℕ). bits_among net t s greens (take k letters) ++ n ∷ []) is ∙ sym here

-- and one that is not
pub green_left : (net : Net) (t s greens k : ℕ) (letters items : List Letter) (d : Letter) (before after : List ℕ) → items ≡ letters → k < length items → before ≡ bits_among net t s greens (take k letters) →
    false ≡ is_green_among greens (get_or items k d) → after ≡ before → after ≡ bits_among net t s greens (take (k + 1) letters)
green_left net t s greens k letters items d before after same inside has fails kept =
    let here : bits_among net t s greens (take (k + 1) letters) ≡ bits_among net t s greens (take k letters) =
    rw (← same) (bits_among-more net t s greens k items d inside ∙ rw (← fails) (append-nil (bits_among net t s greens (take k items)))) in
    kept ∙ has ∙ sym here

-- ---- all terms, and the rows

-- the bits of letters by their numbers
bits_by_number : (net : Net) (t s : ℕ) (letters : List Letter) → map (number_of net) (map (Bit t s) letters) ≡ map (λ (letter : Letter). number_of net (Bit t s letter)) letters
bits_by_number net t s [] = refl
bits_by_number net t s (letter ∷ letters) = ap (λ (others : List ℕ). number_of net (Bit t s letter) ∷ others) (bits_by_number net t s letters)

-- the cap of a move by the numbers of its gate's bits
cap_is : (net : Net) (t cap : ℕ) (gate : Option Gate) → cap_term (pos cap) (gate_bits net t gate) ≡ numbered_term (number_of net) (record { of = gated_cap net.signals t cap gate; most = cap })
cap_is net t cap None = refl
cap_is net t cap (Some gate) =
    let greens : List Letter = filter (is_green_among gate.greens) (letters_of (signal_of net.signals gate.signal)) in
    let bits : List Column = map (Bit t gate.signal) greens in
    let same : numbered (number_of net) (times (pos cap) (total bits)) ≡ times (pos cap) (total (green_bits net t gate.signal gate.greens)) =
    numbered-times (number_of net) (pos cap) (total bits) ∙ ap (times (pos cap)) (numbered-total (number_of net) bits ∙ ap total (bits_by_number net t gate.signal greens)) in
    ap (λ (sum : Sum ℕ). (let term : model.Term ℕ = record { of = sum; most = cap } in term)) (sym same)

terms_by_number : (net : Net) (terms : List (model.Term Column)) → map term_of (map (term_by_number net) terms) ≡ map (numbered_term (number_of net)) terms
terms_by_number net [] = refl
terms_by_number net (term ∷ terms) = ap (λ (others : List (model.Term ℕ)). numbered_term (number_of net) term ∷ others) (terms_by_number net terms)

-- the rows of a move by the numbers of its columns
move_rows_are : (net : Net) (t i flow cap : ℕ) (gate : Option (List ℕ)) (terms : List Term) → flow ≡ number_of net (Flow t i) → cap ≡ cap_of net.cells (cell_of net.cells i) (cell_of net.cells i).out →
    gate ≡ gate_bits net t (cell_of net.cells i).gate → terms ≡ map (term_by_number net) (further_terms net.cells t i (cell_of net.cells i).out) →
    map held (least_rows flow (terms_of (pos cap) gate terms) (λ m. flow + 1 + m)) ≡ map (sparse (number_of net)) (least_rows (Flow t i) (move_terms net t i) (Switch t i))
move_rows_are net t i flow cap gate terms flow_is most_is gate_is terms_are =
    let cell : Cell = cell_of net.cells i in
    let of_model : List (model.Term Column) = further_terms net.cells t i cell.out in
    let all : terms_of (pos cap) gate terms ≡ map (numbered_term (number_of net)) (move_terms net t i) =
    ap (λ (bits : Option (List ℕ)). terms_of (pos cap) bits terms) gate_is
    ∙ ap (λ (n : ℕ). terms_of (pos n) (gate_bits net t cell.gate) terms) most_is
    ∙ ap (λ (others : List Term). terms_of (pos (cap_of net.cells cell cell.out)) (gate_bits net t cell.gate) others) terms_are
    ∙ ap (λ (first : model.Term ℕ). first ∷ map term_of (map (term_by_number net) of_model)) (cap_is net t (cap_of net.cells cell cell.out) cell.gate)
    ∙ ap (λ (others : List (model.Term ℕ)). numbered_term (number_of net) (record { of = gated_cap net.signals t (cap_of net.cells cell cell.out) cell.gate; most = cap_of net.cells cell cell.out }) ∷ others) (terms_by_number net of_model) in
    ap (λ (some : List (model.Term ℕ)). map held (least_rows flow some (λ m. flow + 1 + m))) all
    ∙ ap (λ (n : ℕ). map held (least_rows n (map (numbered_term (number_of net)) (move_terms net t i)) (λ m. n + 1 + m))) flow_is
    ∙ sym (numbered-least (number_of net) (Flow t i) (move_terms net t i) (Switch t i))

-- where they were added, those of the model were
pub move_added : (net : Net) (old new : Begun) (t i flow cap : ℕ) (z : ℤ) (gate : Option (List ℕ)) (terms : List Term) → flow ≡ number_of net (Flow t i) → z ≡ pos cap → cap ≡ cap_of net.cells (cell_of net.cells i) (cell_of net.cells i).out →
    gate ≡ gate_bits net t (cell_of net.cells i).gate → terms ≡ map (term_by_number net) (further_terms net.cells t i (cell_of net.cells i).out) →
    Adds old (map held (least_rows flow (terms_of z gate terms) (λ m. flow + 1 + m))) new →
    new ≡ record old { rows = old.rows ++ map (sparse (number_of net)) (least_rows (Flow t i) (move_terms net t i) (Switch t i)) }
move_added net old new t i flow cap z gate terms flow_is same most_is gate_is terms_are added =
    let rows : map held (least_rows flow (terms_of z gate terms) (λ m. flow + 1 + m)) ≡ map (sparse (number_of net)) (least_rows (Flow t i) (move_terms net t i) (Switch t i)) =
    ap (λ (most : ℤ). map held (least_rows flow (terms_of most gate terms) (λ m. flow + 1 + m))) same ∙ move_rows_are net t i flow cap gate terms flow_is most_is gate_is terms_are in
    added ∙ ap (λ (more : List Row). (let begun : Begun = record { columns = old.columns; rows = old.rows ++ more } in begun)) rows
