-- The prices of a cell's rows by how many there are, as the code adds them.
use Rattle.std.proofs.Common.{◌≡◌, inl, inr, ℕ, suc, ◌+◌, ◌-◌, ◌*◌, ◌≤◌, List, [], ◌∷◌, ◌++◌, length, refl, ap, ◌∙◌, sym, arith, append-nil, append_assoc}
use Rattle.std.specs.Prelude.{if◌then◌else◌, nat_lt, replicate, ℤ, pos, neg_ℤ}
use Rattle.std.proofs.lemmas.Bool.{cases_Bool}
use Rattle.listed.specs.Below.{join_below}
use Rattle.ct_base.specs.Access.{cell_of}
use Rattle.ct_base.specs.declared.cell.Cell.{Cell}
use Rattle.ct_base.specs.declared.cell.Out.{Out}
use Rattle.ct_base.specs.declared.cell.Out.TheVariants.{Exit, To, Turns}
use Rattle.ct_base.specs.declared.net.Net.{Net}
use Rattle.program_model.specs.Columns.{Column, columns_of_split, has_room, term_count}
use Rattle.program_model.specs.FlowRows.{branch_terms, branches_rows, conservation_rows, further_terms, move_terms, room_rows}
use Rattle.program_model.specs.RuleRows.{rule_rows}
use Rattle.program_model.specs.SwitchRows.{Term}
use Rattle.traffic_model.specs.Flow.{units_of_flow}
use Rattle.lo_program.proofs.FlowCounts.{half_of_split}
use Rattle.program_model.proofs.NumberLaws.{length-split}
use Rattle.seed_prices.specs.Seed.{move_prices, price_of_units, seed_at, seed_of, split_prices, unpriced}

-- as many prices of 0 as there are of them
pub unpriced-replicate : {X : Type 0} (xs : List X) → unpriced xs ≡ replicate (length xs) (pos 0)
unpriced-replicate [] = refl
unpriced-replicate (x ∷ xs) = ap (λ list. pos 0 ∷ list) (unpriced-replicate xs)

-- of two lists together
pub unpriced-append : {X Y : Type 0} (xs : List X) (ys : List Y) → unpriced xs ++ unpriced ys ≡ replicate (length xs + length ys) (pos 0)
unpriced-append [] ys =
    let none : 0 + length ys ≡ length ys = omega arith in
    rw none (unpriced-replicate ys)
unpriced-append (x ∷ xs) ys =
    let more : suc (length xs) + length ys ≡ suc (length xs + length ys) = omega arith in
    rw more (ap (λ list. pos 0 ∷ list) (unpriced-append xs ys))

-- of a cell's room
pub room_unpriced : (cells : List Cell) (t i : ℕ) → unpriced (room_rows cells t i) ≡ replicate (if has_room cells i then 1 else 0) (pos 0)
room_unpriced cells t i = elim (cases_Bool (has_room cells i)) [ inl has ↦ rw has refl | inr none ↦ rw none refl ]

-- of what a cell holds in the next step
pub next_unpriced : (cells : List Cell) (steps t i : ℕ) → unpriced (conservation_rows cells steps t i) ≡ replicate (if nat_lt (t + 1) steps then 1 else 0) (pos 0)
next_unpriced cells steps t i = elim (cases_Bool (nat_lt (t + 1) steps)) [ inl before ↦ rw before refl | inr last ↦ rw last refl ]

-- how many terms a move has
length_branch_terms : (cells : List Cell) (t i k : ℕ) (branches : List (ℕ × ℕ)) → length (branch_terms cells t i k branches) ≡ length branches
length_branch_terms cells t i k [] = refl
length_branch_terms cells t i k (branch ∷ branches) = ap suc (length_branch_terms cells t i (k + 1) branches)

length_further : (cells : List Cell) (t i : ℕ) (out : Out) → 1 + length (further_terms cells t i out) ≡ term_count out
length_further cells t i Exit = refl
length_further cells t i (To b) = refl
length_further cells t i (Turns branches) = omega (arith, length_branch_terms cells t i 0 branches)

pub length-move_terms : (net : Net) (t i : ℕ) → length (move_terms net t i) ≡ term_count (cell_of net.cells i).out
length-move_terms net t i = omega (arith, length_further net.cells t i (cell_of net.cells i).out)

-- the prices of a move by the number of its terms
pub move_prices_are : (price : ℤ) (terms : List (Term Column)) (more : ℕ) → 2 ≤ length terms → more ≡ 2 * length terms - 2 →
    move_prices price terms ≡ pos 0 ∷ pos 0 ∷ price ∷ replicate more (pos 0)
move_prices_are price [] more two is = absurd (omega (arith, two))
move_prices_are price (cap ∷ []) more two is = absurd (omega (arith, two))
move_prices_are price (cap ∷ sending ∷ receiving) more two is =
    let all : length receiving + suc (suc (length receiving)) ≡ more = omega (arith, is) in
    ap (λ list. pos 0 ∷ pos 0 ∷ price ∷ list) (unpriced-append receiving (cap ∷ sending ∷ receiving) ∙ ap (λ n. replicate n (pos 0)) all)

-- the floors of a diverge by the number of its columns
pub floors_of_branches : (cells : List Cell) (t i : ℕ) (branches : List (ℕ × ℕ)) → 2 + 2 * length (branches_rows cells t i 0 branches) ≡ length (columns_of_split 0 0 (Turns branches))
floors_of_branches cells t i branches = omega (arith, half_of_split cells t i (Turns branches), length-split t i 0 0 (Turns branches))

pub split_prices_are : (cells : List Cell) (t i more : ℕ) (branches : List (ℕ × ℕ)) → 2 + 2 * more ≡ length (columns_of_split 0 0 (Turns branches)) →
    split_prices cells t i (Turns branches) ≡ neg_ℤ (price_of_units 1) ∷ replicate more (pos 0)
split_prices_are cells t i more branches is =
    let all : length (branches_rows cells t i 0 branches) ≡ more = omega (arith, is, floors_of_branches cells t i branches) in
    ap (λ list. neg_ℤ (price_of_units 1) ∷ list) (unpriced-replicate (branches_rows cells t i 0 branches) ∙ ap (λ n. replicate n (pos 0)) all)

-- nothing behind a list yet
pub none_behind : {X : Type 0} (before nothing : List X) → nothing ≡ [] → before ≡ before ++ nothing
none_behind before nothing none = sym (ap (λ list. before ++ list) none ∙ append-nil before)

-- one part more behind another
pub part_behind : {X : Type 0} (before first second old new : List X) → old ≡ before ++ first → new ≡ old ++ second → new ≡ before ++ (first ++ second)
part_behind before first second old new was added = added ∙ ap (λ list. list ++ second) was ∙ append_assoc before first second

-- the prices of a move, as they are added
pub move_added : (before first second third : List ℤ) (price : ℤ) (terms : List (Term Column)) (more : ℕ) → 2 ≤ length terms → more ≡ 2 * length terms - 2 →
    first ≡ before ++ replicate 2 (pos 0) → second ≡ first ++ price ∷ [] → third ≡ second ++ replicate more (pos 0) → third ≡ before ++ move_prices price terms
move_added before first second third price terms more two is one next last =
    let both : second ≡ before ++ (pos 0 ∷ pos 0 ∷ price ∷ []) = part_behind before (replicate 2 (pos 0)) (price ∷ []) first second one next in
    part_behind before (pos 0 ∷ pos 0 ∷ price ∷ []) (replicate more (pos 0)) second third both last
    ∙ ap (λ list. before ++ list) (sym (move_prices_are price terms more two is))

-- the prices of the floors of a diverge, as they are added
pub split_added : (before first second : List ℤ) (price : ℤ) (cells : List Cell) (t i more : ℕ) (out : Out) (branches : List (ℕ × ℕ)) →
    out ≡ Turns branches → price ≡ neg_ℤ (price_of_units 1) → 2 + 2 * more ≡ length (columns_of_split 0 0 out) →
    first ≡ before ++ price ∷ [] → second ≡ first ++ replicate more (pos 0) → second ≡ before ++ split_prices cells t i out
split_added before first second price cells t i more out branches is priced count one next =
    let long : 2 + 2 * more ≡ length (columns_of_split 0 0 (Turns branches)) = count ∙ ap (λ (o : Out). length (columns_of_split 0 0 o)) is in
    let prices : price ∷ replicate more (pos 0) ≡ split_prices cells t i out =
    ap (λ (z : ℤ). z ∷ replicate more (pos 0)) priced ∙ sym (split_prices_are cells t i more branches long) ∙ ap (split_prices cells t i) (sym is) in
    part_behind before (price ∷ []) (replicate more (pos 0)) first second one next ∙ ap (λ list. before ++ list) prices

-- the prices of all rows, as they are added
pub seed_added : (net : Net) (none rules all : List ℤ) (count : ℕ) → none ≡ [] → count ≡ length (rule_rows net) → rules ≡ none ++ replicate count (pos 0) →
    all ≡ rules ++ join_below net.steps (λ t. join_below (length net.cells) (seed_at net t)) → all ≡ seed_of net
unfolding seed_of
seed_added net none rules all count is long added more =
    let first : rules ≡ unpriced (rule_rows net) =
    added ∙ ap (λ list. list ++ replicate count (pos 0)) is ∙ ap (λ n. replicate n (pos 0)) long ∙ sym (unpriced-replicate (rule_rows net)) in
    more ∙ ap (λ list. list ++ join_below net.steps (λ t. join_below (length net.cells) (seed_at net t))) first

-- the prices of a cell's rows, as they are added
pub cell_added : (net : Net) (t i : ℕ) (out : Out) (before first second third fourth : List ℤ) → out ≡ (cell_of net.cells i).out →
    first ≡ before ++ replicate (if has_room net.cells i then 1 else 0) (pos 0) → second ≡ first ++ split_prices net.cells t i out →
    third ≡ second ++ move_prices (price_of_units (units_of_flow out)) (move_terms net t i) →
    fourth ≡ third ++ replicate (if nat_lt (t + 1) net.steps then 1 else 0) (pos 0) → fourth ≡ before ++ seed_at net t i
unfolding seed_at
cell_added net t i out before first second third fourth is rooms floors move next =
    let own : Out = (cell_of net.cells i).out in
    let room : List ℤ = unpriced (room_rows net.cells t i) in
    let floor : List ℤ = split_prices net.cells t i own in
    let of_move : List ℤ = move_prices (price_of_units (units_of_flow own)) (move_terms net t i) in
    let last : List ℤ = unpriced (conservation_rows net.cells net.steps t i) in
    let one : first ≡ before ++ room = rooms ∙ ap (λ list. before ++ list) (sym (room_unpriced net.cells t i)) in
    let two : second ≡ before ++ (room ++ floor) = part_behind before room floor first second one (floors ∙ ap (λ (o : Out). first ++ split_prices net.cells t i o) is) in
    let three : third ≡ before ++ ((room ++ floor) ++ of_move) =
    part_behind before (room ++ floor) of_move second third two (move ∙ ap (λ (o : Out). second ++ move_prices (price_of_units (units_of_flow o)) (move_terms net t i)) is) in
    part_behind before ((room ++ floor) ++ of_move) last third fourth three (next ∙ ap (λ list. third ++ list) (sym (next_unpriced net.cells net.steps t i)))

-- a move has two terms at least
pub two_terms : (out : Out) → 2 ≤ term_count out
two_terms Exit = omega arith
two_terms (To b) = omega arith
two_terms (Turns branches) = omega arith

-- the floors of a diverge are half its columns
pub floors_of_split : (out : Out) (branches : List (ℕ × ℕ)) → out ≡ Turns branches → 2 + 2 * length (branches_rows [] 0 0 0 branches) ≡ length (columns_of_split 0 0 out)
floors_of_split out branches is = floors_of_branches [] 0 0 branches ∙ ap (λ (o : Out). length (columns_of_split 0 0 o)) (sym is)
