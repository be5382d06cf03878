-- Laws of conservation: what a move takes from a cell is what it brings into others or out of the network,
-- so no unit is lost and none is made, over a step and over a run.
use Rattle.std.proofs.Common.{◌≡◌, ℕ, zero, suc, ◌+◌, ◌*◌, ◌<◌, if◌then◌else◌, List, [], ◌∷◌, length, sum, slice_index, All, refl, ap, ◌∙◌, sym, inl, inr, arith, ◌==◌}
use Rattle.std.proofs.lemmas.Bool.Decides.{eqb_tells}
use Rattle.std.proofs.lemmas.List.Elements.{All-weaker}
use Rattle.std.proofs.lemmas.List.Sums.{sum_by-cons}
use Rattle.ct_base.specs.Access.{cell_of, parcel, targets}
use Rattle.listed.specs.Below.{sum_below}
use Rattle.ct_base.specs.Validity.{IsValid, IsTarget}
use Rattle.ct_base.specs.declared.cell.Cell.{Cell}
use Rattle.ct_base.specs.declared.cell.Out.{Out}
use Rattle.ct_base.specs.declared.cell.Out.TheVariants.{Exit, To, Turns}
use Rattle.ct_base.specs.declared.net.Net.{Net}
use Rattle.ct_base.specs.declared.plan.Letter.{Letter}
use Rattle.listed.proofs.SumLaws.{sum_below-add, sum_below-mul_right, sum_below-none, sum_below-only, sum_below-same, sum_below-swap}
use Rattle.listed.proofs.TableLaws.{sum-table_of, sum_by_index-long}
use Rattle.traffic_model.specs.Conservation.{arriving, by_exit, leaving}
use Rattle.traffic_model.specs.Delay.{left_of}
use Rattle.traffic_model.specs.Flow.{flow, inflow, outflow, parcel_to, share, units_of_flow}
use Rattle.traffic_model.specs.Occupancy.{demand_at, initial_units, next_of, next_units, occupancies}
use Rattle.traffic_model.proofs.FlowLaws.{outflow-le}
use Rattle.traffic_model.proofs.HeldLaws.{length-occupancies}

-- ---- one move

-- an amount for cell b alone, over all cells
amount_into : (n b amount : ℕ) → b < n → sum_below n (λ j. if b == j then amount else 0) ≡ amount
amount_into n b amount within =
    sum_below-only n b (λ j. if b == j then amount else 0) within (λ j h differs. elim (eqb_tells b j) [ inl same ↦ absurd (differs (sym same.1)) | inr other ↦ rw other.0 refl ])
    ∙ (elim (eqb_tells b b) [ inl same ↦ rw same.0 refl | inr other ↦ absurd (other.1 refl) ])

-- the parts of a parcel, over all cells, are the parcel
whole_parcel : (n : ℕ) (branches : List (ℕ × ℕ)) → All (λ k. k < n) (targets (Turns branches)) → sum_below n (λ j. parcel_to j branches) ≡ parcel branches
whole_parcel n [] within = sum_below-none n (λ j. 0) (λ j h. refl)
whole_parcel n (branch ∷ branches) within =
    let first : sum_below n (λ j. if branch.0 == j then branch.1 else 0) ≡ branch.1 = amount_into n branch.0 branch.1 (within 0 0 (omega arith)) in
    let others : sum_below n (λ j. parcel_to j branches) ≡ parcel branches = whole_parcel n branches (λ k d h. within (suc k) d (omega arith)) in
    let both : sum_below n (λ j. parcel_to j (branch ∷ branches)) ≡ sum_below n (λ j. if branch.0 == j then branch.1 else 0) + sum_below n (λ j. parcel_to j branches) =
    sum_below-add n (λ j. if branch.0 == j then branch.1 else 0) (λ j. parcel_to j branches) in
    let cons : parcel (branch ∷ branches) ≡ branch.1 + parcel branches = sum_by-cons (λ (b : ℕ × ℕ). b.1) branch branches in
    both ∙ ap (λ s. s + sum_below n (λ j. parcel_to j branches)) first ∙ ap (λ s. branch.1 + s) others ∙ sym cons

-- what a move brings into all cells, and what it brings out of the network, is what it takes
move_conserves : (n : ℕ) (out : Out) (amount : ℕ) → All (λ k. k < n) (targets out) →
    sum_below n (λ j. share out j * amount) + by_exit out (units_of_flow out * amount) ≡ units_of_flow out * amount
move_conserves n Exit amount within = let none : sum_below n (λ j. 0 * amount) ≡ 0 = sum_below-none n (λ j. 0 * amount) (λ j h. omega arith) in omega arith
move_conserves n (To b) amount within =
    let factor : sum_below n (λ j. (if b == j then 1 else 0) * amount) ≡ sum_below n (λ j. if b == j then 1 else 0) * amount =
    sum_below-mul_right n amount (λ j. if b == j then 1 else 0) in
    let one : sum_below n (λ j. if b == j then 1 else 0) ≡ 1 = amount_into n b 1 (within 0 0 (omega arith)) in
    rw (factor, one) (omega arith)
move_conserves n (Turns branches) amount within =
    let factor : sum_below n (λ j. parcel_to j branches * amount) ≡ sum_below n (λ j. parcel_to j branches) * amount =
    sum_below-mul_right n amount (λ j. parcel_to j branches) in
    let whole : sum_below n (λ j. parcel_to j branches) ≡ parcel branches = whole_parcel n branches within in
    rw (factor, whole) (omega arith)

-- ---- one step

-- all inflows are what all moves bring into all cells
inflows_by_move : (cells : List Cell) (letters : List Letter) (units : List ℕ) →
    sum_below (length cells) (inflow cells letters units) ≡ sum_below (length cells) (λ i. sum_below (length cells) (λ j. share (cell_of cells i).out j * flow cells letters units i))
unfolding inflow
inflows_by_move cells letters units = sum_below-swap (length cells) (length cells) (λ j i. share (cell_of cells i).out j * flow cells letters units i)

-- all inflows, and what leaves the network, are all outflows
moves_conserve : (net : Net) (letters : List Letter) (units : List ℕ) → IsValid net →
    sum_below (length net.cells) (inflow net.cells letters units) + leaving net.cells letters units ≡ sum_below (length net.cells) (outflow net.cells letters units)
unfolding leaving outflow
moves_conserve net letters units valid =
    let brought = λ (i : ℕ). sum_below (length net.cells) (λ j. share (cell_of net.cells i).out j * flow net.cells letters units i) in
    let left = λ (i : ℕ). by_exit (cell_of net.cells i).out (units_of_flow (cell_of net.cells i).out * flow net.cells letters units i) in
    let taken = λ (i : ℕ). units_of_flow (cell_of net.cells i).out * flow net.cells letters units i in
    ap (λ s. s + sum_below (length net.cells) left) (inflows_by_move net.cells letters units)
    ∙ sym (sum_below-add (length net.cells) brought left)
    ∙ sum_below-same (length net.cells) (λ i. brought i + left i) taken
    (λ i h. move_conserves (length net.cells) (cell_of net.cells i).out (flow net.cells letters units i)
    (All-weaker (IsTarget net.cells i) (λ k. k < length net.cells) (λ k target. target.within) (targets (cell_of net.cells i).out) (valid.each_cell i h).targets))

-- what a cell holds after a step and what it sent is what it held and what entered
next_of_balance : (cells : List Cell) (letters : List Letter) (t : ℕ) (units : List ℕ) (j : ℕ) →
    next_of cells letters t units j + outflow cells letters units j ≡ (slice_index units j + inflow cells letters units j) + demand_at (cell_of cells j) t
unfolding next_of
next_of_balance cells letters t units j = omega (arith, outflow-le cells letters units j)

-- the same over all cells
cells_balance : (cells : List Cell) (letters : List Letter) (t : ℕ) (units : List ℕ) → length units ≡ length cells →
    sum (next_units cells letters t units) + sum_below (length cells) (outflow cells letters units)
    ≡ (sum units + sum_below (length cells) (inflow cells letters units)) + arriving cells t
unfolding next_units arriving
cells_balance cells letters t units long =
    let held = λ (j : ℕ). slice_index units j in
    ap (λ s. s + sum_below (length cells) (outflow cells letters units)) (sum-table_of (length cells) (next_of cells letters t units))
    ∙ sym (sum_below-add (length cells) (next_of cells letters t units) (outflow cells letters units))
    ∙ sum_below-same (length cells) (λ j. next_of cells letters t units j + outflow cells letters units j) (λ j. (held j + inflow cells letters units j) + demand_at (cell_of cells j) t)
    (λ j h. next_of_balance cells letters t units j)
    ∙ sum_below-add (length cells) (λ j. held j + inflow cells letters units j) (λ j. demand_at (cell_of cells j) t)
    ∙ ap (λ s. s + sum_below (length cells) (λ j. demand_at (cell_of cells j) t)) (sum_below-add (length cells) held (inflow cells letters units))
    ∙ ap (λ s. (s + sum_below (length cells) (inflow cells letters units)) + sum_below (length cells) (λ j. demand_at (cell_of cells j) t)) (sym (sum_by_index-long units (length cells) long))

-- over one step no unit is lost and none is made
pub next_units-conserve : (net : Net) (letters : List Letter) (t : ℕ) (units : List ℕ) → IsValid net → length units ≡ length net.cells →
    sum (next_units net.cells letters t units) + leaving net.cells letters units ≡ sum units + arriving net.cells t
next_units-conserve net letters t units valid long =
    let balance : sum (next_units net.cells letters t units) + sum_below (length net.cells) (outflow net.cells letters units)
    ≡ (sum units + sum_below (length net.cells) (inflow net.cells letters units)) + arriving net.cells t = cells_balance net.cells letters t units long in
    let moves : sum_below (length net.cells) (inflow net.cells letters units) + leaving net.cells letters units ≡ sum_below (length net.cells) (outflow net.cells letters units) =
    moves_conserve net letters units valid in
    omega arith

-- ---- a run

-- over a whole run no unit is lost and none is made
pub occupancies-conserve : (net : Net) (letters : ℕ → List Letter) (k : ℕ) → IsValid net →
    left_of net.cells letters k + sum_below k (λ t. leaving net.cells (letters t) (occupancies net.cells letters t))
    ≡ sum (initial_units net.cells) + sum_below k (arriving net.cells)
unfolding left_of occupancies sum_below
occupancies-conserve net letters zero valid = refl
occupancies-conserve net letters (suc k) valid =
    let before : sum (occupancies net.cells letters k) + sum_below k (λ t. leaving net.cells (letters t) (occupancies net.cells letters t))
    ≡ sum (initial_units net.cells) + sum_below k (arriving net.cells) = occupancies-conserve net letters k valid in
    let step : sum (next_units net.cells (letters k) k (occupancies net.cells letters k)) + leaving net.cells (letters k) (occupancies net.cells letters k)
    ≡ sum (occupancies net.cells letters k) + arriving net.cells k =
    next_units-conserve net (letters k) k (occupancies net.cells letters k) valid (length-occupancies net.cells letters k) in
    omega arith
