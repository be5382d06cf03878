-- Laws of the flow of one move: it is at most each of its terms, so a closed cell sends nothing, no cell
-- sends more than it holds, and what one move brings into a cell is at most the room there.
use Rattle.std.proofs.Common.{◌≡◌, ℕ, zero, suc, ◌*◌, ◌/◌, ◌<◌, ◌≤◌, min, Bool, true, false, if◌then◌else◌, List, [], ◌∷◌, map, fold, length, get_or, slice_index, arith}
use Rattle.std.proofs.Math.Nat.{mul-div-le, mul-le-mul_left, le_trans, div-le_self}
use Rattle.ct_base.specs.Access.{cell_of, parcel}
use Rattle.ct_base.specs.declared.cell.Cell.{Cell}
use Rattle.ct_base.specs.declared.cell.Out.{Out}
use Rattle.ct_base.specs.declared.cell.Out.TheVariants.{Exit, To, Turns}
use Rattle.ct_base.specs.declared.plan.Letter.{Letter}
use Rattle.traffic_model.specs.Flow.{is_open, least, cap_of, further_terms, flow, units_of_flow, outflow}

-- ---- the least of some numbers

-- it is at most the first
fold_min-first : (xs : List ℕ) (x : ℕ) → fold min x xs ≤ x
fold_min-first [] x = omega arith
fold_min-first (y ∷ ys) x = let rest : fold min (min x y) ys ≤ min x y = fold_min-first ys (min x y) in omega arith

-- and at most each of the others
fold_min-each : (xs : List ℕ) (x k : ℕ) → k < length xs → fold min x xs ≤ get_or xs k 0
fold_min-each [] x k within = absurd (omega arith)
fold_min-each (y ∷ ys) x zero within = let rest : fold min (min x y) ys ≤ min x y = fold_min-first ys (min x y) in omega arith
fold_min-each (y ∷ ys) x (suc k) within = fold_min-each ys (min x y) k (omega arith)

-- the least of some numbers is at most each of them
pub least-each : (xs : List ℕ) (k : ℕ) → k < length xs → least xs ≤ get_or xs k 0
least-each [] k within = absurd (omega arith)
least-each (x ∷ xs) zero within = fold_min-first xs x
least-each (x ∷ xs) (suc k) within = fold_min-each xs x k (omega arith)

-- ---- a flow and its terms

-- the flow is at most the term of the cap
gated : (may_leave : Bool) (cap : ℕ) (xs : List ℕ) → may_leave ≡ false → least ((if may_leave then cap else 0) ∷ xs) ≡ 0
gated may_leave cap xs closed = rw closed (let first : fold min 0 xs ≤ 0 = fold_min-first xs 0 in omega arith)

-- the flow out of a cell that is not open is 0
pub flow-closed : (cells : List Cell) (letters : List Letter) (units : List ℕ) (i : ℕ) →
    is_open letters (cell_of cells i).gate ≡ false → flow cells letters units i ≡ 0
unfolding flow
flow-closed cells letters units i closed =
    gated (is_open letters (cell_of cells i).gate) (cap_of cells (cell_of cells i) (cell_of cells i).out) (further_terms cells units i (cell_of cells i).out) closed

-- the flow is at most each sending or receiving term
pub flow-further : (cells : List Cell) (letters : List Letter) (units : List ℕ) (i k : ℕ) →
    k < length (further_terms cells units i (cell_of cells i).out) →
    flow cells letters units i ≤ get_or (further_terms cells units i (cell_of cells i).out) k 0
unfolding flow
flow-further cells letters units i k within =
    fold_min-each (further_terms cells units i (cell_of cells i).out) (if is_open letters (cell_of cells i).gate then cap_of cells (cell_of cells i) (cell_of cells i).out else 0) k within

-- the flow is at most the cap
gated_cap : (may_leave : Bool) (cap : ℕ) (xs : List ℕ) → least ((if may_leave then cap else 0) ∷ xs) ≤ cap
gated_cap true cap xs = fold_min-first xs cap
gated_cap false cap xs = let first : fold min 0 xs ≤ 0 = fold_min-first xs 0 in omega arith

-- and so at most the cap of its move
pub flow-le_cap_of : (cells : List Cell) (letters : List Letter) (units : List ℕ) (i : ℕ) →
    flow cells letters units i ≤ cap_of cells (cell_of cells i) (cell_of cells i).out
unfolding flow
flow-le_cap_of cells letters units i =
    gated_cap (is_open letters (cell_of cells i).gate) (cap_of cells (cell_of cells i) (cell_of cells i).out) (further_terms cells units i (cell_of cells i).out)

-- ---- what leaves a cell

-- a quotient times its divisor is at most the whole
pub times_quotient : (amount part whole : ℕ) → amount ≤ whole / part → part * amount ≤ whole
times_quotient amount part whole le = le_trans (mul-le-mul_left part le) (mul-div-le whole part)

-- a number that is at most each term sends at most what is held
sends_within : (cells : List Cell) (units : List ℕ) (i : ℕ) (out : Out) (amount : ℕ) →
    ((k : ℕ) → k < length (further_terms cells units i out) → amount ≤ get_or (further_terms cells units i out) k 0) →
    units_of_flow out * amount ≤ slice_index units i
sends_within cells units i Exit amount each = let sending : amount ≤ slice_index units i = each 0 (omega arith) in omega arith
sends_within cells units i (To b) amount each = let sending : amount ≤ slice_index units i = each 0 (omega arith) in omega arith
sends_within cells units i (Turns branches) amount each =
    let sending : amount ≤ slice_index units i / parcel branches = each 0 (omega arith) in
    times_quotient amount (parcel branches) (slice_index units i) sending

-- no cell sends more than it holds
pub outflow-le : (cells : List Cell) (letters : List Letter) (units : List ℕ) (i : ℕ) → outflow cells letters units i ≤ slice_index units i
unfolding outflow
outflow-le cells letters units i = sends_within cells units i (cell_of cells i).out (flow cells letters units i) (flow-further cells letters units i)

-- nothing leaves a cell that is not open
pub outflow-closed : (cells : List Cell) (letters : List Letter) (units : List ℕ) (i : ℕ) →
    is_open letters (cell_of cells i).gate ≡ false → outflow cells letters units i ≡ 0
unfolding outflow
outflow-closed cells letters units i closed = rw (flow-closed cells letters units i closed) (omega arith)

-- the cap of a diverge in parcels is at most the whole parcels of the cell's cap
cap_of_turns : (cells : List Cell) (cell : Cell) (branches : List (ℕ × ℕ)) → cap_of cells cell (Turns branches) ≤ cell.cap / parcel branches
cap_of_turns cells cell branches = fold_min-first (map (λ (branch : ℕ × ℕ). (cell_of cells branch.0).cap / branch.1) branches) (cell.cap / parcel branches)

-- a number that is at most the cap of a move sends at most the cell's cap
within_cap : (cells : List Cell) (cell : Cell) (out : Out) (amount : ℕ) → amount ≤ cap_of cells cell out → units_of_flow out * amount ≤ cell.cap
within_cap cells cell Exit amount le = omega arith
within_cap cells cell (To b) amount le = omega arith
within_cap cells cell (Turns branches) amount le = times_quotient amount (parcel branches) cell.cap (le_trans le (cap_of_turns cells cell branches))

-- no cell sends more than its cap
pub outflow-le_cap : (cells : List Cell) (letters : List Letter) (units : List ℕ) (i : ℕ) → outflow cells letters units i ≤ (cell_of cells i).cap
unfolding outflow
outflow-le_cap cells letters units i = within_cap cells (cell_of cells i) (cell_of cells i).out (flow cells letters units i) (flow-le_cap_of cells letters units i)

-- the cap of a move, in units or in parcels, is at most the cell's cap
cap_of-le : (cells : List Cell) (cell : Cell) (out : Out) → cap_of cells cell out ≤ cell.cap
cap_of-le cells cell Exit = omega arith
cap_of-le cells cell (To b) = omega arith
cap_of-le cells cell (Turns branches) = le_trans (cap_of_turns cells cell branches) (div-le_self cell.cap (parcel branches))

-- a flow, in units or in parcels, is at most the cell's cap
pub flow-le_cap : (cells : List Cell) (letters : List Letter) (units : List ℕ) (i : ℕ) → flow cells letters units i ≤ (cell_of cells i).cap
flow-le_cap cells letters units i = le_trans (flow-le_cap_of cells letters units i) (cap_of-le cells (cell_of cells i) (cell_of cells i).out)
