-- Laws of what enters a cell: the moves into one cell are separated by one signal, so at most one of them
-- has a flow, and that flow fits into the room that is left.
use Rattle.std.proofs.Common.{◌≡◌, ◌≢◌, ◌⊎◌, inl, inr, ℕ, ◌+◌, ◌-◌, ◌*◌, ◌<◌, ◌≤◌, min, subst, true, false, Option, Some, None, List, length, slice_index, bit_and, ap, ◌∙◌, sym, arith, eqb-true, true≢false}
use Rattle.std.specs.Int.{bit_at}
use Rattle.std.proofs.lemmas.Bool.{cases_Bool}
use Rattle.std.proofs.lemmas.List.Elements.{All-contains}
use Rattle.std.proofs.lemmas.Nat.Bits.{bit_at_and, bit_at-zero}
use Rattle.ct_base.specs.Access.{cell_of, targets}
use Rattle.listed.specs.Below.{sum_below}
use Rattle.ct_base.specs.Validity.{IsValid, IsTarget, IsRoad, IsOfKind, AreApart}
use Rattle.ct_base.specs.declared.cell.Cell.{Cell}
use Rattle.ct_base.specs.declared.cell.Gate.{Gate}
use Rattle.ct_base.specs.declared.cell.Kind.TheVariants.{Queue, Road}
use Rattle.ct_base.specs.declared.net.Net.{Net}
use Rattle.ct_base.specs.declared.plan.Letter.{Letter}
use Rattle.ct_base.specs.declared.plan.Letter.TheVariants.{Green, Clear}
use Rattle.listed.proofs.SumLaws.{sum_below-at_most_one, sum_below-fewer, sum_below-none}
use Rattle.traffic_model.specs.Flow.{is_green_among, is_open, letter_of, flow, share, inflow}
use Rattle.traffic_model.specs.Occupancy.{AreHeld}
use Rattle.traffic_model.proofs.FlowLaws.{flow-closed, flow-further}
use Rattle.traffic_model.proofs.ShareLaws.{brings_within, receiving-le, share_cases}

-- ---- separated moves

-- no letter is the green of a phase of each of two sets that have none in common
both_green : (g h : ℕ) (letter : Letter) → bit_and g h ≡ 0 → is_green_among g letter ≡ true → is_green_among h letter ≡ true → ⊥
both_green g h (Green p) apart in_g in_h =
    let at_g : bit_at g p ≡ 1 = eqb-true (bit_at g p) 1 in_g in
    let at_h : bit_at h p ≡ 1 = eqb-true (bit_at h p) 1 in_h in
    let at_both : bit_at (bit_and g h) p ≡ min (bit_at g p) (bit_at h p) = bit_at_and g h p in
    let nowhere : bit_at (bit_and g h) p ≡ 0 = ap (λ n. bit_at n p) apart ∙ bit_at-zero p in
    omega arith
both_green g h (Clear p) apart in_g in_h = absurd (true≢false (sym in_g))

-- two gates that are apart are not both open
both_open : (letters : List Letter) (first second : Option Gate) → AreApart first second →
    is_open letters first ≡ true → is_open letters second ≡ true → ⊥
both_open letters None second apart open_first open_second = apart
both_open letters (Some g) None apart open_first open_second = apart
both_open letters (Some g) (Some h) apart open_first open_second =
    both_green g.greens h.greens (letter_of letters g.signal) apart.1 open_first
    (subst (λ s. is_green_among h.greens (letter_of letters s) ≡ true) (sym apart.0) open_second)

-- ---- the inflow

-- what cell i sends into cell j
abbrev brought : List Cell → List Letter → List ℕ → ℕ → ℕ → ℕ
brought cells letters units j i = share (cell_of cells i).out j * flow cells letters units i

-- a closed cell brings nothing
brought-closed : (cells : List Cell) (letters : List Letter) (units : List ℕ) (j i : ℕ) →
    is_open letters (cell_of cells i).gate ≡ false → brought cells letters units j i ≡ 0
brought-closed cells letters units j i closed = rw (flow-closed cells letters units i closed) (omega arith)

-- of two moves into one cell at least one brings nothing
brought_by_one : (net : Net) (letters : List Letter) (units : List ℕ) (j i k : ℕ) → IsValid net →
    i < length net.cells → k < length net.cells → i ≢ k →
    (brought net.cells letters units j i ≡ 0) ⊎ (brought net.cells letters units j k ≡ 0)
brought_by_one net letters units j i k valid within_i within_k differ =
    elim (share_cases (cell_of net.cells i).out j) [
      | inl none ↦ inl (rw none (omega arith))
      | inr from_i ↦
          elim (share_cases (cell_of net.cells k).out j) [
            | inl none ↦ inr (rw none (omega arith))
            | inr from_k ↦
                elim (cases_Bool (is_open letters (cell_of net.cells i).gate)) [
                  | inr closed ↦ inl (brought-closed net.cells letters units j i closed)
                  | inl open_i ↦
                      elim (cases_Bool (is_open letters (cell_of net.cells k).gate)) [
                        | inr closed ↦ inr (brought-closed net.cells letters units j k closed)
                        | inl open_k ↦
                            absurd (both_open letters (cell_of net.cells i).gate (cell_of net.cells k).gate (valid.merges i within_i k within_k differ j from_i from_k) open_i open_k)
                      ]
                ]
          ]
    ]

-- a road cell of a valid network is a valid road cell
pub road_of : (net : Net) (j : ℕ) → IsValid net → j < length net.cells → (cell_of net.cells j).kind ≡ Road → IsRoad (cell_of net.cells j)
road_of net j valid within is_road = subst (λ kind. IsOfKind kind net.steps (cell_of net.cells j)) is_road (valid.each_cell j within).kind

-- what enters a road cell is at most its free storage
pub inflow-le_free : (net : Net) (letters : List Letter) (units : List ℕ) (j : ℕ) → IsValid net →
    j < length net.cells → (cell_of net.cells j).kind ≡ Road →
    inflow net.cells letters units j ≤ (cell_of net.cells j).store - slice_index units j
unfolding inflow
inflow-le_free net letters units j valid within is_road =
    sum_below-at_most_one (length net.cells) ((cell_of net.cells j).store - slice_index units j) (brought net.cells letters units j)
    (λ i k h l differ. brought_by_one net letters units j i k valid h l differ)
    (λ i h. brings_within net.cells units i j (cell_of net.cells i).out (flow net.cells letters units i) ((cell_of net.cells j).store - slice_index units j)
    (valid.each_cell i h).split (receiving-le (cell_of net.cells j) (slice_index units j) (road_of net j valid within is_road)) (flow-further net.cells letters units i))

-- what enters a road cell never exceeds the room that is left in it
pub inflow_fits : (net : Net) (letters : List Letter) (t : ℕ) (units : List ℕ) (j : ℕ) →
    IsValid net → AreHeld net.cells t units → j < length net.cells → (cell_of net.cells j).kind ≡ Road →
    inflow net.cells letters units j + slice_index units j ≤ (cell_of net.cells j).store
inflow_fits net letters t units j valid held within is_road =
    let room : inflow net.cells letters units j ≤ (cell_of net.cells j).store - slice_index units j = inflow-le_free net letters units j valid within is_road in
    let stored : slice_index units j ≤ (cell_of net.cells j).store = rw is_road at (held.each j within) in
    omega arith

-- nothing enters a queue from other cells
pub inflow_of_queue : (net : Net) (letters : List Letter) (units : List ℕ) (j : ℕ) → IsValid net →
    (cell_of net.cells j).kind ≡ Queue → inflow net.cells letters units j ≡ 0
unfolding inflow
inflow_of_queue net letters units j valid is_queue =
    sum_below-none (length net.cells) (brought net.cells letters units j)
    (λ i h. elim (share_cases (cell_of net.cells i).out j) [
      | inl none ↦ rw none (omega arith)
      | inr at ↦
          let is_road : (cell_of net.cells j).kind ≡ Road = (All-contains (IsTarget net.cells i) (targets (cell_of net.cells i).out) j (valid.each_cell i h).targets at).road in
          cc
    ])

-- what the first cells bring is within the inflow
pub inflow_so_far : (cells : List Cell) (letters : List Letter) (units : List ℕ) (j m : ℕ) → m ≤ length cells →
    sum_below m (λ i. share (cell_of cells i).out j * flow cells letters units i) ≤ inflow cells letters units j
unfolding inflow
inflow_so_far cells letters units j m few = sum_below-fewer m (length cells) (brought cells letters units j) few
