-- At most eight moves lead into a cell of a valid network: those that do are opened by different phases of one signal.
use Rattle.std.proofs.Common.{◌≡◌, ◌≢◌, ◌⊎◌, inl, inr, ℕ, zero, suc, ◌*◌, ◌/◌, ◌%◌, ◌^◌, ◌<◌, ◌≤◌, List, [], ◌∷◌, ◌++◌, length, filter, Contains, refl, ap, ◌∙◌, arith}
use Rattle.std.specs.Prelude.{nat_eq, if◌then◌else◌, min, bit_and, Option, Some, None, IfSome}
use Rattle.std.specs.Int.{bit_at}
use Rattle.std.proofs.lemmas.Bool.{cases_Bool, cases_eq}
use Rattle.std.proofs.lemmas.List.Elements.{filter-append}
use Rattle.std.proofs.lemmas.List.{length-append}
use Rattle.std.proofs.lemmas.Nat.Bits.{bit_at-lt, bit_at-suc, bit_at-zero, bit_at_and, bit_at_lowest}
use Rattle.listed.specs.Below.{sum_below, table_of}
use Rattle.listed.proofs.SumLaws.{sum_below-at_most_one, sum_below-bound, sum_below-le, sum_below-mul, sum_below-swap, sum_below-term}
use Rattle.ct_base.specs.Access.{cell_of, signal_of, targets}
use Rattle.ct_base.specs.Validity.{AreApart, IsGate, IsValid}
use Rattle.ct_base.specs.declared.cell.Cell.{Cell}
use Rattle.ct_base.specs.declared.cell.Gate.{Gate}
use Rattle.ct_base.specs.declared.net.Net.{Net}
use Rattle.traffic_model.proofs.ShareLaws.{share_cases}
use Rattle.program_model.proofs.PlanBits.{signal_is}
use Rattle.lo_program.specs.inner.Flows.{brings, feeder, feeders_among, feeders_of}

-- ---- gates

-- a number that is not 0 has a bit
has_bit : (m n : ℕ) → n < 2 ^ m → 1 ≤ n → (p : ℕ) × (p < m) × (bit_at n p ≡ 1)
has_bit zero n low some = absurd (omega (arith, low, some))
has_bit (suc m) n low some =
    elim (cases_eq (n % 2) 1) [
      | inl odd ↦ (0, omega arith, bit_at_lowest n ∙ odd)
      | inr even ↦
          let half : n / 2 < 2 ^ m = omega (arith, low) in
          let later = has_bit m (n / 2) half (omega (arith, some, even)) in
          (suc later.0, omega (arith, later.1), bit_at-suc n later.0 ∙ later.2)
    ]

-- the phases that open a gate: phase p, or for no gate phase 0 alone
abbrev gate_bit : Option Gate → ℕ → ℕ
gate_bit None p = if nat_eq p 0 then 1 else 0
gate_bit (Some gate) p = bit_at gate.greens p

gate_bit-le : (gate : Option Gate) (p : ℕ) → gate_bit gate p ≤ 1
gate_bit-le None p =
    elim (cases_Bool (nat_eq p 0)) [
      | inl first ↦ rw first (omega arith)
      | inr later ↦ rw later (omega arith)
    ]
gate_bit-le (Some gate) p = omega (arith, bit_at-lt gate.greens p)

-- a gate is opened by some phase
some_gate_bit : (net : Net) (gate : Option Gate) → IsValid net → IfSome gate (IsGate net.signals) → 1 ≤ sum_below 8 (gate_bit gate)
some_gate_bit net None valid gated = sum_below-term 8 0 (gate_bit None) (omega arith)
some_gate_bit net (Some gate) valid gated =
    let phases : length (signal_of net.signals gate.signal).phases ≤ 8 = (signal_is net gate.signal valid gated.signal).phases.1 in
    let bit = has_bit (length (signal_of net.signals gate.signal).phases) gate.greens gated.phases gated.opens in
    let there : gate_bit (Some gate) bit.0 ≤ sum_below 8 (gate_bit (Some gate)) = sum_below-term 8 bit.0 (gate_bit (Some gate)) (omega (arith, bit.1, phases)) in
    omega (arith, there, bit.2)

-- no phase opens both of two gates that are apart
one_bit : (first second : Option Gate) (p : ℕ) → AreApart first second → (gate_bit first p ≡ 0) ⊎ (gate_bit second p ≡ 0)
one_bit None second p apart = absurd apart
one_bit (Some g) None p apart = absurd apart
one_bit (Some g) (Some h) p apart =
    let both : bit_at (bit_and g.greens h.greens) p ≡ min (bit_at g.greens p) (bit_at h.greens p) = bit_at_and g.greens h.greens p in
    let nowhere : bit_at (bit_and g.greens h.greens) p ≡ 0 = ap (λ n. bit_at n p) apart.1 ∙ bit_at-zero p in
    elim (cases_eq (bit_at g.greens p) 0) [
      | inl none ↦ inl none
      | inr some ↦ inr (omega (arith, both, nowhere, some))
    ]

-- ---- moves

-- 1 where the move out of cell j leads into cell i
abbrev leads : List Cell → ℕ → ℕ → ℕ
leads cells i j = if brings (feeder cells i j) then 1 else 0

-- as many moves as lead there
length-feeders : (cells : List Cell) (n i : ℕ) → length (feeders_among cells n i) ≡ sum_below n (leads cells i)
unfolding sum_below table_of
length-feeders cells zero i = refl
length-feeders cells (suc n) i =
    let parts : filter brings (table_of n (feeder cells i) ++ feeder cells i n ∷ []) ≡ filter brings (table_of n (feeder cells i)) ++ filter brings (feeder cells i n ∷ []) =
    filter-append brings (table_of n (feeder cells i)) (feeder cells i n ∷ []) in
    let before : length (filter brings (table_of n (feeder cells i))) ≡ sum_below n (leads cells i) = length-feeders cells n i in
    elim (cases_Bool (brings (feeder cells i n))) [
      | inl so ↦ rw (parts, so, length-append, before) refl
      | inr not_so ↦ rw (parts, not_so, length-append, before) refl
    ]

-- 1 where the move out of cell j leads into cell i and phase p opens it
abbrev opened : List Cell → ℕ → ℕ → ℕ → ℕ
opened cells i j p = leads cells i j * gate_bit (cell_of cells j).gate p

-- a move brings units, or it does not
leads_cases : (cells : List Cell) (i j : ℕ) → (leads cells i j ≡ 0) ⊎ ((leads cells i j ≡ 1) × Contains (targets (cell_of cells j).out) i)
leads_cases cells i j =
    elim (share_cases (cell_of cells j).out i) [
      | inl none ↦ inl (rw none refl)
      | inr there ↦
          elim (cases_Bool (brings (feeder cells i j))) [
            | inl so ↦ inr (rw so refl, there)
            | inr not_so ↦ inl (rw not_so refl)
          ]
    ]

-- a move that leads there is opened by some phase
leads_by_phase : (net : Net) (i j : ℕ) → IsValid net → j < length net.cells → leads net.cells i j ≤ sum_below 8 (opened net.cells i j)
leads_by_phase net i j valid inside =
    let some : 1 ≤ sum_below 8 (gate_bit (cell_of net.cells j).gate) = some_gate_bit net (cell_of net.cells j).gate valid (valid.each_cell j inside).gate in
    let product : sum_below 8 (opened net.cells i j) ≡ leads net.cells i j * sum_below 8 (gate_bit (cell_of net.cells j).gate) = sum_below-mul 8 (leads net.cells i j) (gate_bit (cell_of net.cells j).gate) in
    elim (leads_cases net.cells i j) [
      | inl none ↦ rw none (omega arith)
      | inr one ↦
          let whole : sum_below 8 (opened net.cells i j) ≡ sum_below 8 (gate_bit (cell_of net.cells j).gate) = product ∙ ap (λ n. n * sum_below 8 (gate_bit (cell_of net.cells j).gate)) one.0 ∙ (omega arith) in
          omega (arith, whole, some, one.0)
    ]

-- a phase opens at most one of them
one_by_phase : (net : Net) (i p j k : ℕ) → IsValid net → j < length net.cells → k < length net.cells → j ≢ k → (opened net.cells i j p ≡ 0) ⊎ (opened net.cells i k p ≡ 0)
one_by_phase net i p j k valid in_j in_k differ =
    elim (leads_cases net.cells i j) [
      | inl none ↦ inl (rw none (omega arith))
      | inr from_j ↦
          elim (leads_cases net.cells i k) [
            | inl none ↦ inr (rw none (omega arith))
            | inr from_k ↦
                elim (one_bit (cell_of net.cells j).gate (cell_of net.cells k).gate p (valid.merges j in_j k in_k differ i from_j.1 from_k.1)) [
                  | inl closed ↦ inl (ap (λ n. leads net.cells i j * n) closed ∙ (omega arith))
                  | inr closed ↦ inr (ap (λ n. leads net.cells i k * n) closed ∙ (omega arith))
                ]
          ]
    ]

opened-le : (net : Net) (i p j : ℕ) → opened net.cells i j p ≤ 1
opened-le net i p j =
    elim (leads_cases net.cells i j) [
      | inl none ↦ rw none (omega arith)
      | inr one ↦
          let same : opened net.cells i j p ≡ gate_bit (cell_of net.cells j).gate p = ap (λ n. n * gate_bit (cell_of net.cells j).gate p) one.0 ∙ (omega arith) in
          omega (arith, same, gate_bit-le (cell_of net.cells j).gate p)
    ]

-- so there are at most as many as phases
pub few_feeders : (net : Net) (i : ℕ) → IsValid net → length (feeders_of net.cells i) ≤ 8
few_feeders net i valid =
    let n = length net.cells in
    let by_phase : sum_below n (leads net.cells i) ≤ sum_below n (λ j. sum_below 8 (λ p. opened net.cells i j p)) =
    sum_below-le n (leads net.cells i) (λ j. sum_below 8 (λ p. opened net.cells i j p)) (λ j inside. leads_by_phase net i j valid inside) in
    let swapped : sum_below n (λ j. sum_below 8 (λ p. opened net.cells i j p)) ≡ sum_below 8 (λ p. sum_below n (λ j. opened net.cells i j p)) = sum_below-swap n 8 (opened net.cells i) in
    let few : sum_below 8 (λ p. sum_below n (λ j. opened net.cells i j p)) ≤ 8 * 1 =
    sum_below-bound 8 1 (λ p. sum_below n (λ j. opened net.cells i j p))
    (λ p inside. sum_below-at_most_one n 1 (λ j. opened net.cells i j p) (λ j k in_j in_k differ. one_by_phase net i p j k valid in_j in_k differ) (λ j inside. opened-le net i p j)) in
    omega (arith, length-feeders net.cells n i, by_phase, swapped, few)
