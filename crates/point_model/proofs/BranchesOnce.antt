-- The floors of a diverge have one quotient and one rest each, where cells hold the same; so its terms come to the same.
use Rattle.std.proofs.Common.{◌≡◌, inl, inr, ℕ, zero, suc, ◌+◌, ◌-◌, ◌<◌, true, List, [], ◌∷◌, length, get_or, ap, subst, ◌∙◌, sym, arith}
use Rattle.std.specs.Prelude.{nat_lt, ℤ, pos, ◌≤ℤ◌}
use Rattle.std.proofs.lemmas.Bool.{cases_Bool, lt-ltb, ltb-true}
use Rattle.std.proofs.lemmas.List.{get_or_default}
use Rattle.ct_base.specs.Access.{cell_of}
use Rattle.ct_base.specs.declared.cell.Out.{Out}
use Rattle.ct_base.specs.declared.cell.Out.TheVariants.{Turns}
use Rattle.ct_base.specs.declared.net.Net.{Net}
use Rattle.program_model.specs.Columns.{BranchRest, BranchRoom, Column}
use Rattle.program_model.specs.Existence.{HasFloor, IsPlace}
use Rattle.program_model.specs.FlowRows.{branch_rows, branch_terms, branches_rows, room}
use Rattle.program_model.specs.Rows.{AllMeet, SumRow}
use Rattle.program_model.specs.SwitchRows.{Term, floor_row}
use Rattle.program_model.specs.Values.{branch_of}
use Rattle.program_model.proofs.ColumnLaws.{Each}
use Rattle.program_model.proofs.PlanMoves.{IsLedInto, turn_is_led_into}
use Rattle.program_model.proofs.SumLaws.{AllMeet-parts}
use Rattle.point_model.proofs.FloorsOnce.{AreParts, floor_once}
use Rattle.point_model.proofs.SameSums.{Same, same-column}
use Rattle.point_model.proofs.Solutions.{AreSolutions, IsSolution, SameUnits, row_where, same-room}

-- what is so of the branches of cell i, of which the first has number k
pub record AreBranches (net : Net) (i k : ℕ) (branches : List (ℕ × ℕ)) : Type 0 where
  pub led : (j : ℕ) → j < length branches → IsLedInto net (get_or branches j (0, 1)).0
  pub is : (j : ℕ) → j < length branches → branch_of (cell_of net.cells i).out (k + j) ≡ get_or branches j (0, 1)
  pub floor : (j : ℕ) → j < length branches → 1 < (get_or branches j (0, 1)).1 → HasFloor (cell_of net.cells i).out (k + j)

-- the branches behind the first
later_branches : (net : Net) (i k : ℕ) (branch : ℕ × ℕ) (branches : List (ℕ × ℕ)) → AreBranches net i k (branch ∷ branches) → AreBranches net i (k + 1) branches
later_branches net i k branch branches are = record {
  led = λ j inside. are.led (suc j) (omega (arith, inside));
  is = λ j inside. let next : k + 1 + j ≡ k + suc j = omega arith in ap (branch_of (cell_of net.cells i).out) next ∙ are.is (suc j) (omega (arith, inside));
  floor = λ j inside many. let next : k + suc j ≡ k + 1 + j = omega arith in subst (HasFloor (cell_of net.cells i).out) next (are.floor (suc j) (omega (arith, inside)) many);
}

-- all branches of a diverge
pub branches_are : (net : Net) (t i : ℕ) (branches : List (ℕ × ℕ)) (value other : Column → ℤ) → AreSolutions net value other → IsPlace net t i → (cell_of net.cells i).out ≡ Turns branches → AreBranches net i 0 branches
branches_are net t i branches value other are place is = record {
  led = λ j inside. turn_is_led_into net i branches j are.valid place.inside is inside;
  is = λ j inside. let at : 0 + j ≡ j = omega arith in ap (λ (out : Out). branch_of out (0 + j)) is ∙ ap (branch_of (Turns branches)) at;
  floor = λ j inside many. let at : 0 + j ≡ j = omega arith in rw (at, is) (record { inside = inside; many = rw (get_or_default branches j (0, 0) (0, 1) inside) many });
}

-- the floor of a branch has the same under both
abbrev SameBranch : (Column → ℤ) → (Column → ℤ) → ℕ → ℕ → ℕ → Type 0
SameBranch value other t i k = (value (BranchRoom t i k) ≡ other (BranchRoom t i k)) × (value (BranchRest t i k) ≡ other (BranchRest t i k))

-- the floor of one branch
branch_once : (net : Net) (value other : Column → ℤ) (t i k : ℕ) (branch : ℕ × ℕ) → AreSolutions net value other → IsPlace net t i → SameUnits net value other t →
    IsLedInto net branch.0 → branch_of (cell_of net.cells i).out k ≡ branch → HasFloor (cell_of net.cells i).out k → 1 < branch.1 →
    AllMeet value (branch_rows net.cells t i k branch) → AllMeet other (branch_rows net.cells t i k branch) → SameBranch value other t i k
branch_once net value other t i k branch are place same led is floor many met meets =
    let test : nat_lt 1 branch.1 ≡ true = lt-ltb 1 branch.1 many in
    let row : SumRow Column = floor_row (BranchRoom t i k) (BranchRest t i k) branch.1 (room net.cells t branch.0) in
    let parts : (x : Column → ℤ) → IsSolution net x → AreParts x (BranchRoom t i k) (BranchRest t i k) branch.1 =
    λ x solution. record {
      not_negative = solution.low (BranchRoom t i k) (place, floor);
      low = solution.low (BranchRest t i k) (place, floor);
      high = subst (λ (b : ℕ × ℕ). x (BranchRest t i k) ≤ℤ pos (b.1 - 1)) is (solution.high (BranchRest t i k) (place, floor));
    } in
    floor_once value other (BranchRoom t i k) (BranchRest t i k) branch.1 (room net.cells t branch.0) (omega (arith, many))
    (same-room net value other t branch.0 are (record { before = place.before; inside = led.within }) same) (parts value are.one) (parts other are.two)
    (row_where value (nat_lt 1 branch.1) row test met) (row_where other (nat_lt 1 branch.1) row test meets)

-- the floors of branches, of which the first has number k
pub branches_once : (net : Net) (value other : Column → ℤ) (t i k : ℕ) (branches : List (ℕ × ℕ)) → AreSolutions net value other → IsPlace net t i → SameUnits net value other t →
    AreBranches net i k branches → AllMeet value (branches_rows net.cells t i k branches) → AllMeet other (branches_rows net.cells t i k branches) →
    (j : ℕ) → j < length branches → 1 < (get_or branches j (0, 1)).1 →
    (value (BranchRoom t i (k + j)) ≡ other (BranchRoom t i (k + j))) × (value (BranchRest t i (k + j)) ≡ other (BranchRest t i (k + j)))
branches_once net value other t i k [] are place same branching met meets j inside many = absurd (omega (arith, inside))
branches_once net value other t i k (branch ∷ branches) are place same branching met meets zero inside many =
    let here : k + 0 ≡ k = omega arith in
    rw here (branch_once net value other t i k branch are place same (branching.led 0 inside)
    (ap (branch_of (cell_of net.cells i).out) (sym here) ∙ branching.is 0 inside)
    (subst (HasFloor (cell_of net.cells i).out) here (branching.floor 0 inside many)) many
    (AllMeet-parts value (branch_rows net.cells t i k branch) (branches_rows net.cells t i (k + 1) branches) met).0
    (AllMeet-parts other (branch_rows net.cells t i k branch) (branches_rows net.cells t i (k + 1) branches) meets).0)
branches_once net value other t i k (branch ∷ branches) are place same branching met meets (suc j) inside many =
    let next : k + 1 + j ≡ k + suc j = omega arith in
    subst (SameBranch value other t i) next
    (branches_once net value other t i (k + 1) branches are place same (later_branches net i k branch branches branching)
    (AllMeet-parts value (branch_rows net.cells t i k branch) (branches_rows net.cells t i (k + 1) branches) met).1
    (AllMeet-parts other (branch_rows net.cells t i k branch) (branches_rows net.cells t i (k + 1) branches) meets).1 j (omega (arith, inside)) many)

-- the terms of branches, of which the first has number k
pub same-branch_terms : (net : Net) (value other : Column → ℤ) (t i k : ℕ) (branches : List (ℕ × ℕ)) → AreSolutions net value other → IsPlace net t i → SameUnits net value other t →
    AreBranches net i k branches → ((j : ℕ) → j < length branches → 1 < (get_or branches j (0, 1)).1 → value (BranchRoom t i (k + j)) ≡ other (BranchRoom t i (k + j))) →
    Each (λ (term : Term Column). Same value other term.of) (branch_terms net.cells t i k branches)
same-branch_terms net value other t i k [] are place same branching rooms = tt
same-branch_terms net value other t i k (branch ∷ branches) are place same branching rooms =
    let here : k + 0 ≡ k = omega arith in (
      elim (cases_Bool (nat_lt 1 branch.1)) [
        | inl many ↦
            rw many (same-column value other (BranchRoom t i k)
            (subst (λ (n : ℕ). value (BranchRoom t i n) ≡ other (BranchRoom t i n)) here (rooms 0 (omega arith) (ltb-true 1 branch.1 many))))
        | inr one ↦
            let led : IsLedInto net branch.0 = branching.led 0 (omega arith) in
            rw one (same-room net value other t branch.0 are (record { before = place.before; inside = led.within }) same)
      ],
      same-branch_terms net value other t i (k + 1) branches are place same (later_branches net i k branch branches branching)
          (λ j inside many. let next : k + suc j ≡ k + 1 + j = omega arith in
          subst (λ (n : ℕ). value (BranchRoom t i n) ≡ other (BranchRoom t i n)) next (rooms (suc j) (omega (arith, inside)) many)),
    )
