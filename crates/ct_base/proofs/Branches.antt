-- What is true of the branches of a diverge, and of the cells that they lead into.
use Rattle.std.proofs.Common.{◌≡◌, ◌≢◌, inl, inr, ℕ, ◌+◌, ◌<◌, ◌↔◌, List, length, map, get_or, take, arith, refl, ap, sym, subst, ◌∙◌}
use Rattle.std.specs.Prelude.{All, AllPairs, Any, Contains}
use Rattle.std.proofs.lemmas.Bool.{cases_eq}
use Rattle.std.proofs.lemmas.List.{get_or-map, get_or-take, get_or_default, length-map, length-take}
use Rattle.std.proofs.lemmas.List.Elements.{All-map}

-- the cell of a branch
abbrev pub to : ℕ × ℕ → ℕ
to branch = branch.0

-- an element of the list of cells, at any default
cell_at : (branches : List (ℕ × ℕ)) (k : ℕ) (d : ℕ × ℕ) (e : ℕ) → k < length branches → get_or (map to branches) k e ≡ to (get_or branches k d)
cell_at branches k d e within = get_or-map to branches k d e within

-- each cell
pub all_cells : (P : ℕ → Type 0) (branches : List (ℕ × ℕ)) → All (λ (branch : ℕ × ℕ). P branch.0) branches ↔ All P (map to branches)
all_cells P branches = (
  λ all. All-map P to branches all,
  λ all k d within.
      let long : k < length (map to branches) = rw length-map within in
      subst P (cell_at branches k d 0 within) (all k 0 long),
)

-- some cell
pub some_cell : (branches : List (ℕ × ℕ)) (cell : ℕ) → Any (λ (branch : ℕ × ℕ). branch.0 ≡ cell) branches ↔ Contains (map to branches) cell
some_cell branches cell = (
  λ some. (some.0, rw length-map some.2, cell_at branches some.0 some.1 cell some.2 ∙ ap to some.3 ∙ some.4),
  λ contains.
      let within : contains.0 < length branches = rw length-map at contains.1 in
      let d : ℕ × ℕ = (cell, 0) in (
        contains.0,
        get_or branches contains.0 d,
        within,
        get_or_default branches contains.0 (get_or branches contains.0 d) d within,
        sym (cell_at branches contains.0 d cell within) ∙ contains.2,
      ),
)

-- a cell of a branch at which a fact holds
pub some_cell_at : (P : ℕ → Type 0) (branches : List (ℕ × ℕ)) →
    Any (λ (branch : ℕ × ℕ). P branch.0) branches ↔ ((cell : ℕ) × Contains (map to branches) cell × P cell)
some_cell_at P branches = (
  λ some. (to some.1, (some_cell branches (to some.1)).0 (some.0, some.1, some.2, some.3, refl), some.4),
  λ there.
      let some = (some_cell branches there.0).1 there.1 in
      (some.0, some.1, some.2, some.3, subst P (sym some.4) there.2),
)

-- each two cells
pub all_pairs_of_cells : (branches : List (ℕ × ℕ)) →
    AllPairs (λ (a b : ℕ × ℕ). a.0 ≢ b.0) branches ↔ AllPairs (λ k m. k ≢ m) (map to branches)
all_pairs_of_cells branches = (
  λ all i j d below within same.
      let there : j < length branches = rw length-map at within in
      let here : i < length branches = omega arith in
      all i j (d, 0) below there (sym (cell_at branches i (d, 0) d here) ∙ same ∙ cell_at branches j (d, 0) d there),
  λ all i j d below within same.
      let there : j < length (map to branches) = rw length-map within in
      let here : i < length branches = omega arith in
      all i j 0 below there (cell_at branches i d 0 here ∙ same ∙ sym (cell_at branches j d 0 within)),
)

-- a branch that leads into the cell of one before it
pub pairs_broken : (branches : List (ℕ × ℕ)) (later : ℕ) → later < length branches →
    Any (λ (branch : ℕ × ℕ). branch.0 ≡ (get_or branches later (0, 0)).0) (take later branches) → ¬ AllPairs (λ (a b : ℕ × ℕ). a.0 ≢ b.0) branches
pairs_broken branches later within some all =
    let first : some.0 < later = omega (arith, some.2, length-take later branches) in
    let there : get_or branches some.0 (0, 0) ≡ some.1 =
    get_or_default branches some.0 (0, 0) some.1 (omega arith) ∙ sym (get_or-take later branches some.0 some.1 first) ∙ some.3 in
    all some.0 later (0, 0) first within (ap to there ∙ some.4)

-- a branch more, which leads into another cell than those before it
pub pairs_more : (branches : List (ℕ × ℕ)) (later : ℕ) → later < length branches →
    ((i j : ℕ) (d : ℕ × ℕ) → i < j → j < later → (get_or branches i d).0 ≢ (get_or branches j d).0) →
    ¬ Any (λ (branch : ℕ × ℕ). branch.0 ≡ (get_or branches later (0, 0)).0) (take later branches) →
    (i j : ℕ) (d : ℕ × ℕ) → i < j → j < later + 1 → (get_or branches i d).0 ≢ (get_or branches j d).0
pairs_more branches later within before none i j d first below same =
    elim (cases_eq j later) [
      | inl e ↦
          let early : i < later = omega arith in
          let long : i < length (take later branches) = omega (arith, length-take later branches) in
          let here : get_or (take later branches) i (get_or branches i d) ≡ get_or branches i d =
          get_or-take later branches i (get_or branches i d) early ∙ get_or_default branches i (get_or branches i d) d (omega arith) in
          let last : get_or branches j d ≡ get_or branches later (0, 0) = ap (λ k. get_or branches k d) e ∙ get_or_default branches later d (0, 0) within in
          none (i, get_or branches i d, long, here, same ∙ ap to last)
      | inr ne ↦ before i j d first (omega arith) same
    ]
