-- One pass over the cells, which takes from each what leaves it, lets in its demand, and brings what left to
-- the cells behind it.
use Rattle.std.proofs.Common.{◌≡◌, ◌≢◌, ℕ, ◌+◌, ◌-◌, ◌*◌, ◌<◌, ◌≤◌, inl, inr, List, length, get_or, set, slice_index, ap, ◌∙◌, sym, arith, get_or-set_same, get_or-set_other, length-set}
use Rattle.std.proofs.lemmas.Bool.{cases_eq, cases_lt}
use Rattle.std.proofs.lemmas.List.{get_or_past}
use Rattle.listed.proofs.SumLaws.{sum_below-zero, sum_below-suc}
use Rattle.listed.proofs.TableLaws.{fill}
use Rattle.ct_base.specs.Access.{cell_of}
use Rattle.listed.specs.Below.{table_of}
use Rattle.ct_base.specs.declared.cell.Cell.{Cell}
use Rattle.ct_base.specs.declared.cell.Out.{Out}
use Rattle.traffic_model.specs.Occupancy.{demand_at}
use Rattle.cell_replay.specs.inner.Moves.{entered, held_after, passed}
use Rattle.cell_replay.proofs.Spreading.{passed-le}

-- the first k cells have sent, and the others wait
pub record AreMoved (cells : List Cell) (t : ℕ) (start outflows : List ℕ) (k : ℕ) (units : List ℕ) : Type 0 where
  pub moved : (j : ℕ) → j < k → j < length units → slice_index units j ≡ (slice_index start j - slice_index outflows j) + entered cells outflows k j + demand_at (cell_of cells j) t
  pub waiting : (j : ℕ) → k ≤ j → j < length units → slice_index units j ≡ slice_index start j + entered cells outflows k j
  pub small : (j : ℕ) → slice_index units j ≤ 240000 + 2000 * k

-- at first all wait
pub none_moved : (cells : List Cell) (t : ℕ) (start outflows : List ℕ) → ((j : ℕ) → slice_index start j ≤ 240000) → AreMoved cells t start outflows 0 start
none_moved cells t start outflows small = record {
  moved = λ j below within. absurd (omega arith);
  waiting = λ j from within. omega (arith, sum_below-zero (λ i. passed (cell_of cells i).out (slice_index outflows i) j));
  small = λ j. omega (arith, small j);
}

-- what a cell holds once its own outflow is passed on is small
pub passed_on-small : (cells : List Cell) (t : ℕ) (start outflows : List ℕ) (k : ℕ) (units passed_on : List ℕ) (out : Out) →
    AreMoved cells t start outflows k units → k < length units → slice_index outflows k ≤ 1000 →
    ((j : ℕ) → j < length units → slice_index passed_on j ≡ slice_index (set units k (get_or units k 0 - slice_index outflows k)) j + passed out (slice_index outflows k) j) →
    slice_index passed_on k ≤ 241000 + 2000 * k
passed_on-small cells t start outflows k units passed_on out before within few brings =
    let here : slice_index (set units k (get_or units k 0 - slice_index outflows k)) k ≡ get_or units k 0 - slice_index outflows k =
    get_or-set_same units k (get_or units k 0 - slice_index outflows k) 0 within in
    omega (arith, brings k within, here, before.small k, passed-le out (slice_index outflows k) k)

-- one cell more
pub one_more_moved : (cells : List Cell) (t : ℕ) (start outflows : List ℕ) (k : ℕ) (units passed_on : List ℕ) (cell : Cell) (held : ℕ) →
    AreMoved cells t start outflows k units → k < length units → slice_index outflows k ≤ slice_index start k → slice_index outflows k ≤ 1000 →
    cell ≡ cell_of cells k → length passed_on ≡ length units →
    ((j : ℕ) → j < length units → slice_index passed_on j ≡ slice_index (set units k (get_or units k 0 - slice_index outflows k)) j + passed cell.out (slice_index outflows k) j) →
    held ≡ slice_index passed_on k + demand_at cell t → held ≤ slice_index passed_on k + 1000 →
    AreMoved cells t start outflows (k + 1) (set passed_on k held)
one_more_moved cells t start outflows k units passed_on cell held before within sent few is long brings arrives few_arrive =
    let kept : ℕ = get_or units k 0 - slice_index outflows k in
    let demand : held ≡ slice_index passed_on k + demand_at (cell_of cells k) t = arrives ∙ ap (λ (x : Cell). slice_index passed_on k + demand_at x t) is in
    let more : (j : ℕ) → entered cells outflows (k + 1) j ≡ entered cells outflows k j + passed cell.out (slice_index outflows k) j =
    λ j. sum_below-suc k (λ i. passed (cell_of cells i).out (slice_index outflows i) j) ∙ ap (λ (x : Cell). entered cells outflows k j + passed x.out (slice_index outflows k) j) (sym is) in
    let here : slice_index (set units k kept) k ≡ kept = get_or-set_same units k kept 0 within in
    let there : (j : ℕ) → j ≢ k → slice_index (set units k kept) j ≡ slice_index units j = λ j ne. get_or-set_other units k j kept 0 ne in
    let last_here : slice_index (set passed_on k held) k ≡ held = get_or-set_same passed_on k held 0 (omega arith) in
    let last_there : (j : ℕ) → j ≢ k → slice_index (set passed_on k held) j ≡ slice_index passed_on j = λ j ne. get_or-set_other passed_on k j held 0 ne in
    let last_long : length (set passed_on k held) ≡ length units = length-set passed_on k held ∙ long in
    let waits : slice_index units k ≡ slice_index start k + entered cells outflows k k = before.waiting k (omega arith) within in
    let at_k : slice_index (set passed_on k held) k ≡ (slice_index start k - slice_index outflows k) + entered cells outflows (k + 1) k + demand_at (cell_of cells k) t =
    omega (arith, last_here, demand, brings k within, here, waits, more k) in
    let small_at_k : slice_index (set passed_on k held) k ≤ 240000 + 2000 * (k + 1) =
    omega (arith, last_here, few_arrive, passed_on-small cells t start outflows k units passed_on cell.out before within few brings) in
    record {
      moved = λ j below short.
          let short' : j < length units = omega arith in
          elim (cases_eq j k) [
            | inl e ↦ rw e at_k
            | inr ne ↦ omega (arith, last_there j ne, brings j short', there j ne, before.moved j (omega arith) short', more j)
          ];
      waiting = λ j from short.
          let short' : j < length units = omega arith in
          let ne : j ≢ k = omega arith in
          omega (arith, last_there j ne, brings j short', there j ne, before.waiting j (omega arith) short', more j);
      small = λ j.
          elim (cases_lt j (length units)) [
            | inl short ↦
                elim (cases_eq j k) [
                  | inl e ↦ rw e small_at_k
                  | inr ne ↦ omega (arith, last_there j ne, brings j short, there j ne, before.small j, passed-le cell.out (slice_index outflows k) j)
                ]
            | inr past ↦ rw (get_or_past (set passed_on k held) j 0 (omega arith)) (omega arith)
          ];
    }

-- at last all have sent
pub all_moved : (cells : List Cell) (t : ℕ) (start outflows : List ℕ) (k : ℕ) (units : List ℕ) → length units ≡ length cells → k ≡ length cells →
    AreMoved cells t start outflows k units → units ≡ table_of (length cells) (held_after cells t start outflows)
all_moved cells t start outflows k units long all after =
    fill units (length cells) (held_after cells t start outflows) long
    (λ j below. after.moved j (omega arith) (omega arith) ∙ ap (λ n. (slice_index start j - slice_index outflows j) + entered cells outflows n j + demand_at (cell_of cells j) t) all)
