-- Laws of the pairs of prices, of prices on which work was done, and of the leaf that they close.
use Rattle.std.proofs.Common.{◌≡◌, ◌≢◌, ◌⊎◌, inl, inr, ℕ, zero, suc, ◌+◌, ◌<◌, ◌≤◌, List, [], ◌∷◌, ◌++◌, length, get_or, All, Bool, true, false, cond, eqb, refl, ap, ◌∙◌, sym, arith, add-one}
use Rattle.std.specs.Prelude.{ℤ, pos, ◌+ℤ◌, ◌-ℤ◌, ◌*ℤ◌, ◌≤ℤ◌, unsigned_abs, IsTrue, Some}
use Rattle.std.specs.Ordering.{int_eq}
use Rattle.std.proofs.lemmas.Bool.{cases_Bool, cases_eq, cases_lt, eq-eqb, ne_eqb}
use Rattle.std.proofs.lemmas.Bool.Decides.{Decides-int_eq, not_from_Decides}
use Rattle.std.proofs.lemmas.Int.{clamps, ints}
use Rattle.std.proofs.lemmas.List.{get_or_past}
use Rattle.std.proofs.lemmas.List.Elements.{All-nil, All-push}
use Rattle.std.proofs.lemmas.List.Quantifiers.{all_pairs_push}
use Rattle.listed.specs.Below.{whole_sum_below}
use Rattle.listed.proofs.WholeSums.{whole_sum_below-same}
use Rattle.ct_base.specs.declared.net.Net.{Net}
use Rattle.sparse_program.specs.Box.{Ranges}
use Rattle.sparse_program.specs.Program.{Parts, column_of, row_of}
use Rattle.sparse_program.specs.Terms.{coefficient, names, terms_sum}
use Rattle.sparse_program.specs.declared.row.Row.{Row}
use Rattle.program_model.specs.Points.{program_of}
use Rattle.certificate_model.specs.Leaves.{IsCeiling}
use Rattle.certificate_model.specs.Tree.{Priced}
use Rattle.certificate_model.specs.Value.{AreLawful, IsSigned, column_value, cost_counted, most_price, reduced_cost, scale, value, value_of_pairs}
use Rattle.certificate_model.proofs.SafeLaws.{one_ceiling}
use Rattle.safe_bound.specs.Prices.{ArePrices, price_at}
use Rattle.kept_value.specs.Kept.{IsKeptOf, Kept}
use Rattle.dual_prices.specs.Settled.{AreSettled}
use Rattle.dual_prices.specs.Worked.{HasRisen}
use Rattle.dual_prices.specs.declared.ascent.End.{End}
use Rattle.dual_prices.specs.declared.ascent.End.TheVariants.{Enough, Settled, Spent}
use Rattle.seed_prices.specs.Seed.{seed_of}
use Rattle.branch_tree.specs.Boxes.{box_of}
use Rattle.branch_tree.specs.OpenTree.{is_open, size}
use Rattle.solve_core.specs.Earned.{AreWorked, GivesDelay, value_in}
use Rattle.solve_core.specs.Searched.{IsReached}
use Rattle.solve_core.specs.inner.PricePairs.{pairs_below}
use Rattle.solve_core.specs.inner.Searching.{CanClose, IsSearching}
use Rattle.solve_core.specs.declared.search.Search.{Search}

-- ---- the pairs of prices, one by one

-- a price is 0, or is not
cases_none : (z : ℤ) → (z ≡ pos 0) ⊎ (z ≢ pos 0)
cases_none z =
    elim (cases_Bool (int_eq z (pos 0))) [
      | inl same ↦ inl ((Decides-int_eq z (pos 0)).0 same)
      | inr apart ↦ inr (not_from_Decides (int_eq z (pos 0)) (Decides-int_eq z (pos 0)) apart)
    ]

-- the test of a price that is not 0
not_none : (z : ℤ) → z ≢ pos 0 → int_eq z (pos 0) ≡ false
not_none z some =
    elim (cases_Bool (int_eq z (pos 0))) [
      | inl same ↦ absurd (some ((Decides-int_eq z (pos 0)).0 same))
      | inr apart ↦ apart
    ]

-- no row
pub pairs_below-zero : (prices : List ℤ) → pairs_below prices 0 ≡ []
unfolding pairs_below
pairs_below-zero prices = refl

-- a row more, whose price is 0
pub pairs_below-none : (prices : List ℤ) (n : ℕ) → price_at prices n ≡ pos 0 → pairs_below prices (n + 1) ≡ pairs_below prices n
unfolding pairs_below
pairs_below-none prices n none =
    rw add-one (ap (λ (b : Bool). cond b (pairs_below prices n) (pairs_below prices n ++ (n, price_at prices n) ∷ [])) ((Decides-int_eq (price_at prices n) (pos 0)).1 none))

-- a row more, whose price is not 0
pub pairs_below-some : (prices : List ℤ) (n : ℕ) → price_at prices n ≢ pos 0 → pairs_below prices (n + 1) ≡ pairs_below prices n ++ (n, price_at prices n) ∷ []
unfolding pairs_below
pairs_below-some prices n some =
    rw add-one (ap (λ (b : Bool). cond b (pairs_below prices n) (pairs_below prices n ++ (n, price_at prices n) ∷ [])) (not_none (price_at prices n) some))

-- ---- they are lawful

-- lawful pairs of rows below a count
record AreLawfulBelow (rows : List Row) (n : ℕ) (pairs : List (ℕ × ℤ)) : Type 0 where
  lawful : AreLawful rows pairs
  below : All (λ (pair : ℕ × ℤ). pair.0 < n) pairs

-- one pair more
lawful-more : (rows : List Row) (n : ℕ) (price : ℤ) (pairs : List (ℕ × ℤ)) → AreLawfulBelow rows n pairs → n < length rows → price ≢ pos 0 → unsigned_abs price ≤ most_price → IsSigned (row_of rows n) price →
    AreLawful rows (pairs ++ (n, price) ∷ [])
lawful-more rows n price pairs are within some few signed = record {
  there = All-push (λ (pair : ℕ × ℤ). pair.0 < length rows) pairs (n, price) are.lawful.there within;
  rises = all_pairs_push (λ (a b : ℕ × ℤ). a.0 < b.0) pairs (n, price) are.lawful.rises are.below;
  some = All-push (λ (pair : ℕ × ℤ). pair.1 ≢ pos 0) pairs (n, price) are.lawful.some some;
  within = All-push (λ (pair : ℕ × ℤ). unsigned_abs pair.1 ≤ most_price) pairs (n, price) are.lawful.within few;
  signed = All-push (λ (pair : ℕ × ℤ). IsSigned (row_of rows pair.0) pair.1) pairs (n, price) are.lawful.signed signed;
}

-- a greater count
below-more : (n : ℕ) (pairs : List (ℕ × ℤ)) → All (λ (pair : ℕ × ℤ). pair.0 < n) pairs → All (λ (pair : ℕ × ℤ). pair.0 < n + 1) pairs
below-more n pairs below k d within = let at : (get_or pairs k d).0 < n = below k d within in omega (arith, at)

-- the pairs of the rows below a count
lawful-below : (rows : List Row) (prices : List ℤ) (n : ℕ) → ArePrices rows prices → n ≤ length rows → AreLawfulBelow rows n (pairs_below prices n)
lawful-below rows prices zero are few = rw (pairs_below-zero prices) (record {
  lawful = record { there = All-nil _; rises = λ i j d before within. absurd (omega (arith, within)); some = All-nil _; within = All-nil _; signed = All-nil _ };
  below = All-nil _;
})
lawful-below rows prices (suc n) are few =
    let before : AreLawfulBelow rows n (pairs_below prices n) = lawful-below rows prices n are (omega (arith, few)) in
    let there : n < length rows = omega (arith, few) in
    rw (sym (add-one n)) (elim (cases_none (price_at prices n)) [
      | inl none ↦ rw (pairs_below-none prices n none) (record { lawful = before.lawful; below = below-more n (pairs_below prices n) before.below })
      | inr some ↦ rw (pairs_below-some prices n some) (record {
        lawful = lawful-more rows n (price_at prices n) (pairs_below prices n) before there some (are.within n (pos 0) (omega (arith, there, are.one_per_row))) (are.signed n there);
        below = All-push (λ (pair : ℕ × ℤ). pair.0 < n + 1) (pairs_below prices n) (n, price_at prices n) (below-more n (pairs_below prices n) before.below) (omega arith);
      })
    ])

-- the pairs of lawful prices
pub pairs-lawful : (rows : List Row) (prices : List ℤ) → ArePrices rows prices → AreLawful rows (pairs_below prices (length prices))
pairs-lawful rows prices are = (lawful-below rows prices (length prices) are (omega (arith, are.one_per_row))).lawful

-- ---- they name the prices

-- one pair more
coefficient-push : (terms : List (ℕ × ℤ)) (t : ℕ × ℤ) (j : ℕ) → coefficient (terms ++ t ∷ []) j ≡ coefficient terms j +ℤ cond (names j t) t.1 (pos 0)
coefficient-push [] t j = omega (arith, ints)
coefficient-push (u ∷ terms) t j =
    let rest : coefficient (terms ++ t ∷ []) j ≡ coefficient terms j +ℤ cond (names j t) t.1 (pos 0) = coefficient-push terms t j in
    omega (arith, ints, rest)

-- a choice between 0 and 0
none_either : (b : Bool) → cond b (pos 0) (pos 0) ≡ pos 0
none_either true = refl
none_either false = refl

-- a row more
coefficient-next : (prices : List ℤ) (n j : ℕ) → coefficient (pairs_below prices (n + 1)) j ≡ coefficient (pairs_below prices n) j +ℤ cond (eqb n j) (price_at prices n) (pos 0)
coefficient-next prices n j =
    elim (cases_none (price_at prices n)) [
      | inl none ↦
          let nothing : cond (eqb n j) (price_at prices n) (pos 0) ≡ pos 0 = ap (λ (z : ℤ). cond (eqb n j) z (pos 0)) none ∙ none_either (eqb n j) in
          rw (pairs_below-none prices n none) (omega (arith, ints, nothing))
      | inr some ↦ rw (pairs_below-some prices n some) (coefficient-push (pairs_below prices n) (n, price_at prices n) j)
    ]

-- rows behind the count have none
coefficient-behind : (prices : List ℤ) (n j : ℕ) → n ≤ j → coefficient (pairs_below prices n) j ≡ pos 0
coefficient-behind prices zero j behind = rw (pairs_below-zero prices)
coefficient-behind prices (suc n) j behind =
    let before : coefficient (pairs_below prices n) j ≡ pos 0 = coefficient-behind prices n j (omega (arith, behind)) in
    let apart : cond (eqb n j) (price_at prices n) (pos 0) ≡ pos 0 = ap (λ (b : Bool). cond b (price_at prices n) (pos 0)) (ne_eqb n j (λ same. absurd (omega (arith, same, behind)))) in
    rw (sym (add-one n)) (omega (arith, ints, before, apart, coefficient-next prices n j))

-- rows before it have their price
coefficient-below : (prices : List ℤ) (n j : ℕ) → j < n → coefficient (pairs_below prices n) j ≡ price_at prices j
coefficient-below prices zero j below = absurd (omega (arith, below))
coefficient-below prices (suc n) j below =
    rw (sym (add-one n)) (elim (cases_eq n j) [
      | inl same ↦
          let none : coefficient (pairs_below prices n) j ≡ pos 0 = coefficient-behind prices n j (omega (arith, same)) in
          let here : cond (eqb n j) (price_at prices n) (pos 0) ≡ price_at prices n = ap (λ (b : Bool). cond b (price_at prices n) (pos 0)) (eq-eqb n j same) in
          let at : price_at prices n ≡ price_at prices j = ap (λ (k : ℕ). price_at prices k) same in
          omega (arith, ints, none, here, at, coefficient-next prices n j)
      | inr apart ↦
          let before : coefficient (pairs_below prices n) j ≡ price_at prices j = coefficient-below prices n j (omega (arith, below, apart)) in
          let other : cond (eqb n j) (price_at prices n) (pos 0) ≡ pos 0 = ap (λ (b : Bool). cond b (price_at prices n) (pos 0)) (ne_eqb n j apart) in
          omega (arith, ints, before, other, coefficient-next prices n j)
    ])

-- the pairs of all rows name the price of each
pub pairs-named : (prices : List ℤ) (row : ℕ) → coefficient (pairs_below prices (length prices)) row ≡ price_at prices row
pairs-named prices row =
    elim (cases_lt row (length prices)) [
      | inl below ↦ coefficient-below prices (length prices) row below
      | inr behind ↦ coefficient-behind prices (length prices) row behind ∙ sym (get_or_past prices row (pos 0) behind)
    ]

-- ---- equal prices are worth the same

-- sums of terms
terms_sum-each : (terms : List (ℕ × ℤ)) (p q : ℕ → ℤ) → ((i : ℕ) → p i ≡ q i) → terms_sum terms p ≡ terms_sum terms q
terms_sum-each [] p q same = refl
terms_sum-each (t ∷ terms) p q same =
    let rest : terms_sum terms p ≡ terms_sum terms q = terms_sum-each terms p q same in
    let here : t.1 *ℤ p t.0 ≡ t.1 *ℤ q t.0 = ap (λ (z : ℤ). t.1 *ℤ z) (same t.0) in
    omega (arith, ints, rest, here)

-- values
value-each : (program : Parts) (with_cost : Bool) (box : Ranges) (p q : ℕ → ℤ) → ((i : ℕ) → p i ≡ q i) → value program with_cost box p ≡ value program with_cost box q
unfolding value
value-each program with_cost box p q same =
    let sides : whole_sum_below (length program.rows) (λ i. p i *ℤ (row_of program.rows i).rhs) ≡ whole_sum_below (length program.rows) (λ i. q i *ℤ (row_of program.rows i).rhs) =
    whole_sum_below-same (length program.rows) (λ i. p i *ℤ (row_of program.rows i).rhs) (λ i. q i *ℤ (row_of program.rows i).rhs) (λ i below. ap (λ (z : ℤ). z *ℤ (row_of program.rows i).rhs) (same i)) in
    let columns : whole_sum_below (length program.columns) (λ j. column_value box (reduced_cost program with_cost p j) j) ≡ whole_sum_below (length program.columns) (λ j. column_value box (reduced_cost program with_cost q j) j) =
    whole_sum_below-same (length program.columns) (λ j. column_value box (reduced_cost program with_cost p j) j) (λ j. column_value box (reduced_cost program with_cost q j) j)
    (λ j below. ap (λ (paid : ℤ). column_value box (cost_counted program with_cost j -ℤ paid) j) (terms_sum-each (column_of program.rows j) p q same)) in
    omega (arith, ints, sides, columns)

-- ---- prices on which work was done

-- each end of an ascent from prices that are worth no less than the seed says what the prices have come to
end_says : (net : Net) (delay before enough now : ℤ) (box : Ranges) (prices : List ℤ) (end : End) → value_in net box (seed_of net) ≤ℤ before → now ≡ value_in net box prices → enough ≡ (pos scale *ℤ (delay -ℤ pos 1)) +ℤ pos 1 →
    (end ≡ Enough → enough ≤ℤ now) → (end ≡ Settled → AreSettled (program_of net) box prices) → (end ≡ Spent → HasRisen (program_of net) before now) →
    AreSettled (program_of net) box prices ⊎ (GivesDelay delay (value_in net box prices) ⊎ HasRisen (program_of net) (value_in net box (seed_of net)) (value_in net box prices))
end_says net delay before enough now box prices Enough above is number gives settled spent = inr (inl (omega (arith, ints, gives refl, number, is)))
end_says net delay before enough now box prices Settled above is number gives settled spent = inl (settled refl)
end_says net delay before enough now box prices Spent above is number gives settled spent =
    let risen : HasRisen (program_of net) before now = spent refl in
    inr (inr (omega (arith, ints, risen, above, is)))

-- so work was done on them
pub worked_by : (net : Net) (program : Parts) (delay before enough : ℤ) (kept : Kept) (end : End) → program ≡ program_of net → IsKeptOf program kept → value_in net kept.box (seed_of net) ≤ℤ before → before ≤ℤ kept.value →
    enough ≡ (pos scale *ℤ (delay -ℤ pos 1)) +ℤ pos 1 → (end ≡ Enough → enough ≤ℤ kept.value) → (end ≡ Settled → AreSettled program kept.box kept.prices) → (end ≡ Spent → HasRisen program before kept.value) →
    AreWorked net delay kept.box kept.prices
worked_by net program delay before enough kept end is of above rises number gives settled spent =
    let value_is : kept.value ≡ value_in net kept.box kept.prices = rw is at of.value in
    record {
      lawful = rw is at of.lawful;
      above_seed = omega (arith, ints, above, rises, value_is);
      ends = end_says net delay before enough kept.value kept.box kept.prices end above value_is number gives (λ ends. rw is at (settled ends)) (λ ends. rw is at (spent ends));
    }

-- ---- the leaf that they close

-- an open leaf may be closed by the pairs of prices on which work was done
pub can_close : (net : Net) (budget : ℕ) (search : Search) (pairs : List (ℕ × ℤ)) (number : ℤ) → IsSearching net budget search → IsTrue (is_open search.tree.tree search.at) →
    AreWorked net (pos search.best.delay) (box_of search.tree search.at) search.kept.prices → ((n : ℤ) → IsCeiling search.kept.value n → IsReached net budget (pos search.best.delay) n (size search.tree.tree)) →
    AreLawful (program_of net).rows pairs → ((row : ℕ) → coefficient pairs row ≡ price_at search.kept.prices row) → IsCeiling search.kept.value number → CanClose net budget search search.at (Priced pairs) (Some number)
can_close net budget search pairs number searching waits worked reaches lawful named ceiling =
    let box : Ranges = box_of search.tree search.at in
    let same : value_of_pairs (program_of net) true search.kept.box pairs ≡ search.kept.value =
    value-each (program_of net) true search.kept.box (coefficient pairs) (price_at search.kept.prices) named ∙ sym searching.stands.kept_of.value in
    let value_is : value_of_pairs (program_of net) true box pairs ≡ search.kept.value = rw searching.stands.kept_box at same in
    let gives : IsCeiling (value_of_pairs (program_of net) true box pairs) number = rw value_is ceiling in
    record {
      waits = waits;
      well = record {
        lawful = lawful;
        earned = record { prices = search.kept.prices; named = λ row within. named row; worked = worked };
        above = λ n other. omega (arith, ints, clamps, one_ceiling (value_of_pairs (program_of net) true box pairs) n number other gives);
      };
      gives = gives;
      reaches = reaches number ceiling;
    }
