-- Reasons: a node is good in its box exactly where there is none.
use Rattle.std.proofs.Common.{◌≡◌, ◌≢◌, ◌⊎◌, inl, inr, refl, ℕ, ◌+◌, ◌<◌, ◌≤◌, Bool, true, false, List, [], ◌∷◌, ◌++◌, length, arith}
use Rattle.std.specs.Prelude.{ℤ, pos, negsuc, ◌+ℤ◌, ◌≤ℤ◌, ◌<ℤ◌, nat_lt, int_lt, int_le, not, ◌&&◌, unsigned_abs, All}
use Rattle.std.specs.Int.{int_div_euclid}
use Rattle.std.proofs.lemmas.Bool.{and_parts, and_right, le-ltb, lt-ltb, ltb-false, ltb-true, not-false}
use Rattle.std.proofs.lemmas.Int.{ints}
use Rattle.std.proofs.lemmas.List.Elements.{All-cons, All-head, All-nil, All-tail}
use Rattle.std.proofs.lemmas.List.Kept.{AllPairs-cons}
use Rattle.listed.proofs.JoinLaws.{append_none}
use Rattle.refusals.specs.Faults.{where_so}
use Rattle.refusals.proofs.FirstFaults.{where_none}
use Rattle.sparse_program.specs.Box.{Ranges, high_of, low_of}
use Rattle.sparse_program.specs.Program.{row_of}
use Rattle.sparse_program.specs.declared.row.Row.{Row}
use Rattle.sparse_program.proofs.TermLaws.{Rises-head, Rises-tail}
use Rattle.certificate_model.specs.Leaves.{IsCeiling}
use Rattle.certificate_model.specs.Reasons.{ceiling, pair_reasons, split_reasons}
use Rattle.certificate_model.specs.Tree.{IsSplit}
use Rattle.certificate_model.specs.Value.{AreLawful, IsSigned, most_price, scale}
use Rattle.certificate_model.specs.declared.verdict.Why.{Why}
use Rattle.certificate_model.specs.declared.verdict.Why.TheVariants.{Column, Range, Row as NoRow, Order, Price, Sign}

-- ---- tests of whole numbers

-- what each test tells, and when it holds
pub int_lt-false : (a b : ℤ) → int_lt a b ≡ false → b ≤ℤ a
int_lt-false a b is = omega (arith, ints, is)

pub le-int_lt : (a b : ℤ) → b ≤ℤ a → int_lt a b ≡ false
le-int_lt a b le = grind (arith, ints)

pub int_lt-true : (a b : ℤ) → int_lt a b ≡ true → a <ℤ b
int_lt-true a b is = omega (arith, ints, is)

pub lt-int_lt : (a b : ℤ) → a <ℤ b → int_lt a b ≡ true
lt-int_lt a b lt = grind (arith, ints)

pub int_le-true : (a b : ℤ) → int_le a b ≡ true → a ≤ℤ b
int_le-true a b is = omega (arith, ints, is)

pub le-int_le : (a b : ℤ) → a ≤ℤ b → int_le a b ≡ true
le-int_le a b le = grind (arith, ints)

-- a test that does not hold gives no reason
pub none_where : {X : Type 0} (holds : Bool) (fault : X) → holds ≡ false → where_so holds fault ≡ []
none_where holds fault is = rw is refl

-- ---- splits

-- no reason: the split is one of its box
pub split_is_one : (box : Ranges) (column : ℕ) (at : ℤ) → split_reasons box column at ≡ [] → IsSplit box column at
split_is_one box column at none =
    let parts = append_none (where_so (not (nat_lt column (length box.lows))) Column) (where_so (not (int_le (low_of box column) at && int_lt at (high_of box column))) Range) none in
    let there : nat_lt column (length box.lows) ≡ true = not-false (nat_lt column (length box.lows)) (where_none (not (nat_lt column (length box.lows))) Column parts.0) in
    let both : (int_le (low_of box column) at ≡ true) × (int_lt at (high_of box column) ≡ true) =
    and_parts (int_le (low_of box column) at) (int_lt at (high_of box column))
    (not-false (int_le (low_of box column) at && int_lt at (high_of box column)) (where_none (not (int_le (low_of box column) at && int_lt at (high_of box column))) Range parts.1)) in
    record { there = ltb-true column (length box.lows) there; low = int_le-true (low_of box column) at both.0; high = int_lt-true at (high_of box column) both.1 }

-- and the other way round
pub split_has_none : (box : Ranges) (column : ℕ) (at : ℤ) → IsSplit box column at → split_reasons box column at ≡ []
split_has_none box column at is =
    rw (lt-ltb column (length box.lows) is.there, le-int_le (low_of box column) at is.low, lt-int_lt at (high_of box column) is.high) refl

-- ---- ceilings

-- the ceiling of a value, by the sum of the value and 1023
ceiling_by : (value sum : ℤ) → (value +ℤ pos 1023) ≡ sum → IsCeiling value (int_div_euclid sum (pos scale))
ceiling_by value (pos n) is = record { enough = omega (arith, ints, is); least = omega (arith, ints, is) }
ceiling_by value (negsuc n) is = record { enough = omega (arith, ints, is); least = omega (arith, ints, is) }

-- the ceiling of a value is one
pub ceiling_is : (value : ℤ) → IsCeiling value (ceiling value)
ceiling_is value = ceiling_by value (value +ℤ pos 1023) refl

-- ---- pairs

-- a pair whose row has to be at a number or behind it gives no reason
record IsFine (rows : List Row) (next : ℕ) (pair : ℕ × ℤ) : Type 0 where
  there : pair.0 < length rows
  behind : next ≤ pair.0
  within : unsigned_abs pair.1 ≤ most_price
  signed : IsSigned (row_of rows pair.0) pair.1

-- a price that is refused on no row is allowed
allowed_where : (equal : Bool) (price : ℤ) → (not equal && int_lt price (pos 0)) ≡ false → (equal ≡ true) ⊎ (pos 0 ≤ℤ price)
allowed_where true price none = inl refl
allowed_where false price none = inr (int_lt-false price (pos 0) none)

-- and the other way round
refused_nowhere : (equal : Bool) (price : ℤ) → (equal ≡ true) ⊎ (pos 0 ≤ℤ price) → (not equal && int_lt price (pos 0)) ≡ false
refused_nowhere equal price (inl is) = rw is refl
refused_nowhere equal price (inr above) = and_right (not equal) (int_lt price (pos 0)) (le-int_lt price (pos 0) above)

-- where a pair and those behind it give no reason, the pair is fine and those behind it give none
fine_where_no_reason : (rows : List Row) (next : ℕ) (pair : ℕ × ℤ) (pairs : List (ℕ × ℤ)) → pair_reasons rows next (pair ∷ pairs) ≡ [] →
    IsFine rows next pair × (pair_reasons rows (pair.0 + 1) pairs ≡ [])
fine_where_no_reason rows next pair pairs none =
    let row : List Why = where_so (not (nat_lt pair.0 (length rows))) NoRow in
    let order : List Why = where_so (nat_lt pair.0 next) Order in
    let price : List Why = where_so (nat_lt most_price (unsigned_abs pair.1)) Price in
    let sign : List Why = where_so (not (row_of rows pair.0).equal && int_lt pair.1 (pos 0)) Sign in
    let rest : List Why = pair_reasons rows (pair.0 + 1) pairs in
    let whole = append_none (row ++ order ++ price ++ sign) rest none in
    let three = append_none (row ++ order ++ price) sign whole.0 in
    let two = append_none (row ++ order) price three.0 in
    let one = append_none row order two.0 in (
      record {
        there = ltb-true pair.0 (length rows) (not-false (nat_lt pair.0 (length rows)) (where_none (not (nat_lt pair.0 (length rows))) NoRow one.0));
        behind = ltb-false pair.0 next (where_none (nat_lt pair.0 next) Order one.1);
        within = ltb-false most_price (unsigned_abs pair.1) (where_none (nat_lt most_price (unsigned_abs pair.1)) Price two.1);
        signed = allowed_where (row_of rows pair.0).equal pair.1 (where_none (not (row_of rows pair.0).equal && int_lt pair.1 (pos 0)) Sign three.1);
      },
      whole.1,
    )

-- and the other way round
no_reason_where_fine : (rows : List Row) (next : ℕ) (pair : ℕ × ℤ) (pairs : List (ℕ × ℤ)) → IsFine rows next pair → pair_reasons rows (pair.0 + 1) pairs ≡ [] →
    pair_reasons rows next (pair ∷ pairs) ≡ []
no_reason_where_fine rows next pair pairs fine rest =
    rw (lt-ltb pair.0 (length rows) fine.there, le-ltb pair.0 next fine.behind, le-ltb most_price (unsigned_abs pair.1) fine.within, refused_nowhere (row_of rows pair.0).equal pair.1 fine.signed, rest) refl

-- the row of a pair is a number or behind it
abbrev Behind : ℕ → ℕ × ℤ → Type 0
Behind next pair = next ≤ pair.0

-- the price of a pair is not 0
abbrev pub IsNonzero : ℕ × ℤ → Type 0
IsNonzero pair = pair.1 ≢ pos 0

-- pairs, of which the first has to be at a row or behind it, give no reason: they are lawful, and all at that row or behind it
lawful_behind : (rows : List Row) (next : ℕ) (pairs : List (ℕ × ℤ)) → All IsNonzero pairs → pair_reasons rows next pairs ≡ [] → AreLawful rows pairs × All (Behind next) pairs
lawful_behind rows next [] some none = (
  record {
    there = All-nil (λ (pair : ℕ × ℤ). pair.0 < length rows);
    rises = λ j k d before inside. absurd (omega (arith, inside));
    some = some;
    within = All-nil (λ (pair : ℕ × ℤ). unsigned_abs pair.1 ≤ most_price);
    signed = All-nil (λ (pair : ℕ × ℤ). IsSigned (row_of rows pair.0) pair.1);
  },
  All-nil (Behind next),
)
lawful_behind rows next (pair ∷ pairs) some none =
    let here : IsFine rows next pair × (pair_reasons rows (pair.0 + 1) pairs ≡ []) = fine_where_no_reason rows next pair pairs none in
    let fine : IsFine rows next pair = here.0 in
    let rest : AreLawful rows pairs × All (Behind (pair.0 + 1)) pairs = lawful_behind rows (pair.0 + 1) pairs (All-tail IsNonzero pair pairs some) here.1 in
    let above : All (λ (other : ℕ × ℤ). pair.0 < other.0) pairs = λ k d within. omega (arith, rest.1 k d within) in (
      record {
        there = All-cons (λ (pair : ℕ × ℤ). pair.0 < length rows) pair pairs fine.there rest.0.there;
        rises = AllPairs-cons (λ (a b : ℕ × ℤ). a.0 < b.0) pair pairs above rest.0.rises;
        some = some;
        within = All-cons (λ (pair : ℕ × ℤ). unsigned_abs pair.1 ≤ most_price) pair pairs fine.within rest.0.within;
        signed = All-cons (λ (pair : ℕ × ℤ). IsSigned (row_of rows pair.0) pair.1) pair pairs fine.signed rest.0.signed;
      },
      All-cons (Behind next) pair pairs fine.behind (λ k d within. omega (arith, fine.behind, above k d within)),
    )

-- pairs of prices other than 0 that give no reason are lawful
pub lawful_where_no_reason : (rows : List Row) (pairs : List (ℕ × ℤ)) → All IsNonzero pairs → pair_reasons rows 0 pairs ≡ [] → AreLawful rows pairs
lawful_where_no_reason rows pairs some none = (lawful_behind rows 0 pairs some none).0

-- lawful pairs that are all at a row or behind it give no reason
none_behind : (rows : List Row) (next : ℕ) (pairs : List (ℕ × ℤ)) → AreLawful rows pairs → All (Behind next) pairs → pair_reasons rows next pairs ≡ []
none_behind rows next [] lawful behind = refl
none_behind rows next (pair ∷ pairs) lawful behind =
    let fine : IsFine rows next pair = record {
      there = All-head (λ (pair : ℕ × ℤ). pair.0 < length rows) pair pairs lawful.there;
      behind = All-head (Behind next) pair pairs behind;
      within = All-head (λ (pair : ℕ × ℤ). unsigned_abs pair.1 ≤ most_price) pair pairs lawful.within;
      signed = All-head (λ (pair : ℕ × ℤ). IsSigned (row_of rows pair.0) pair.1) pair pairs lawful.signed;
    } in
    let rest : AreLawful rows pairs = record {
      there = All-tail (λ (pair : ℕ × ℤ). pair.0 < length rows) pair pairs lawful.there;
      rises = Rises-tail pair pairs lawful.rises;
      some = All-tail IsNonzero pair pairs lawful.some;
      within = All-tail (λ (pair : ℕ × ℤ). unsigned_abs pair.1 ≤ most_price) pair pairs lawful.within;
      signed = All-tail (λ (pair : ℕ × ℤ). IsSigned (row_of rows pair.0) pair.1) pair pairs lawful.signed;
    } in
    no_reason_where_fine rows next pair pairs fine (none_behind rows (pair.0 + 1) pairs rest (λ k d within. omega (arith, Rises-head pair pairs lawful.rises k d within)))

-- lawful pairs give no reason
pub lawful_has_none : (rows : List Row) (pairs : List (ℕ × ℤ)) → AreLawful rows pairs → pair_reasons rows 0 pairs ≡ []
lawful_has_none rows pairs lawful = none_behind rows 0 pairs lawful (λ k d within. omega arith)
