-- Laws of demand: its length, its units at a step, their bound, and one piece more.
use Rattle.std.proofs.Common.{◌≡◌, ℕ, ◌+◌, ◌*◌, ◌<◌, ◌≤◌, Bool, true, false, ◌||◌, nat_lt, nat_le, if◌then◌else◌, List, [], length, get_or, take, replicate, slice_index, All, Result, Ok, Err, sym, ap, ◌∙◌, arith}
use Rattle.std.proofs.lemmas.Bool.{leb-false, ltb-false, or_parts}
use Rattle.std.proofs.lemmas.List.{length-replicate, get_or-replicate, length-take-le, get_or-take, get_or_default}
use Rattle.std.proofs.lemmas.List.Sums.{sum_by-le, sum_by_more}
use Rattle.listed.proofs.TableLaws.{length-table_of, slice_index-table_of, fill}
use Rattle.refusals.specs.Faults.{per_item, unless}
use Rattle.refusals.proofs.FirstFaults.{unless_fine, where_none}
use Rattle.refusals.proofs.Items.{per_item_none}
use Rattle.std.specs.Prelude.{⊤}
use Rattle.demand.specs.declared.piece.Piece.{Piece}
use Rattle.demand.specs.declared.fault.DemandFault.TheVariants.{Range}
use Rattle.demand.specs.Spread.{holds, range_at, rate_at, rates_of}
use Rattle.demand.specs.inner.Within.{IsLight, IsWithin}

-- one number a step
pub length-rates_of : (pieces : List Piece) (steps : ℕ) → length (rates_of pieces steps) ≡ steps
unfolding rates_of
length-rates_of pieces steps = length-table_of steps (rate_at pieces)

-- the units of a step
pub slice_index-rates_of : (pieces : List Piece) (steps t : ℕ) → t < steps → slice_index (rates_of pieces steps) t ≡ rate_at pieces t
unfolding rates_of
slice_index-rates_of pieces steps t within = slice_index-table_of steps (rate_at pieces) t within

-- without a piece no units arrive
pub rates_of-none : (steps : ℕ) → replicate steps 0 ≡ rates_of [] steps
unfolding rates_of
rates_of-none steps = fill (replicate steps 0) steps (rate_at []) (length-replicate steps 0) (λ k h. get_or-replicate steps k 0 0 h)

-- what is there under a test is at most what bounds it
within_bound : (b : Bool) (n m : ℕ) → n ≤ m → (if b then n else 0) ≤ m
within_bound true n m le = le
within_bound false n m le = omega arith

-- a piece adds at most 1000 units to a step
pub rate_at-le : (pieces : List Piece) (t : ℕ) → All IsLight pieces → rate_at pieces t ≤ length pieces * 1000
rate_at-le pieces t light =
    sum_by-le (λ (piece : Piece). if holds piece t then piece.rate else 0) 1000 pieces
    (λ k d h. within_bound (holds (get_or pieces k d) t) (get_or pieces k d).rate 1000 (light k d h).rate)

-- what stands there before each piece is small
pub rates_are_small : (pieces : List Piece) (i steps t : ℕ) → All IsLight pieces → length pieces ≤ 480 → i ≤ length pieces → t < steps → slice_index (rates_of (take i pieces) steps) t ≤ 480000
rates_are_small pieces i steps t light few there within =
    let front : All IsLight (take i pieces) = λ k d h.
    let below : k < i = omega (arith, length-take-le i pieces there) in
    rw (get_or-take i pieces k d below) (light k d (omega arith)) in
    let bound : rate_at (take i pieces) t ≤ length (take i pieces) * 1000 = rate_at-le (take i pieces) t front in
    omega (arith, slice_index-rates_of (take i pieces) steps t within, length-take-le i pieces there)

-- one piece more
pub rates_more : (pieces : List Piece) (i steps : ℕ) (d : Piece) (units : List ℕ) → i < length pieces → length units ≡ steps →
    ((t : ℕ) → t < steps → slice_index units t ≡ slice_index (rates_of (take i pieces) steps) t + (if holds (get_or pieces i d) t then (get_or pieces i d).rate else 0)) →
    units ≡ rates_of (take (i + 1) pieces) steps
unfolding rates_of
rates_more pieces i steps d units there long same =
    fill units steps (rate_at (take (i + 1) pieces)) long
    (λ t h. same t h ∙ ap (λ n. n + (if holds (get_or pieces i d) t then (get_or pieces i d).rate else 0)) (slice_index-table_of steps (rate_at (take i pieces)) t h)
    ∙ sym (sum_by_more (λ (piece : Piece). if holds piece t then piece.rate else 0) pieces i d there))

-- pieces without a fault can be summed within the horizon
pub all_within : (pieces : List Piece) (steps : ℕ) (judged : ⊤) → Ok judged ≡ unless (per_item pieces (range_at steps)) judged → All (IsWithin steps) pieces
all_within pieces steps judged fine = λ j d within.
    let piece = get_or pieces j d in
    let in_range : (nat_le piece.until piece.first || nat_lt steps piece.until) ≡ false =
    where_none (nat_le piece.until piece.first || nat_lt steps piece.until) (Range j) (per_item_none pieces (range_at steps) j d (unless_fine _ judged judged fine) within) in
    let parts = or_parts (nat_le piece.until piece.first) (nat_lt steps piece.until) in_range in
    record { some = leb-false piece.until piece.first parts.0; ends = ltb-false steps piece.until parts.1 }

-- what the spreading of pieces needs: pieces without a fault end within the horizon, and there is one number a step
pub ruleset spreading = (all_within, length-rates_of)
