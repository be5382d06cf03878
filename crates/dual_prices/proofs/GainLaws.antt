-- Gains of changes of one price: of none, along the changes of one sign, and when these are lawful.
use Rattle.std.proofs.Common.{◌≡◌, ◌⊎◌, inl, inr, ℕ, zero, suc, ◌*◌, ◌<◌, ◌≤◌, ◌^◌, Bool, true, false, List, set, Option, Some, None, refl, ap, ◌∙◌, arith}
use Rattle.std.specs.Prelude.{ℤ, pos, negsuc, ◌+ℤ◌, ◌-ℤ◌, ◌*ℤ◌, ◌≤ℤ◌, unsigned_abs, length, IfNone}
use Rattle.std.proofs.Math.IntN.{*ℤ_comm, zero-*ℤ}
use Rattle.std.proofs.Math.Nat.{mul-le-mul_left, pow-le-pow_right}
use Rattle.std.proofs.lemmas.Int.{ints}
use Rattle.std.proofs.lemmas.List.{set-get_or}
use borrow.Author.Differences.{up, down}
use lib.Signed.{le_z, lt_z}
use Rattle.sparse_program.specs.Box.{Ranges}
use Rattle.sparse_program.specs.Program.{Parts, row_of}
use Rattle.sparse_program.specs.declared.row.Row.{Row}
use Rattle.certificate_model.specs.Value.{IsSigned, value}
use Rattle.safe_bound.specs.Prices.{ArePrices, price_at}
use Rattle.kept_value.specs.Kept.{IsSlope, Kept, gain_of, repriced}
use Rattle.kept_value.proofs.RepricedLaws.{ArePrices-repriced, IsAllowed-repriced}
use Rattle.dual_prices.specs.Settled.{IsNoGain, IsSettledRow, change_of}
use Rattle.dual_prices.specs.declared.constants.TheConstants.{MOST_POWER}
use Rattle.dual_prices.specs.inner.Gains.{IsBestFrom, IsBestTo, IsGreatestFrom, IsGreatestTo, IsNearer}

-- ---- no change

-- a number less itself
pub less_itself : (z : ℤ) → z -ℤ z ≡ pos 0
less_itself z = omega (arith, ints)

-- no change gains nothing
pub gain_of-none : (program : Parts) (box : Ranges) (prices : List ℤ) (row : ℕ) → gain_of program box prices row (pos 0) ≡ pos 0
gain_of-none program box prices row =
    let more_none : price_at prices row +ℤ pos 0 ≡ price_at prices row = omega (arith, ints) in
    let same : repriced prices row (pos 0) ≡ prices = ap (λ (z : ℤ). set prices row z) more_none ∙ set-get_or prices row (pos 0) in
    ap (λ (others : List ℤ). value program true box (price_at others) -ℤ value program true box (price_at prices)) same ∙ less_itself (value program true box (price_at prices))

-- ---- along a straight line

-- less along a line that rises
pub falls_behind : (more slope : ℤ) → more ≤ℤ pos 0 → pos 0 ≤ℤ slope → (more *ℤ slope) ≤ℤ pos 0
falls_behind (pos zero) slope less rises = omega (arith, ints, zero-*ℤ slope)
falls_behind (pos (suc n)) slope less rises = absurd (omega (arith, ints, less))
falls_behind (negsuc n) slope less rises =
    let most : suc n * down slope ≤ suc n * up slope = mul-le-mul_left (suc n) (omega (arith, ints)) in
    omega (arith, ints, most)

-- more along a line that falls
pub falls_ahead : (more slope : ℤ) → pos 0 ≤ℤ more → slope ≤ℤ pos 0 → (more *ℤ slope) ≤ℤ pos 0
falls_ahead more slope above falls = let turned : (slope *ℤ more) ≤ℤ pos 0 = falls_behind slope more falls above in omega (arith, ints, turned, *ℤ_comm more slope)

-- a test of whole numbers that passed
pub le_z-yes : (a b : ℤ) → le_z a b ≡ true → a ≤ℤ b
le_z-yes a b passed = grind (arith, ints)

-- and one that failed
pub le_z-no : (a b : ℤ) → le_z a b ≡ false → b ≤ℤ a
le_z-no a b failed = grind (arith, ints)

-- a test for less that passed
pub lt_z-yes : (a b : ℤ) → lt_z a b ≡ true → a ≤ℤ b
lt_z-yes a b passed = grind (arith, ints)

-- and one that failed
pub lt_z-no : (a b : ℤ) → lt_z a b ≡ false → b ≤ℤ a
lt_z-no a b failed = grind (arith, ints)

-- where the gain still rises at a change, all nearer changes gain less
pub IsGreatestTo-slope : (program : Parts) (kept : Kept) (row : ℕ) (falls : Bool) (by slope : ℤ) → IsSlope program kept.box kept.prices row by slope → (falls ≡ true → slope ≤ℤ pos 0) → (falls ≡ false → pos 0 ≤ℤ slope) → IsGreatestTo program kept row falls by
IsGreatestTo-slope program kept row true by slope line below above other near =
    let less : ((other -ℤ by) *ℤ slope) ≤ℤ pos 0 = falls_ahead (other -ℤ by) slope (omega (arith, ints, near)) (below refl) in
    omega (arith, ints, line other, less)
IsGreatestTo-slope program kept row false by slope line below above other near =
    let less : ((other -ℤ by) *ℤ slope) ≤ℤ pos 0 = falls_behind (other -ℤ by) slope (omega (arith, ints, near)) (above refl) in
    omega (arith, ints, line other, less)

-- where it rises no more, all further changes do
pub IsGreatestFrom-slope : (program : Parts) (kept : Kept) (row : ℕ) (falls : Bool) (by slope : ℤ) → IsSlope program kept.box kept.prices row by slope → (falls ≡ true → pos 0 ≤ℤ slope) → (falls ≡ false → slope ≤ℤ pos 0) → IsGreatestFrom program kept row falls by
IsGreatestFrom-slope program kept row true by slope line above below other near =
    let less : ((other -ℤ by) *ℤ slope) ≤ℤ pos 0 = falls_behind (other -ℤ by) slope (omega (arith, ints, near)) (above refl) in
    omega (arith, ints, line other, less)
IsGreatestFrom-slope program kept row false by slope line above below other near =
    let less : ((other -ℤ by) *ℤ slope) ≤ℤ pos 0 = falls_ahead (other -ℤ by) slope (omega (arith, ints, near)) (below refl) in
    omega (arith, ints, line other, less)

-- ---- changes by powers of two

-- a lesser power is a nearer change
pub change_of-nearer : (falls : Bool) (j k : ℕ) → j ≤ k → IsNearer falls (change_of falls j) (change_of falls k)
change_of-nearer true j k le = let powers : 2 ^ j ≤ 2 ^ k = pow-le-pow_right (omega arith) le in omega (arith, ints, powers)
change_of-nearer false j k le = let powers : 2 ^ j ≤ 2 ^ k = pow-le-pow_right (omega arith) le in omega (arith, ints, powers)

-- a change lies between no change and another one
abbrev IsBetween : ℤ → ℤ → Type 0
IsBetween by far = ((pos 0 ≤ℤ by) × (by ≤ℤ far)) ⊎ ((far ≤ℤ by) × (by ≤ℤ pos 0))

-- what lies between two numbers is no greater than they are
between_small : (price by far : ℤ) (most : ℕ) → unsigned_abs price ≤ most → unsigned_abs (price +ℤ far) ≤ most → IsBetween by far → unsigned_abs (price +ℤ by) ≤ most
between_small price by far most here there (inl (above, below)) = omega (arith, ints, here, there, above, below)
between_small price by far most here there (inr (above, below)) = omega (arith, ints, here, there, above, below)

-- and no less than 0, where they are not
between_above : (price by far : ℤ) → pos 0 ≤ℤ price → pos 0 ≤ℤ (price +ℤ far) → IsBetween by far → pos 0 ≤ℤ (price +ℤ by)
between_above price by far here there (inl (above, below)) = omega (arith, ints, here, there, above, below)
between_above price by far here there (inr (above, below)) = omega (arith, ints, here, there, above, below)

-- so it is allowed on a row
between_signed : (row : Row) (price by far : ℤ) → IsSigned row price → IsSigned row (price +ℤ far) → IsBetween by far → IsSigned row (price +ℤ by)
between_signed row price by far (inl equal) there between = inl equal
between_signed row price by far (inr here) (inl equal) between = inl equal
between_signed row price by far (inr here) (inr there) between = inr (between_above price by far here there between)

-- a change that is nearer than a lawful one is lawful
ArePrices-between : (rows : List Row) (prices : List ℤ) (row : ℕ) (by far : ℤ) → ArePrices rows prices → row < length rows → ArePrices rows (repriced prices row far) → IsBetween by far → ArePrices rows (repriced prices row by)
ArePrices-between rows prices row by far lawful within again between =
    let allowed = IsAllowed-repriced rows prices row far lawful.one_per_row within again in
    ArePrices-repriced rows prices row by lawful within (
      between_small (price_at prices row) by far (2 ^ 40) (lawful.within row (pos 0) (omega (arith, within, lawful.one_per_row))) allowed.0 between,
      between_signed (row_of rows row) (price_at prices row) by far (lawful.signed row within) allowed.1 between,
    )

-- so a lesser power of a lawful one is
pub change_of-lawful : (rows : List Row) (prices : List ℤ) (row : ℕ) (falls : Bool) (j k : ℕ) → ArePrices rows prices → row < length rows → j ≤ k → ArePrices rows (repriced prices row (change_of falls k)) → ArePrices rows (repriced prices row (change_of falls j))
change_of-lawful rows prices row true j k lawful within le again =
    ArePrices-between rows prices row (change_of true j) (change_of true k) lawful within again (inr (change_of-nearer true j k le, omega (arith, ints)))
change_of-lawful rows prices row false j k lawful within le again =
    ArePrices-between rows prices row (change_of false j) (change_of false k) lawful within again (inl (omega (arith, ints), change_of-nearer false j k le))

-- the change by a power gains the most of those up to it, where it is lawful and the gain still rises there
pub IsBestTo-greatest : (program : Parts) (kept : Kept) (row : ℕ) (falls : Bool) (k : ℕ) → ArePrices program.rows (repriced kept.prices row (change_of falls k)) → IsGreatestTo program kept row falls (change_of falls k) → IsBestTo program kept row falls k
IsBestTo-greatest program kept row falls k lawful greatest = record { lawful = lawful; best = λ j le. greatest (change_of falls j) (change_of-nearer falls j k le) }

-- and of those from it on, where the gain rises no more
pub IsBestFrom-greatest : (program : Parts) (kept : Kept) (row : ℕ) (falls : Bool) (k : ℕ) → ArePrices program.rows (repriced kept.prices row (change_of falls k)) → IsGreatestFrom program kept row falls (change_of falls k) → IsBestFrom program kept row falls k
IsBestFrom-greatest program kept row falls k lawful greatest = record { lawful = λ j le again. lawful; best = λ j le again. greatest (change_of falls j) (change_of-nearer falls k j le) }

-- or where it is not lawful
pub IsBestFrom-unlawful : (program : Parts) (kept : Kept) (row : ℕ) (falls : Bool) (k : ℕ) → ArePrices program.rows kept.prices → row < length program.rows → (ArePrices program.rows (repriced kept.prices row (change_of falls k)) → ⊥) → IsBestFrom program kept row falls k
IsBestFrom-unlawful program kept row falls k lawful within unlawful = record {
  lawful = λ j le again. absurd (unlawful (change_of-lawful program.rows kept.prices row falls k j lawful within le again));
  best = λ j le again. absurd (unlawful (change_of-lawful program.rows kept.prices row falls k j lawful within le again));
}

-- ---- settled rows

-- where the gain does not rise from no change on, no change of that sign is a gain
pub IsNoGain-slope : (program : Parts) (kept : Kept) (row : ℕ) (falls : Bool) (slope : ℤ) → IsSlope program kept.box kept.prices row (pos 0) slope → (falls ≡ true → pos 0 ≤ℤ slope) → (falls ≡ false → slope ≤ℤ pos 0) →
    (k : ℕ) → k ≤ MOST_POWER → IsNoGain program kept.box kept.prices row (change_of falls k)
IsNoGain-slope program kept row true slope line above below k few again =
    let less = IsGreatestFrom-slope program kept row true (pos 0) slope line above below (change_of true k) (omega (arith, ints)) in
    omega (arith, ints, less, gain_of-none program kept.box kept.prices row)
IsNoGain-slope program kept row false slope line above below k few again =
    let less = IsGreatestFrom-slope program kept row false (pos 0) slope line above below (change_of false k) (omega (arith, ints)) in
    omega (arith, ints, less, gain_of-none program kept.box kept.prices row)

-- a row is settled where no change of either sign is a gain
pub IsSettledRow-both : (program : Parts) (box : Ranges) (prices : List ℤ) (row : ℕ) → ((k : ℕ) → k ≤ MOST_POWER → IsNoGain program box prices row (change_of false k)) → ((k : ℕ) → k ≤ MOST_POWER → IsNoGain program box prices row (change_of true k)) →
    IsSettledRow program box prices row
IsSettledRow-both program box prices row upward downward = record { none = λ falls. elim falls as (λ (sign : Bool). (k : ℕ) → k ≤ MOST_POWER → IsNoGain program box prices row (change_of sign k)) [ true ↦ downward | false ↦ upward ] }

-- ---- answers that may be none

-- what follows where there is none
pub IfNone_then : {X P Q : Type 0} (r : Option X) → IfNone r P → (P → Q) → IfNone r Q
IfNone_then None is then = then is
IfNone_then (Some x) is then = tt
