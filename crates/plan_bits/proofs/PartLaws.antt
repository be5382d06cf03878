-- Laws of lists that are joined of parts and cut into them, and where the bits of a step and a signal stand.
use Rattle.std.proofs.Common.{◌≡◌, ℕ, zero, suc, ◌+◌, ◌*◌, ◌/◌, ◌<◌, ◌≤◌, List, ◌++◌, length, map, take, drop, refl, sym, ap, ◌∙◌, arith, ext_get_or}
use Rattle.std.specs.Prelude.{ℤ, pos}
use Rattle.std.proofs.Math.Nat.{mul-div_cancel_left, mul-le-mul_right}
use Rattle.std.proofs.Math.Seq.{take-add}
use Rattle.std.proofs.lemmas.List.{get_or-drop, get_or-take, length-drop, length-take-le, map-append}
use Rattle.listed.specs.Below.{join_below, sum_below}
use Rattle.listed.proofs.JoinLaws.{get_or-join_below, length-join_below}
use Rattle.listed.proofs.SumLaws.{sum_below-bound, sum_below-fewer, sum_below-suc}
use Rattle.ct_base.specs.Access.{phase_of, signal_of}
use Rattle.ct_base.specs.Validity.{IsValid}
use Rattle.ct_base.specs.declared.net.Net.{Net}
use Rattle.ct_base.specs.declared.plan.Letter.{Letter}
use Rattle.ct_base.specs.declared.signal.Signal.{Signal}
use Rattle.program_model.specs.Columns.{letters_by, letters_of}
use Rattle.program_model.specs.Numbers.{bits_before, bits_of_step, plan_count}
use Rattle.program_model.proofs.PlanBits.{signal_is}
use Rattle.plan_bits.specs.inner.Parts.{part_of_signal, part_of_step}

-- ---- joins and cuts

-- the parts of a front of a list, joined
pub cut_parts : {X : Type 0} (list : List X) (n : ℕ) (count : ℕ → ℕ) → join_below n (λ k. take (count k) (drop (sum_below k count) list)) ≡ take (sum_below n count) list
unfolding join_below sum_below
cut_parts list zero count = refl
cut_parts list (suc n) count =
    ap (λ front. front ++ take (count n) (drop (sum_below n count) list)) (cut_parts list n count) ∙ sym (take-add (sum_below n count) (count n) list)

-- a part of joined lists
pub part_of_join : (n k : ℕ) (f : ℕ → List ℤ) (count : ℕ → ℕ) → ((k : ℕ) → length (f k) ≡ count k) → k < n → take (count k) (drop (sum_below k count) (join_below n f)) ≡ f k
part_of_join n k f count long within =
    let whole : List ℤ = join_below n f in
    let start : ℕ = sum_below k count in
    let room : start + count k ≤ length whole =
    omega (arith, length-join_below n f count long, sum_below-fewer (k + 1) n count (omega (arith, within)), sum_below-suc k count) in
    let there : length (take (count k) (drop start whole)) ≡ count k = length-take-le (count k) (drop start whole) (omega (arith, room, length-drop start whole)) in
    ext_get_or (pos 0) (take (count k) (drop start whole)) (f k) (there ∙ sym (long k))
    (λ i inside.
    let here : i < count k = omega (arith, inside, there) in
    get_or-take (count k) (drop start whole) i (pos 0) here ∙ get_or-drop start whole i (pos 0) ∙ get_or-join_below n f count k i (pos 0) long within here)

-- what is made of each item of a join, joined
pub map-join_below : {X Y : Type 0} (f : X → Y) (n : ℕ) (parts : ℕ → List X) → map f (join_below n parts) ≡ join_below n (λ k. map f (parts k))
unfolding join_below
map-join_below f zero parts = refl
map-join_below f (suc n) parts = map-append f (join_below n parts) (parts n) ∙ ap (λ list. list ++ map f (parts n)) (map-join_below f n parts)

-- equal parts add up to a product
pub sum_below-equal : (n w : ℕ) → sum_below n (λ k. w) ≡ n * w
unfolding sum_below
sum_below-equal zero w = omega arith
sum_below-equal (suc n) w = omega (arith, sum_below-equal n w)

-- ---- where bits stand

-- the plan columns of a step, by how many there are in all
pub width_is : (net : Net) (columns : ℕ) → 1 ≤ net.steps → columns ≡ plan_count net → columns / net.steps ≡ bits_of_step net.signals
width_is net columns some is = ap (λ (n : ℕ). n / net.steps) is ∙ mul-div_cancel_left (bits_of_step net.signals) (omega (arith, some))

-- the bits of a step stand among all
pub step_within : (net : Net) (t : ℕ) → t < net.steps → t * bits_of_step net.signals + bits_of_step net.signals ≤ plan_count net
step_within net t before =
    let w : ℕ = bits_of_step net.signals in
    let le : suc t * w ≤ net.steps * w = mul-le-mul_right w (omega (arith, before)) in
    omega (arith, le)

-- the bits of a signal stand among those of the step
pub signal_within : (net : Net) (s : ℕ) → s < length net.signals → bits_before net.signals s + length (letters_of (signal_of net.signals s)) ≤ bits_of_step net.signals
signal_within net s inside =
    let counts : ℕ → ℕ = λ r. length (letters_of (signal_of net.signals r)) in
    omega (arith, sum_below-fewer (s + 1) (length net.signals) counts (omega (arith, inside)), sum_below-suc s counts)

-- how many bits a step has
pub length-part_of_step : (net : Net) (bits : List ℤ) (t : ℕ) → length bits ≡ plan_count net → t < net.steps → length (part_of_step net bits t) ≡ bits_of_step net.signals
length-part_of_step net bits t long before =
    let w : ℕ = bits_of_step net.signals in
    length-take-le w (drop (t * w) bits) (omega (arith, long, step_within net t before, length-drop (t * w) bits))

-- the bits of a step, as they are cut out
pub cut_step : (net : Net) (bits values : List ℤ) (t width : ℕ) → width ≡ bits_of_step net.signals → values ≡ take width (drop (t * width) bits) → values ≡ part_of_step net bits t
cut_step net bits values t width is cut = cut ∙ ap (λ (w : ℕ). take w (drop (t * w) bits)) is

-- and among them those of a signal
pub cut_signal : (net : Net) (bits of_step values : List ℤ) (s t count first : ℕ) → count ≡ length (letters_of (signal_of net.signals s)) → first ≡ bits_before net.signals s → of_step ≡ part_of_step net bits t →
    values ≡ take count (drop first of_step) → values ≡ part_of_signal net bits s t
cut_signal net bits of_step values s t count first many behind step cut =
    cut ∙ ap (λ (n : ℕ). take n (drop first of_step)) many
    ∙ ap (λ (start : ℕ). take (length (letters_of (signal_of net.signals s))) (drop start of_step)) behind
    ∙ ap (λ (part : List ℤ). take (length (letters_of (signal_of net.signals s))) (drop (bits_before net.signals s) part)) step

-- how many bits a signal has in a step
pub length-part_of_signal : (net : Net) (bits : List ℤ) (s t : ℕ) → length bits ≡ plan_count net → t < net.steps → s < length net.signals →
    length (part_of_signal net bits s t) ≡ length (letters_of (signal_of net.signals s))
length-part_of_signal net bits s t long before inside =
    let count : ℕ = length (letters_of (signal_of net.signals s)) in
    let first : ℕ = bits_before net.signals s in
    length-take-le count (drop first (part_of_step net bits t))
    (omega (arith, signal_within net s inside, length-part_of_step net bits t long before, length-drop first (part_of_step net bits t)))

-- ---- how many letters there are

-- a phase brings few letters
few_letters_by : (p clear : ℕ) → length (letters_by p clear) ≤ 2
few_letters_by p zero = omega arith
few_letters_by p (suc clear) = omega arith

-- a signal has few letters
few_letters : (signal : Signal) → length signal.phases ≤ 8 → length (letters_of signal) ≤ 16
unfolding letters_of
few_letters signal few =
    let parts : ℕ → List Letter = λ p. letters_by p (phase_of signal p).clear in
    omega (
      arith,
      few,
      length-join_below (length signal.phases) parts (λ p. length (parts p)) (λ p. refl),
      sum_below-bound (length signal.phases) 2 (λ p. length (parts p)) (λ p inside. few_letters_by p (phase_of signal p).clear),
    )

-- and all signals together
pub few_bits : (net : Net) (s : ℕ) → IsValid net → s < length net.signals → bits_before net.signals s + length (letters_of (signal_of net.signals s)) ≤ 256
few_bits net s valid inside =
    let counts : ℕ → ℕ = λ r. length (letters_of (signal_of net.signals r)) in
    let each : (r : ℕ) → r < length net.signals → counts r ≤ 16 = λ r there. few_letters (signal_of net.signals r) (signal_is net r valid there).phases.1 in
    omega (arith, valid.signals, inside, each s inside, sum_below-bound s 16 counts (λ r before. each r (omega (arith, before, inside))))
