-- What a replay keeps: the units of one step in a list of those of all steps, one step more, and another plan.
use Rattle.std.proofs.Common.{◌≡◌, ℕ, ◌+◌, ◌-◌, ◌*◌, ◌<◌, ◌≤◌, ◌^◌, inl, inr, List, ◌++◌, length, take, drop, slice_index, append_assoc, length-drop, ap, ◌∙◌, sym, subst, arith}
use Rattle.std.proofs.Math.Nat.{mul-le-mul_right, zero-mul}
use Rattle.std.proofs.lemmas.Bool.{cases_lt}
use Rattle.std.proofs.lemmas.List.{drop-take, drop_at, length-take-le, take-take, take_all, take_at}
use Rattle.std.proofs.lemmas.List.Edits.{take-paste}
use Rattle.std.proofs.lemmas.Slice.{take-put_mid_below}
use Rattle.std.specs.List.{copy_within}
use Rattle.ct_base.specs.Validity.{IsValid}
use Rattle.ct_base.specs.declared.net.Net.{Net}
use Rattle.ct_base.specs.declared.plan.Letter.{Letter}
use Rattle.ct_base.specs.declared.plan.Plan.{Plan}
use Rattle.traffic_model.proofs.TrafficLaws.{AreHeld-occupancies, delay_of-agree, delay_of-lt, delay_of-suc, delay_of-zero, occupancies-agree, occupancies-suc, occupancies-zero}
use Rattle.traffic_model.specs.Delay.{delay_of, letters_at, step_delay}
use Rattle.traffic_model.specs.Occupancy.{AreHeld, initial_units, next_units, occupancies}
use borrow.Rule.Slice.PartMut.{put_mid}
use lib.Seq.{paste}
use Rattle.cell_replay.specs.Keeps.{HasRoom, Keeps, KeepsTo, Kept, ShowTheSame, units_at}

-- ---- the units of one step

-- there is room for those of step t, and before the end for those of the step behind it
pub room_at : (cells t steps : ℕ) (units : List ℕ) → length units ≡ (steps + 1) * cells → t ≤ steps → t * cells + cells ≤ length units
room_at cells t steps units long within = omega (arith, long, mul-le-mul_right {m = t + 1} {n = steps + 1} cells (omega arith))

pub room_behind : (cells t steps : ℕ) (units : List ℕ) → length units ≡ (steps + 1) * cells → t < steps → t * cells + cells + cells ≤ length units
room_behind cells t steps units long before = omega (arith, long, mul-le-mul_right {m = t + 2} {n = steps + 1} cells (omega arith))

-- the units of the steps up to t are among the first numbers
pub units_at-front : (cells t m : ℕ) (xs ys : List ℕ) → t * cells + cells ≤ m → take m xs ≡ take m ys → units_at cells t xs ≡ units_at cells t ys
units_at-front cells t m xs ys within same =
    sym (drop-take (t * cells) cells xs)
    ∙ ap (λ (list : List ℕ). drop (t * cells) list)
    (sym (take-take (t * cells + cells) m xs within) ∙ ap (λ (list : List ℕ). take (t * cells + cells) list) same ∙ take-take (t * cells + cells) m ys within)
    ∙ drop-take (t * cells) cells ys

-- the units of step 0 come first
pub units_at-zero : (cells many : ℕ) (first rest all : List ℕ) → length first ≡ cells → cells ≤ many → all ≡ take many first ++ rest → units_at cells 0 all ≡ first
units_at-zero cells many first rest all long within is =
    ap (λ (n : ℕ). take cells (drop n all)) (zero-mul cells)
    ∙ ap (λ (list : List ℕ). take cells list) (is ∙ ap (λ (list : List ℕ). list ++ rest) (take_all many first (omega arith)))
    ∙ take_at first rest cells long

-- ---- the units of a step, copied on to the next

-- they are where they were copied to
pub copied : (cells at : ℕ) (xs ys : List ℕ) → at + cells + cells ≤ length xs → ys ≡ copy_within xs at (at + cells) (at + cells) →
    take (at + cells + cells - (at + cells)) (drop (at + cells) ys) ≡ take cells (drop at xs)
copied cells at xs ys within is =
    let next : ℕ = at + cells in
    let many : next - at ≡ cells = omega arith in
    let pasted : ys ≡ paste xs next (drop at xs) cells = is ∙ ap (λ (n : ℕ). paste xs next (drop at xs) n) many in
    let long : cells ≤ length (drop at xs) = omega (arith, length-drop at xs) in
    let first : length (take next xs) ≡ next = length-take-le next xs (omega arith) in
    ap (λ (n : ℕ). take n (drop next ys)) (omega arith)
    ∙ sym (drop-take next cells ys)
    ∙ ap (λ (list : List ℕ). drop next (take (next + cells) list)) pasted
    ∙ ap (λ (list : List ℕ). drop next list) (take-paste xs next (drop at xs) cells (omega arith) long)
    ∙ drop_at (take next xs) (take cells (drop at xs)) next first

-- those before stay, and also where the copy is moved on then
pub copied_before : (cells at k : ℕ) (xs ys moved : List ℕ) → at + cells + cells ≤ length xs → length ys ≡ length xs → ys ≡ copy_within xs at (at + cells) (at + cells) →
    take (at + cells) (put_mid (at + cells) k ys moved) ≡ take (at + cells) xs
copied_before cells at k xs ys moved within long is =
    let next : ℕ = at + cells in
    let rest : List ℕ = take (next - at) (drop at xs) ++ drop (next + (next - at)) xs in
    let first : length (take next xs) ≡ next = length-take-le next xs (omega arith) in
    take-put_mid_below next k ys moved next (omega arith) (omega arith)
    ∙ ap (λ (list : List ℕ). take next list) (is ∙ append_assoc (take next xs) (take (next - at) (drop at xs)) (drop (next + (next - at)) xs))
    ∙ take_at (take next xs) rest next first

-- ---- what is kept

-- the cells can hold what is kept
pub held_at : (net : Net) (plan : Plan) (t : ℕ) (kept : Kept) → IsValid net → KeepsTo net plan t kept → AreHeld net.cells t (units_at (length net.cells) t kept.units)
held_at net plan t kept valid keeps =
    subst (λ (units : List ℕ). AreHeld net.cells t units) (sym (keeps.units t (omega arith))) (AreHeld-occupancies net (letters_at plan.words) t valid)

-- the delay of one step more
delay_more : (net : Net) (plan : Plan) (t delay : ℕ) (letters : List Letter) (kept : Kept) → KeepsTo net plan t kept →
    letters ≡ letters_at plan.words t → delay ≡ step_delay net.cells letters (units_at (length net.cells) t kept.units) →
    slice_index kept.delays t + delay ≡ delay_of net.cells (letters_at plan.words) (t + 1)
delay_more net plan t delay letters kept keeps shows is =
    let before = keeps.delays t (omega arith) in
    let held = keeps.units t (omega arith) in
    let more = delay_of-suc net.cells (letters_at plan.words) t in
    cc

-- it is small
pub delay_more-small : (net : Net) (plan : Plan) (t delay : ℕ) (letters : List Letter) (kept : Kept) → IsValid net → t < net.steps → KeepsTo net plan t kept →
    letters ≡ letters_at plan.words t → delay ≡ step_delay net.cells letters (units_at (length net.cells) t kept.units) →
    slice_index kept.delays t + delay < 2 ^ 64
delay_more-small net plan t delay letters kept valid before_the_end keeps shows is =
    omega (arith, delay_more net plan t delay letters kept keeps shows is, delay_of-lt net (letters_at plan.words) (t + 1) valid (omega arith))

-- the units of one step more
units_more : (net : Net) (plan : Plan) (t : ℕ) (letters : List Letter) (kept : Kept) (units : List ℕ) → KeepsTo net plan t kept → letters ≡ letters_at plan.words t →
    units_at (length net.cells) (t + 1) units ≡ next_units net.cells letters t (units_at (length net.cells) t kept.units) →
    units_at (length net.cells) (t + 1) units ≡ occupancies net.cells (letters_at plan.words) (t + 1)
units_more net plan t letters kept units keeps shows moves =
    let held = keeps.units t (omega arith) in
    let more = occupancies-suc net.cells (letters_at plan.words) t in
    cc

-- one step more
pub keeps_more : (net : Net) (plan : Plan) (t delay : ℕ) (letters : List Letter) (kept after : Kept) → KeepsTo net plan t kept → HasRoom net after →
    letters ≡ letters_at plan.words t →
    units_at (length net.cells) (t + 1) after.units ≡ next_units net.cells letters t (units_at (length net.cells) t kept.units) →
    ((s : ℕ) → s ≤ t → units_at (length net.cells) s after.units ≡ units_at (length net.cells) s kept.units) →
    delay ≡ step_delay net.cells letters (units_at (length net.cells) t kept.units) →
    slice_index after.delays (t + 1) ≡ slice_index kept.delays t + delay →
    ((s : ℕ) → s ≤ t → slice_index after.delays s ≡ slice_index kept.delays s) →
    KeepsTo net plan (t + 1) after
keeps_more net plan t delay letters kept after keeps room shows moves units_stay is adds delays_stay = record {
  room = room;
  units = λ s within.
      elim (cases_lt t s) [
        | inl last ↦
            let at : s ≡ t + 1 = omega arith in
            rw at (units_more net plan t letters kept after.units keeps shows moves)
        | inr before ↦ units_stay s before ∙ keeps.units s before
      ];
  delays = λ s within.
      elim (cases_lt t s) [
        | inl last ↦
            let at : s ≡ t + 1 = omega arith in
            rw at (adds ∙ delay_more net plan t delay letters kept keeps shows is)
        | inr before ↦ delays_stay s before ∙ keeps.delays s before
      ];
}

-- at step 0
pub keeps_at_start : (net : Net) (plan : Plan) (kept : Kept) → HasRoom net kept →
    units_at (length net.cells) 0 kept.units ≡ initial_units net.cells → slice_index kept.delays 0 ≡ 0 → KeepsTo net plan 0 kept
keeps_at_start net plan kept room units none = record {
  room = room;
  units = λ t within.
      let at : t ≡ 0 = omega arith in
      rw at (units ∙ sym (occupancies-zero net.cells (letters_at plan.words)));
  delays = λ t within.
      let at : t ≡ 0 = omega arith in
      rw at (none ∙ sym (delay_of-zero net.cells (letters_at plan.words)));
}

-- what is kept of one plan serves another up to the first step at which they differ
pub keeps_agree : (net : Net) (old new : Plan) (k : ℕ) (kept : Kept) → Keeps net old kept → k ≤ net.steps → ShowTheSame old new k → KeepsTo net new k kept
keeps_agree net old new k kept keeps within same = record {
  room = keeps.room;
  units = λ t before.
      keeps.units t (omega arith) ∙ occupancies-agree net.cells (letters_at old.words) (letters_at new.words) k same t before;
  delays = λ t before.
      keeps.delays t (omega arith) ∙ delay_of-agree net.cells (letters_at old.words) (letters_at new.words) t (λ u earlier. same u (omega arith));
}
