use Rattle.std.proofs.Common.{◌≡◌, ◌+◌, ◌++◌, ◌∙◌, List, map, ap, arith, get_or, length}
use Rattle.std.specs.Prelude.{ℕ}
use Rattle.ct_base.specs.Access.{no_phase, phase_of}
use Rattle.ct_base.specs.declared.signal.Phase.{Phase}
use Rattle.ct_base.specs.declared.plan.Letter.{Letter}
use Rattle.listed.specs.Below.{join_below}
use Rattle.listed.proofs.JoinLaws.{join_below-zero}
use Rattle.program_model.specs.Columns.{letters_by, letters_of}
use Rattle.plan_point.specs.inner.Points.{bit_count}
use Rattle.plan_point.proofs.EncodingLaws.{map-join_below-suc, none_added, part_added}
use Rattle.plan_point.proofs.encoding.bits.push_bits_of.Goals as goal

pub loop-number-init : goal.loop-number-init
loop-number-init c =
    let parts : ℕ → List Letter = λ p. letters_by p (phase_of c.args.signal.now p).clear in
    none_added c.args.values.now.items (map (bit_count c.args.shown) (join_below 0 parts)) (ap (map (bit_count c.args.shown)) (join_below-zero parts))

pub loop-number-preserved : goal.loop-number-preserved
loop-number-preserved c =
    let parts : ℕ → List Letter = λ p. letters_by p (phase_of c.args.signal.now p).clear in
    part_added c.args.values.now.items (map (bit_count c.args.shown) (join_below c.loop-number.number parts)) (map (bit_count c.args.shown) (parts c.loop-number.number))
    c.loop-number.values.items c.push_bits_by.new.values.items (map (bit_count c.args.shown) (join_below (c.loop-number.number + 1) parts))
    c.loop-number.invariant
    (c.in_ok-push_bits_by.ensures
    ∙ ap (λ (phases : List Phase). c.loop-number.values.items ++ map (bit_count c.args.shown) (letters_by c.loop-number.number (get_or phases c.loop-number.number no_phase).clear))
    c.as_slice-phase-items.ensures)
    (map-join_below-suc (bit_count c.args.shown) c.loop-number.number parts)

pub returns : goal.returns
unfolding letters_of
returns c =
    let parts : ℕ → List Letter = λ p. letters_by p (phase_of c.args.signal.now p).clear in
    let long : length c.as_slice-phase-items.result.now ≡ length c.args.signal.now.phases = ap length c.as_slice-phase-items.ensures in
    let all : c.loop-number.number ≡ length c.args.signal.now.phases = omega arith in
    c.loop-number.invariant ∙ ap (λ n. c.args.values.now.items ++ map (bit_count c.args.shown) (join_below n parts)) all
