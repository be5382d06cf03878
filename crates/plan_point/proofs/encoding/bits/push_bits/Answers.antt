use Rattle.std.proofs.Common.{◌≡◌, ◌+◌, ◌++◌, ◌∙◌, [], List, map, ap, arith, get_or, length}
use Rattle.std.specs.Prelude.{ℤ, pos}
use Rattle.ct_base.specs.Access.{signal_of}
use Rattle.ct_base.specs.declared.plan.Letter.{Letter}
use Rattle.ct_base.specs.declared.plan.Letter.TheVariants.{Clear}
use Rattle.cell_replay.proofs.Adding.{long_enough}
use Rattle.listed.specs.Below.{join_below}
use Rattle.listed.proofs.JoinLaws.{join_below-zero}
use Rattle.program_model.specs.Columns.{Column, bits_at, letters_of, plan_columns}
use Rattle.program_model.specs.Values.{value_of}
use Rattle.plan_point.specs.inner.Points.{bit_count, counts}
use Rattle.plan_point.proofs.EncodingLaws.{bits_of_step_count, map-join_below-suc, none_added, part_added}
use Rattle.plan_point.proofs.encoding.bits.push_bits.Goals as goal

pub loop-step-init : goal.loop-step-init
loop-step-init c =
    none_added c.args.values.now.items (counts c.args.net.now c.args.plan.now.words (join_below 0 (bits_at c.args.net.now.signals)))
    (ap (counts c.args.net.now c.args.plan.now.words) (join_below-zero (bits_at c.args.net.now.signals)))

pub push_bits_at-requires-clause-shown : goal.push_bits_at-requires-clause-shown
push_bits_at-requires-clause-shown c = rw c.as_slice.ensures (long_enough c.args.net.now c.args.plan.now c.loop-step.step c.requires.words c.loop-step-test.true)

pub loop-step-preserved : goal.loop-step-preserved
loop-step-preserved c =
    let net = c.args.net.now in
    let words = c.args.plan.now.words in
    let t = c.loop-step.step in
    let of : List (List Letter) → List ℤ = λ list. join_below (length list) (λ s. map (bit_count (get_or (get_or list s []) t (Clear 0))) (letters_of (signal_of net.signals s))) in
    let part : of c.as_slice.result.now ≡ counts net words (bits_at net.signals t) = ap of c.as_slice.ensures ∙ bits_of_step_count net words t c.requires.words.one_per_signal in
    part_added c.args.values.now.items (counts net words (join_below t (bits_at net.signals))) (counts net words (bits_at net.signals t))
    c.loop-step.values.items c.push_bits_at.new.values.items (counts net words (join_below (t + 1) (bits_at net.signals)))
    c.loop-step.invariant (c.in_ok-push_bits_at.ensures ∙ ap (λ list. c.loop-step.values.items ++ list) part)
    (map-join_below-suc (λ (column : Column). pos (value_of net words column)) t (bits_at net.signals))

pub returns : goal.returns
unfolding plan_columns
returns c =
    let all : c.loop-step.step ≡ c.args.net.now.steps = omega arith in
    c.loop-step.invariant ∙ ap (λ n. c.args.values.now.items ++ counts c.args.net.now c.args.plan.now.words (join_below n (bits_at c.args.net.now.signals))) all
