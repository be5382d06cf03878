use Rattle.std.proofs.Common.{◌≡◌, ◌<◌, ◌+◌, ◌++◌, ◌∙◌, [], List, map, ap, get_or, length}
use Rattle.std.specs.Prelude.{ℕ, ℤ}
use Rattle.std.proofs.lemmas.List.{get_or_default}
use Rattle.ct_base.specs.Access.{signal_of}
use Rattle.ct_base.specs.declared.plan.Letter.{Letter}
use Rattle.ct_base.specs.declared.plan.Letter.TheVariants.{Clear, Green}
use Rattle.ct_base.specs.declared.signal.Signal.{Signal}
use Rattle.listed.specs.Below.{join_below}
use Rattle.listed.proofs.JoinLaws.{join_below-suc, join_below-zero}
use Rattle.program_model.specs.Columns.{letters_of}
use Rattle.plan_point.specs.inner.Points.{bit_count}
use Rattle.plan_point.proofs.EncodingLaws.{none_added, part_added}
use Rattle.plan_point.proofs.encoding.bits.push_bits_at.Goals as goal

pub loop-number-init : goal.loop-number-init
loop-number-init c =
    let parts : ℕ → List ℤ = λ s. map (bit_count (get_or (get_or c.args.words.now s []) c.args.step (Clear 0))) (letters_of (signal_of c.args.net.now.signals s)) in
    none_added c.args.values.now.items (join_below 0 parts) (join_below-zero parts)

pub loop-number-preserved : goal.loop-number-preserved
loop-number-preserved c =
    let parts : ℕ → List ℤ = λ s. map (bit_count (get_or (get_or c.args.words.now s []) c.args.step (Clear 0))) (letters_of (signal_of c.args.net.now.signals s)) in
    let words = c.args.words.now in
    let t = c.args.step in
    let i = c.loop-number.number in
    let word : List Letter = c.as_slice.result.now in
    let is : word ≡ get_or words i [] = c.as_slice.ensures ∙ c.index-words-number.is ∙ get_or_default words i c.index-words-number.result [] c.loop-number-test.true in
    let long : t < length word = rw is (c.requires.shown i [] c.loop-number-test.true) in
    let shown : get_or word t (Green 0) ≡ get_or (get_or words i []) t (Clear 0) = get_or_default word t (Green 0) (Clear 0) long ∙ ap (λ (list : List Letter). get_or list t (Clear 0)) is in
    part_added c.args.values.now.items (join_below c.loop-number.number parts) (parts c.loop-number.number) c.loop-number.values.items c.push_bits_of.new.values.items
    (join_below (c.loop-number.number + 1) parts) c.loop-number.invariant
    (c.in_ok-push_bits_of.ensures
    ∙ ap (λ (letter : Letter). c.loop-number.values.items ++ map (bit_count letter) (letters_of c.signal.result.now)) shown
    ∙ ap (λ (signal : Signal). c.loop-number.values.items ++ map (bit_count (get_or (get_or words i []) t (Clear 0))) (letters_of signal)) c.signal.ensures.value)
    (join_below-suc c.loop-number.number parts)
