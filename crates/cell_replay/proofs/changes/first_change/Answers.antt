use Rattle.std.proofs.Common.{◌≡◌, ◌<◌, ◌∙◌, ap, arith, List, [], length, get_or}
use Rattle.std.proofs.lemmas.List.{get_or_default}
use Rattle.ct_base.specs.declared.plan.Letter.{Letter}
use Rattle.cell_replay.proofs.Differing.{first_change_of, one_word_more}
use Rattle.cell_replay.proofs.changes.first_change.Goals as goal

pub loop-number-preserved : goal.loop-number-preserved
loop-number-preserved c =
    let olds : List (List Letter) = c.args.old.now.words in
    let news : List (List Letter) = c.args.new.now.words in
    let i = c.loop-number.number in
    let there : i < length c.as_slice-new.result.now = omega (arith, ap length c.as_slice-new.ensures, ap length c.as_slice-word-items.ensures, c.requires.old.one_per_signal, c.requires.new.one_per_signal) in
    one_word_more olds news i c.args.net.now.steps c.loop-number.first c.first_difference-first.result
    c.as_slice.result.now c.as_slice-in-loop-number.result.now c.loop-number.invariant
    (c.as_slice.ensures
    ∙ c.word-item.is
    ∙ get_or_default c.as_slice-word-items.result.now i c.word-item.result [] c.loop-number-test.true
    ∙ ap (λ (words : List (List Letter)). get_or words i []) c.as_slice-word-items.ensures)
    (c.as_slice-in-loop-number.ensures
    ∙ c.index-new-number.is
    ∙ get_or_default c.as_slice-new.result.now i c.index-new-number.result [] there
    ∙ ap (λ (words : List (List Letter)). get_or words i []) c.as_slice-new.ensures)
    c.first_difference-first.ensures.within c.first_difference-first.ensures.same c.first_difference-first.ensures.differs

pub returns : goal.returns
returns c =
    let all : c.loop-number.number ≡ length c.args.old.now.words = omega (arith, ap length c.as_slice-word-items.ensures) in
    first_change_of c.args.net.now c.args.old.now c.args.new.now c.loop-number.number c.loop-number.first all
    (omega (arith, c.requires.old.one_per_signal, c.requires.new.one_per_signal)) c.loop-number.invariant
