use Rattle.std.proofs.Common.{◌≡◌, ◌<◌, inl, inr, [], List, length, get_or, ap, ◌∙◌, sym, arith, ext_get_or, get_or-set_same, get_or-set_other}
use Rattle.std.proofs.lemmas.Bool.{cases_eq}
use Rattle.std.proofs.lemmas.List.{get_or_default}
use Rattle.ct_base.specs.declared.plan.Letter.{Letter}
use Rattle.ct_base.specs.declared.plan.Letter.TheVariants.{Green, Clear}
use Rattle.traffic_model.proofs.TrafficLaws.{length-letters_at, letters_at-signal}
use Rattle.traffic_model.specs.Delay.{letters_at}
use Rattle.cell_replay.proofs.whole_plan.show.Goals as goal

pub loop-number-preserved : goal.loop-number-preserved
loop-number-preserved c =
    let words = c.args.words.now in
    let t = c.args.step in
    let i = c.loop-number.number in
    let word : List Letter = c.as_slice.result.now in
    let is : word ≡ get_or words i [] = c.as_slice.ensures ∙ c.index-words-number.is ∙ get_or_default words i c.index-words-number.result [] c.loop-number-test.true in
    let long : t < length word = rw is (c.requires.shown i [] c.loop-number-test.true) in
    let shown : Letter = get_or word t (Green 0) in
    let at_i : shown ≡ get_or (get_or words i []) t (Clear 0) = get_or_default word t (Green 0) (Clear 0) long ∙ ap (λ list. get_or list t (Clear 0)) is in
    λ s d below.
    elim (cases_eq s i) [
      | inl e ↦ rw e (get_or-set_same c.loop-number.letters i shown d (omega arith) ∙ at_i)
      | inr ne ↦ get_or-set_other c.loop-number.letters i s shown d ne ∙ c.loop-number.invariant s d (omega arith)
    ]

pub returns : goal.returns
returns c =
    let words = c.args.words.now in
    let t = c.args.step in
    ext_get_or (Clear 0) c.loop-number.letters (letters_at words t) (omega (arith, length-letters_at words t))
    (λ s within. c.loop-number.invariant s (Clear 0) (omega arith) ∙ sym (letters_at-signal words t s (omega arith)))
