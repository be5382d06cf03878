-- A pair after another is taken off the words.
use Rattle.std.proofs.Common.{Bool, if◌then◌else◌, None, ap, ◌∙◌, arith, List, ◌++◌}
use Rattle.std.specs.Prelude.{ℕ, ℤ, option_map, take}
use Rattle.texts.specs.Lines.{words_of}
use Rattle.certificate_model.specs.Text.{pairs_in}
use Rattle.cert_format.proofs.LineLaws.{none_before, pair_added, two_words}
use Rattle.cert_format.proofs.line.read_pairs.Goals as goal

pub loop-row-init : goal.loop-row-init
loop-row-init c = record {
  first = none_before c.args.most c.args.pairs.now.items (pairs_in (words_of c.args.words.now)) c.requires.none;
  few = rw c.requires.none (omega arith);
}

pub loop-row-preserved : goal.loop-row-preserved
loop-row-preserved c = record {
  first =
      c.loop-row.invariant.first
      ∙ ap (option_map (λ (more : List (ℕ × ℤ)). take c.args.most (c.loop-row.pairs.items ++ more))) (two_words c.loop-row.rest.now c.in-Some.row.now c.in-Some.behind.now c.in-Some-take_word.price.now c.in-Some-take_word.more.now c.in-Some.ensures c.in-Some-take_word.ensures)
      ∙ pair_added c.args.most c.loop-row.pairs.items c.push_pair.new.pairs.items c.in_ok-push_pair-in-Some-take_word.field-0 c.in-Some.row.now c.in-Some-take_word.price.now (pairs_in (words_of c.in-Some-take_word.more.now))
      c.in_ok-push_pair-in-Some-take_word.ensures.first
      ∙ ap (λ (is : Bool). if is then option_map (λ (more : List (ℕ × ℤ)). take c.args.most (c.push_pair.new.pairs.items ++ more)) (pairs_in (words_of c.in-Some-take_word.more.now)) else None) c.if-not-branch.false;
  few = c.in_ok-push_pair-in-Some-take_word.ensures.few;
}
