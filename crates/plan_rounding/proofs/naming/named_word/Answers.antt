use Rattle.std.proofs.Common.{◌++◌, ap, ◌∙◌}
use Rattle.std.specs.Prelude.{take}
use Rattle.traffic_model.specs.Runs.{letters_of_runs}
use Rattle.plan_rounding.specs.Named.{named_runs, named_word}
use Rattle.plan_rounding.proofs.naming.named_word.Goals as goal

pub returns : goal.returns
unfolding named_word
returns c =
    c.in_ok-fill.ensures.letters
    ∙ ap (λ word. take c.args.steps (word ++ letters_of_runs c.args.signal.now (named_runs c.args.signal.now c.args.long c.starting.result c.args.steps))) c.new-word.ensures
    ∙ ap (λ first. take c.args.steps (letters_of_runs c.args.signal.now (named_runs c.args.signal.now c.args.long first c.args.steps))) c.starting.ensures.value
