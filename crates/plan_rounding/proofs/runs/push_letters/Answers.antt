use Rattle.std.proofs.Common.{◌∙◌, ap, arith, length}
use Rattle.std.proofs.lemmas.List.{length-append, length-replicate}
use Rattle.std.specs.Prelude.{replicate}
use Rattle.phase_rules.proofs.JudgeLaws.{filled}
use Rattle.plan_rounding.proofs.runs.push_letters.Goals as goal

pub returns-clause-letters : goal.returns-clause-letters
returns-clause-letters c =
    c.loop.invariant ∙ filled c.args.word.now c.args.letter c.args.steps c.args.count c.loop.counter (omega arith) c.requires

pub returns-clause-within : goal.returns-clause-within
returns-clause-within c =
    omega (arith, ap length c.loop.invariant ∙ length-append c.args.word.now (replicate c.loop.counter c.args.letter), length-replicate c.loop.counter c.args.letter)
