use Rattle.std.proofs.Common.{◌-◌, ◌∙◌, arith}
use Rattle.plan_rounding.proofs.NamedLaws.{filled_is_long, none_left, one_run_more}
use Rattle.plan_rounding.proofs.runs.fill.Goals as goal

pub loop-preserved : goal.loop-preserved
loop-preserved c = record {
  letters =
      one_run_more c.args.signal.now c.args.long c.loop.allowed c.in_ok-allowed.allowed c.loop.counter c.args.steps c.loop.word c.push_named.new.word c.loop-test.true
      c.in_ok-allowed.ensures.letters c.in_ok-allowed.ensures.next
      ∙ c.loop.invariant.letters;
  within = c.in_ok-allowed.ensures.within;
  some = c.in_ok-allowed.ensures.some;
  phases = c.in_ok-allowed.ensures.phases;
}

pub returns-clause-letters : goal.returns-clause-letters
returns-clause-letters c =
    none_left c.args.signal.now c.args.long c.loop.allowed (c.args.steps - c.loop.counter) c.args.steps c.loop.word (omega arith) c.loop.invariant.within ∙ c.loop.invariant.letters

pub returns-clause-whole : goal.returns-clause-whole
returns-clause-whole c =
    filled_is_long c.args.signal.now c.args.long c.args.first c.args.steps c.args.word.now c.loop.word c.requires.signal c.requires.some c.requires.phases
    (none_left c.args.signal.now c.args.long c.loop.allowed (c.args.steps - c.loop.counter) c.args.steps c.loop.word (omega arith) c.loop.invariant.within ∙ c.loop.invariant.letters)
