use Rattle.std.proofs.Common.{◌+◌, ◌∙◌, ap, false, sym, true, arith}
use Rattle.std.specs.Prelude.{drop}
use Rattle.phase_rules.specs.inner.Scan.{goes_on, passes}
use Rattle.phase_rules.proofs.ScanLaws.{answers_by_scan, passes_all, passes_more}
use Rattle.phase_rules.proofs.scan.admissible.Goals as goal

pub returns-in-None : goal.returns-in-None
returns-in-None c =
    answers_by_scan c.args.signal.now c.args.word.now false c.requires.signal
    (sym c.loop-letter.invariant
    ∙ passes_more c.args.signal.now c.loop-letter.scan c.args.word.now c.loop-letter.letter-index _ (omega arith)
    ∙ ap (λ reached. goes_on reached (λ next. passes c.args.signal.now next (drop (c.loop-letter.letter-index + 1) c.args.word.now))) (sym c.step.ensures ∙ c.in-None.is))

pub returns : goal.returns
returns c =
    answers_by_scan c.args.signal.now c.args.word.now true c.requires.signal
    (sym c.loop-letter.invariant ∙ passes_all c.args.signal.now c.loop-letter.scan c.args.word.now c.loop-letter.letter-index (omega arith))
