use Rattle.std.proofs.Common.{◌∙◌, ap, length, map, sym}
use Rattle.phase_rules.specs.Expansion.{expanded, run_by}
use Rattle.phase_rules.proofs.PhaseLaws.{every_admissible_word_has_runs, runs_are_greens}
use Rattle.phase_rules.proofs.run_list.runs.Goals as goal

pub returns-clause-expands : goal.returns-clause-expands
returns-clause-expands c =
    ap (λ greens. expanded c.args.signal.now (map run_by greens) (length c.args.word.now)) c.in_ok-greens.ensures
    ∙ every_admissible_word_has_runs c.args.signal.now c.args.word.now c.requires.signal c.requires.admissible

pub returns-clause-only : goal.returns-clause-only
returns-clause-only c = λ others is.
    runs_are_greens c.args.signal.now others (length c.args.word.now) c.args.word.now c.requires.signal is ∙ sym c.in_ok-greens.ensures
