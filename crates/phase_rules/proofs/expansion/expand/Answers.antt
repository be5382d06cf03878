use Rattle.std.proofs.Common.{rules, ◌≡◌, ◌∙◌, Err, inl, map, sym}
use Rattle.phase_rules.specs.Expansion.{run_by}
use Rattle.phase_rules.proofs.JudgeLaws.{expanded_fault, expanded_fine}
use Rattle.phase_rules.proofs.PhaseLaws.{expanded_is_admissible, expanded_length}
use Rattle.phase_rules.proofs.expansion.expand.Goals as goal

pub returns-in_err-judge_all-clause-word : goal.returns-in_err-judge_all-clause-word
returns-in_err-judge_all-clause-word c =
    let e : c.from_residual.result ≡ Err c.in_err-judge_all.field-0.0 = search rules in
    inl (e ∙ sym (expanded_fault c.args.signal.now (map run_by c.args.runs.now) c.args.steps c.in_err-judge_all.field-0.0 c.in_err-judge_all.ensures))

pub returns-clause-word : goal.returns-clause-word
returns-clause-word c = inl (sym (expanded_fine c.args.signal.now (map run_by c.args.runs.now) c.args.steps c.in_ok-word.word c.in_ok-judge_all.ensures c.in_ok-word.ensures))

pub returns-clause-length : goal.returns-clause-length
returns-clause-length c =
    expanded_length c.args.signal.now (map run_by c.args.runs.now) c.args.steps c.in_ok-word.word
    (expanded_fine c.args.signal.now (map run_by c.args.runs.now) c.args.steps c.in_ok-word.word c.in_ok-judge_all.ensures c.in_ok-word.ensures)

pub returns-clause-admissible : goal.returns-clause-admissible
returns-clause-admissible c =
    expanded_is_admissible c.args.signal.now (map run_by c.args.runs.now) c.args.steps c.in_ok-word.word c.requires.signal
    (expanded_fine c.args.signal.now (map run_by c.args.runs.now) c.args.steps c.in_ok-word.word c.in_ok-judge_all.ensures c.in_ok-word.ensures)
