use Rattle.std.proofs.Common.{◌∙◌, ap, sym, length, map}
use Rattle.refusals.specs.Faults.{unless}
use Rattle.phase_rules.specs.Expansion.{may_be, run_by}
use Rattle.phase_rules.specs.inner.Judging.{faults_of_run}
use Rattle.phase_rules.proofs.JudgeLaws.{faults_at_end}
use Rattle.phase_rules.proofs.expansion.judge_run.Goals as goal

pub returns : goal.returns
returns c =
    let number = length c.args.before.now in
    c.judge_green.ensures
    ∙ ap (λ allowed. unless (faults_of_run c.args.signal.now allowed c.args.letters c.args.steps number (run_by c.args.run)) tt) c.allowed_after-allowed.ensures
    ∙ ap (λ begin. unless (faults_of_run c.args.signal.now (may_be c.args.signal.now (map run_by c.args.before.now) number) begin c.args.steps number (run_by c.args.run)) tt) c.requires.letters
    ∙ ap (λ faults. unless faults tt) (sym (faults_at_end c.args.signal.now c.args.before.now c.args.run c.args.steps))
