use Rattle.std.proofs.Common.{rules, ◌≡◌, ◌+◌, ◌<◌, ◌∙◌, Err, ap, sym, [], arith, length, map, get_or}
use Rattle.listed.specs.Below.{join_below}
use Rattle.refusals.specs.Faults.{unless}
use Rattle.refusals.proofs.FirstFaults.{unless_fine, unless_left, unless_place, unless_right}
use Rattle.listed.proofs.JoinLaws.{join_below-more, join_below-zero}
use Rattle.std.proofs.lemmas.List.{length-map}
use Rattle.ct_base.specs.declared.signal.Phase.{Phase}
use Rattle.listed.proofs.SumLaws.{sum_below-zero}
use Rattle.phase_rules.specs.Expansion.{faults_at, faults_of, run_by, short_faults}
use Rattle.phase_rules.proofs.JudgeLaws.{begins_at_front, counted_more, faults_at_front, run_counts}
use Rattle.phase_rules.proofs.expansion.judge_all.Goals as goal

pub loop-j-init : goal.loop-j-init
loop-j-init c = record {
  fine = join_below-zero _;
  counted = sym (sum_below-zero _);
  reached = omega arith;
  bounded = omega arith;
}

pub judge_run-requires-clause-letters : goal.judge_run-requires-clause-letters
judge_run-requires-clause-letters c =
    c.loop-j.invariant.counted ∙ sym (begins_at_front c.args.signal.now c.args.runs.now c.loop-j.j (omega arith))

pub returns-in_err-judge_run : goal.returns-in_err-judge_run
unfolding faults_of
returns-in_err-judge_run c =
    let runs = map run_by c.args.runs.now in
    let e : c.from_residual.result ≡ Err c.in_err-judge_run.field-0.0 = search rules in
    let within : c.loop-j.j < length c.args.runs.now = omega arith in
    let inside : c.loop-j.j < length runs = omega (arith, length-map c.args.runs.now run_by) in
    let here = c.in_err-judge_run.ensures ∙ ap (λ faults. unless faults (tt {0})) (faults_at_front c.args.signal.now c.args.runs.now c.loop-j.j c.args.steps within) in
    e ∙ unless_left (join_below (length runs) (faults_at c.args.signal.now runs c.args.steps)) (short_faults c.args.signal.now runs c.args.steps) (tt {0}) (tt {0}) c.in_err-judge_run.field-0.0
    (unless_place (length runs) c.loop-j.j (faults_at c.args.signal.now runs c.args.steps) (tt {0}) (tt {0}) c.in_err-judge_run.field-0.0 inside c.loop-j.invariant.fine here)

pub loop-j-preserved : goal.loop-j-preserved
loop-j-preserved c =
    let run = get_or c.args.runs.now c.loop-j.j (0, 0) in
    let here : faults_at c.args.signal.now (map run_by c.args.runs.now) c.args.steps c.loop-j.j ≡ [] =
    sym (faults_at_front c.args.signal.now c.args.runs.now c.loop-j.j c.args.steps (omega arith)) ∙ unless_fine _ tt tt c.in_ok-judge_run.ensures in
    let counts = run_counts c.args.signal.now c.args.runs.now c.args.steps c.loop-j.j c.loop-j.letters (omega arith) here c.loop-j.invariant.counted in
    record {
      fine = join_below-more c.loop-j.j (faults_at c.args.signal.now (map run_by c.args.runs.now) c.args.steps) c.loop-j.invariant.fine here;
      counted = ap (λ (phase : Phase). c.loop-j.letters + (run.1 + phase.clear)) c.phase_at.ensures.value
          ∙ counted_more c.args.signal.now c.args.runs.now c.loop-j.j c.loop-j.letters (omega arith) c.loop-j.invariant.counted;
      reached = omega arith;
      bounded = omega arith;
    }

pub returns-in_err-judge_end : goal.returns-in_err-judge_end
unfolding faults_of
returns-in_err-judge_end c =
    let runs = map run_by c.args.runs.now in
    let e : c.from_residual-in_err-judge_end.result ≡ Err c.in_err-judge_end.field-0.0 = search rules in
    let all : c.loop-j.j ≡ length runs = omega (arith, length-map c.args.runs.now run_by) in
    let fine : join_below (length runs) (faults_at c.args.signal.now runs c.args.steps) ≡ [] = ap (λ j. join_below j (faults_at c.args.signal.now runs c.args.steps)) (sym all) ∙ c.loop-j.invariant.fine in
    e ∙ c.in_err-judge_end.ensures ∙ sym (unless_right (join_below (length runs) (faults_at c.args.signal.now runs c.args.steps)) (short_faults c.args.signal.now runs c.args.steps) tt fine)

pub returns : goal.returns
unfolding faults_of
returns c =
    let runs = map run_by c.args.runs.now in
    let all : c.loop-j.j ≡ length runs = omega (arith, length-map c.args.runs.now run_by) in
    let fine : join_below (length runs) (faults_at c.args.signal.now runs c.args.steps) ≡ [] = ap (λ j. join_below j (faults_at c.args.signal.now runs c.args.steps)) (sym all) ∙ c.loop-j.invariant.fine in
    c.in_ok-judge_end.ensures ∙ sym (unless_right (join_below (length runs) (faults_at c.args.signal.now runs c.args.steps)) (short_faults c.args.signal.now runs c.args.steps) tt fine)
