-- Each line's step is that of the pass over all lines.
use Rattle.std.proofs.Common.{inl, ◌+◌, ap, sym, ◌∙◌, arith}
use Rattle.std.proofs.lemmas.Result.{err_from_is_err_and}
use Rattle.plan_file.specs.Lines.{End, lines_in}
use Rattle.plan_file.specs.inner.Scan.{after_end, and_then, ended, scan, stepped}
use Rattle.plan_file.specs.inner.State.{progress_of, said}
use Rattle.plan_file.proofs.ReadingLaws.{line_is_taken, no_line_left, refusal_is_whole, rest_is}
use Rattle.plan_file.proofs.reader.read_lines.Goals as goal

pub loop-bytes-init : goal.loop-bytes-init
loop-bytes-init c = record {
  same = ap (λ progress. scan c.args.named.now 2 progress (lines_in c.args.text.now)) c.new-reading.ensures.first;
  reading = c.new-reading.ensures.reading c.args.named.now;
  count = omega arith;
}

pub returns-in_err-take_end-in-End : goal.returns-in_err-take_end-in-End
returns-in_err-take_end-in-End c =
    let p = err_from_is_err_and c.from_residual.result c.from_residual.ensures.1 in
    rw (p.1, p.2)
    (refusal_is_whole c.in_err-take_end-in-End.field-0.0 (ended c.args.named.now c.loop-bytes.number (progress_of c.loop-bytes.reading)) (progress_of c.take_end.new.self)
    (λ progress. after_end (c.loop-bytes.number + 1) progress (lines_in c.in-Some.behind.now)) _ c.in_err-take_end-in-End.ensures
    (rest_is c.args.named.now c.loop-bytes.number (progress_of c.loop-bytes.reading) c.loop-bytes.rest.now c.in-Some.bytes.now c.in-Some.behind.now End _ c.in-Some.ensures c.in-End.ensures c.loop-bytes.invariant.same))

pub returns-in-End : goal.returns-in-End
returns-in-End c =
    inl (sym (sym (rest_is c.args.named.now c.loop-bytes.number (progress_of c.loop-bytes.reading) c.loop-bytes.rest.now c.in-Some.bytes.now c.in-Some.behind.now End _ c.in-Some.ensures c.in-End.ensures c.loop-bytes.invariant.same)
    ∙ ap (λ told. and_then told (λ progress. after_end (c.loop-bytes.number + 1) progress (lines_in c.in-Some.behind.now))) c.in_ok-take_end-in-End.ensures
    ∙ sym c.into_plan.ensures))

pub returns-in_err-take-in_default-line_of : goal.returns-in_err-take-in_default-line_of
returns-in_err-take-in_default-line_of c =
    let p = err_from_is_err_and c.from_residual-in_err-take-in_default-line_of.result c.from_residual-in_err-take-in_default-line_of.ensures.1 in
    rw (p.1, p.2)
    (refusal_is_whole c.in_err-take-in_default-line_of.field-0.0 (stepped c.args.named.now c.loop-bytes.number (progress_of c.loop-bytes.reading) (said c.line_of.result)) (progress_of c.take.new.self)
    (λ progress. scan c.args.named.now (c.loop-bytes.number + 1) progress (lines_in c.in-Some.behind.now)) _ c.in_err-take-in_default-line_of.ensures.told
    (line_is_taken c.args.named.now c.loop-bytes.number (progress_of c.loop-bytes.reading) c.loop-bytes.rest.now c.in-Some.bytes.now c.in-Some.behind.now c.line_of.result _ c.in-Some.ensures c.line_of.ensures
    c.in_default-line_of.not-End c.loop-bytes.invariant.same))

pub loop-bytes-preserved : goal.loop-bytes-preserved
loop-bytes-preserved c = record {
  same = sym (ap (λ told. and_then told (λ progress. scan c.args.named.now (c.loop-bytes.number + 1) progress (lines_in c.in-Some.behind.now))) c.in_ok-take-in_default-line_of.ensures.told)
      ∙ line_is_taken c.args.named.now c.loop-bytes.number (progress_of c.loop-bytes.reading) c.loop-bytes.rest.now c.in-Some.bytes.now c.in-Some.behind.now c.line_of.result _ c.in-Some.ensures c.line_of.ensures
      c.in_default-line_of.not-End c.loop-bytes.invariant.same;
  reading = c.in_ok-take-in_default-line_of.ensures.reading;
  count = (let shorter = c.in-Some.ensures.shorter in let count = c.loop-bytes.invariant.count in omega arith);
}

pub returns : goal.returns
returns c = inl (sym (sym c.loop-bytes.invariant.same ∙ no_line_left c.args.named.now c.loop-bytes.number (progress_of c.loop-bytes.reading) c.loop-bytes.rest.now c.in_default.ensures))
