-- The run has no fault behind those before it.
use Rattle.std.proofs.Common.{◌≡◌, length, refl, ap, ◌∙◌}
use Rattle.ct_base.specs.Access.{phase_of, signal_of}
use Rattle.ct_base.specs.declared.net.Net.{Net}
use Rattle.plan_file.proofs.ReadingLaws.{judged_is_fine, run_is_taken}
use Rattle.plan_file.proofs.reading.Reading.take_run.Goals as goal

pub returns-clause-reading : goal.returns-clause-reading
returns-clause-reading c =
    let signal : c.signal-signal.result.now ≡ signal_of c.args.named.now.net.signals (length c.args.self.now.words) =
    c.signal-signal.ensures.value ∙ ap (λ (net : Net). signal_of net.signals c.len.result) c.net-net.ensures.value ∙ ap (signal_of c.args.named.now.net.signals) c.len.ensures in
    run_is_taken c.args.named.now c.args.self.now _ (c.phase_number.result, c.args.green) c.clearing_of.result c.requires c.if-not-self.false
    (judged_is_fine _ c.signal-signal.result.now c.args.self.now.runs.items c.as_slice.result.now (c.phase_number.result, c.args.green) _ c.net-net.result.now.steps
    signal c.as_slice.ensures.value (ap (λ (net : Net). net.steps) c.net-net.ensures.value) c.in_default.ensures)
    (c.clearing_of.ensures.value ∙ ap (λ signal. (phase_of signal c.phase_number.result).clear) signal) c.clearing_of.ensures.low
    refl c.if-not-self.false c.in_ok-push.ensures.items refl
