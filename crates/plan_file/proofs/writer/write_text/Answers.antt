-- One block after another, and the end.
use Rattle.std.proofs.Common.{◌≡◌, ap, get_or, length, sym, ◌∙◌, [], arith}
use Rattle.std.specs.Prelude.{string_bytes}
use Rattle.std.proofs.lemmas.List.{get_or_read}
use Rattle.ct_base.specs.declared.net.Net.{Net}
use Rattle.plan_file.proofs.WriteLaws.{text_below-more, text_below-none, text_spells}
use Rattle.plan_file.proofs.writer.write_text.Goals as goal

pub loop-signal-init : goal.loop-signal-init
loop-signal-init c = c.in_ok-text.ensures.ok ∙ sym (text_below-none c.args.named.now.names c.args.plan.now)

pub loop-signal-preserved : goal.loop-signal-preserved
loop-signal-preserved c =
    let s = c.loop-signal.signal in
    let signals : c.len-signal-end.result ≡ length c.args.named.now.net.signals = c.len-signal-end.ensures ∙ ap (λ (net : Net). length net.signals) c.net.ensures.value in
    let words : length c.as_slice.result.now ≡ length c.args.plan.now.words = ap length c.as_slice.ensures in
    let count = c.requires.words.one_per_signal in
    let read = get_or_read c.as_slice.result.now s c.index-as_slice-signal.result (omega arith) c.index-as_slice-signal.is [] in
    text_below-more c.args.named.now.names c.args.plan.now s c.as_slice-in-loop-signal.result.now (string_bytes c.loop-signal.text) (string_bytes c.push_block.new.text) (omega arith)
    (c.as_slice-in-loop-signal.ensures ∙ read ∙ ap (λ words. get_or words s []) c.as_slice.ensures) c.loop-signal.invariant c.in_ok-push_block.ensures

pub returns : goal.returns
returns c =
    let signals : c.len-signal-end.result ≡ length c.args.named.now.net.signals = c.len-signal-end.ensures ∙ ap (λ (net : Net). length net.signals) c.net.ensures.value in
    text_spells c.args.named.now c.args.plan.now c.loop-signal.signal (string_bytes c.loop-signal.text) (string_bytes c.push_str.new.self) c.names-names.ensures.fits c.requires (omega arith) c.loop-signal.invariant
    c.in_ok-push_str.ensures.bytes
