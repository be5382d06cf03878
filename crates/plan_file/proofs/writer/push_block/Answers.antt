-- The runs of the word are its greens, of phases that there are.
use Rattle.std.proofs.Common.{◌≡◌, ◌++◌, ap, ◌∙◌}
use Rattle.std.specs.Prelude.{codes, string_bytes}
use Rattle.ct_base.specs.Access.{signal_of}
use Rattle.ct_base.specs.declared.net.Net.{Net}
use Rattle.named_net.specs.Naming.{NameTable, signal_names_at}
use Rattle.plan_file.proofs.WriteLaws.{block_is_added, runs_have_phases}
use Rattle.plan_file.proofs.writer.push_block.Goals as goal

pub push_runs-requires-clause-phases : goal.push_runs-requires-clause-phases
push_runs-requires-clause-phases c =
    runs_have_phases c.args.named.now c.args.signal _ c.signal.result.now c.in_ok-runs.runs c.as_slice.result.now c.args.word.now c.names.ensures.fits c.requires.signal
    (c.signal.ensures.value ∙ ap (λ (net : Net). signal_of net.signals c.args.signal) c.net.ensures.value) c.requires.length c.as_slice.ensures c.in_ok-runs.ensures.expands

pub returns : goal.returns
returns c =
    let name : c.signal-name.result.now ≡ (signal_names_at c.args.named.now.names c.args.signal).name =
    c.signal-name.ensures ∙ ap (λ (names : NameTable). (signal_names_at names c.args.signal).name) c.names.ensures.value in
    block_is_added (string_bytes c.args.text.now) (string_bytes c.write.new.self) (string_bytes c.push_runs.new.text) (signal_names_at c.args.named.now.names c.args.signal) c.signal.result.now c.in_ok-runs.runs
    c.as_slice.result.now c.args.word.now _ c.signal.ensures.valid c.in_ok-runs.ensures.expands c.as_slice.ensures
    (c.in_ok-write.ensures.bytes ∙ ap (λ name. string_bytes c.args.text.now ++ (codes "signal " ++ name ++ codes "\n")) name) c.in_ok-push_runs.ensures
