-- The top, the links and the signals.
use Rattle.std.proofs.Common.{◌∙◌, ◌++◌, ap}
use Rattle.std.specs.Prelude.{string_bytes}
use Rattle.generated_nets.specs.Generated.{top_text}
use Rattle.generated_nets.proofs.TextLaws.{text_is_written}
use Rattle.generated_nets.proofs.network.generate.Goals as goal

pub returns : goal.returns
returns c =
    rw c.into_bytes.ensures.value
    (text_is_written (string_bytes c.push_top.new.text) (string_bytes c.push_links.new.text) (string_bytes c.push_signals.new.text) c.args.number
    (c.in_ok-push_top.ensures ∙ ap (λ text. text ++ top_text c.args.number) c.in_ok-text.ensures.bytes) c.in_ok-push_links.ensures c.in_ok-push_signals.ensures)
