use Rattle.std.proofs.Common.{arith}
use Rattle.toml.specs.View.{table_view}
use Rattle.network_file.specs.inner.Judged.{HasFewRates}
use Rattle.network_file.proofs.ItemLists.{table_among}
use Rattle.network_file.proofs.link.links_of.Goals as goal

pub link_of-requires : goal.link_of-requires
link_of-requires c =
    record { few_rates = table_among HasFewRates c.args.values.now c.loop-value.value-index c.value-item.result (table_view c.in-Some.link.now) (omega arith) c.value-item.is c.in-Some.ensures c.requires.few_rates }
