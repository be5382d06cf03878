use Rattle.std.proofs.Common.{arith}
use Rattle.toml.specs.View.{table_view}
use Rattle.network_file.proofs.ItemLists.{number_found, number_past}
use Rattle.network_file.proofs.document.item_number_at.Goals as goal

pub returns-in-Some : goal.returns-in-Some
returns-in-Some c =
    let found = c.in-Some.ensures.lookup in
    number_found c.args.key.now (table_view c.args.table.now) c.items_at.result.now c.args.place c.args.default c.number_of.result c.in-Some.value.now
    (omega arith) found.1 c.items_at.ensures c.number_of.ensures

pub returns-in-None : goal.returns-in-None
returns-in-None c =
    let found = c.in-None.ensures.lookup in
    number_past c.args.key.now (table_view c.args.table.now) c.items_at.result.now c.args.place c.args.default (omega arith) c.items_at.ensures
