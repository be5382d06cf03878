use Rattle.std.proofs.Common.{ap, ◌∙◌, arith}
use Rattle.cell_build.specs.inner.Numbered.{texts}
use Rattle.cell_build.proofs.NameLaws.{one_name_more}
use Rattle.cell_build.proofs.by_name.names_of.Goals as goal

pub loop-item-preserved : goal.loop-item-preserved
loop-item-preserved g c =
    ap texts c.in_ok-insert.ensures.keys
    ∙ one_name_more g.T.HasName.name_of c.args.items.now c.loop-item.names.keys c.name.result c.item-item.result c.loop-item.item-index c.requires (omega arith) c.loop-item.invariant c.item-item.is c.name.ensures
