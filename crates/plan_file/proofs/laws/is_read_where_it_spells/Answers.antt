-- The pass over the lines answers what is spelled, and the lines of a plan's text are those of its runs.
use Rattle.plan_file.proofs.SpellLaws.{read_where_spells, spells_where_read}
use Rattle.plan_file.proofs.laws.is_read_where_it_spells.Goals as goal

pub returns : goal.returns
returns c = λ text plan. (spells_where_read c.args.named.now text plan c.names-names.ensures.fits, read_where_spells c.args.named.now text plan c.names-names.ensures.fits)
