use Rattle.cert_check.proofs.ReasonFirsts.{lawful_pairs}
use Rattle.cert_check.proofs.judging.pairs.priced_reason.Goals as goal

pub value-requires-clause-lawful : goal.value-requires-clause-lawful
value-requires-clause-lawful c = lawful_pairs c.args.program.now.rows c.args.pairs.now c.requires.spelled c.in-None.ensures
