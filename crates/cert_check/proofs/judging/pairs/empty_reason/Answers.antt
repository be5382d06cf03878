use Rattle.cert_check.proofs.ReasonFirsts.{lawful_pairs}
use Rattle.cert_check.proofs.judging.pairs.empty_reason.Goals as goal

pub value-value-requires-clause-lawful : goal.value-value-requires-clause-lawful
value-value-requires-clause-lawful c = lawful_pairs c.args.program.now.rows c.args.pairs.now c.requires.spelled c.in-None.ensures
