-- The next block has no run yet.
use Rattle.std.proofs.Common.{refl}
use Rattle.std.proofs.lemmas.Bool.{false≢true}
use Rattle.plan_file.proofs.ReadingLaws.{idle_is_reading}
use Rattle.plan_file.proofs.reading.Reading.close_block.Goals as goal

pub returns-clause-reading : goal.returns-clause-reading
returns-clause-reading c = idle_is_reading c.args.named.now _ c.clear.ensures.items refl (λ opened. absurd (false≢true opened))
