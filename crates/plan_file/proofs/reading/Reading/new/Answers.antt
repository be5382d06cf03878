-- No run is counted, and none has a fault.
use Rattle.std.proofs.Common.{refl}
use Rattle.std.proofs.lemmas.Bool.{false≢true}
use Rattle.plan_file.proofs.ReadingLaws.{idle_is_reading}
use Rattle.plan_file.proofs.reading.Reading.new.Goals as goal

pub returns-clause-reading : goal.returns-clause-reading
returns-clause-reading c = λ named. idle_is_reading named _ c.new-2.ensures.items refl (λ opened. absurd (false≢true opened))
