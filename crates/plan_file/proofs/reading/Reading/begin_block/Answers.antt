-- The block that begins is that of the next signal.
use Rattle.std.proofs.Common.{ap, map}
use Rattle.phase_rules.specs.Expansion.{run_by}
use Rattle.plan_file.specs.inner.Scan.{closed}
use Rattle.plan_file.specs.inner.State.{progress_of}
use Rattle.plan_file.proofs.ReadingLaws.{block_is_begun}
use Rattle.plan_file.proofs.reading.Reading.begin_block.Goals as goal

pub returns-clause-told : goal.returns-clause-told
returns-clause-told c =
    block_is_begun c.args.named.now c.args.number c.args.name.now (closed c.args.named.now c.args.number (progress_of c.args.self.now)) (progress_of c.close_block.new.self) c.len.result
    (map run_by c.close_block.new.self.runs.items) c.in_ok-close_block.ensures.told c.len.ensures c.if-not-is_next.ensures
    (ap (map run_by) (c.in_ok-close_block.ensures.reading.idle c.in_ok-close_block.ensures.closed))
