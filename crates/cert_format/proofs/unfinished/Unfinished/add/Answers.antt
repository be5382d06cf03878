-- One step more.
use Rattle.std.proofs.Common.{◌∙◌, arith}
use Rattle.cert_format.proofs.UnfinishedLaws.{step_added}
use Rattle.cert_format.proofs.unfinished.Unfinished.add.Goals as goal

pub loop-at-preserved : goal.loop-at-preserved
loop-at-preserved c = record {
  reads = λ line reads.
      step_added c.args.self.now.most c.loop-at.self.most c.loop-at.at c.min-end.result c.loop-at.self.bytes c.add_step.new.self.bytes c.args.bytes.now line (omega arith) c.loop-at.invariant.most
      (c.loop-at.invariant.reads line reads) c.in_ok-add_step.ensures.reads;
  most = c.in_ok-add_step.ensures.most ∙ c.loop-at.invariant.most;
  within = omega arith;
}
