use Rattle.std.proofs.Common.{Ok, ap, subst}
use Rattle.sparse_program.specs.Program.{Parts}
use Rattle.cert_check.specs.inner.Walks.{IsWalk}
use Rattle.cert_check.proofs.CheckerLaws.{still_fixed}
use Rattle.cert_check.proofs.line_checker.LineChecker.after_mark.Goals as goal

pub returns-then-branch-clause-walk : goal.returns-then-branch-clause-walk
returns-then-branch-clause-walk c = record {
  tree = subst (λ (program : Parts). IsWalk program c.pass.new.self) c.requires.program (c.in_ok-pass-in-None.ensures.walk (ap Ok c.if-branch.true));
  known = still_fixed c.args.net.now c.args.self.now.program
      (record { costed = c.judge.new.costed; frames = c.args.self.now.walk.frames; known = c.judge.new.known }) c.pass.new.self c.requires.program
      c.in_ok-found.ensures.known c.in_ok-pass-in-None.ensures.known;
}
