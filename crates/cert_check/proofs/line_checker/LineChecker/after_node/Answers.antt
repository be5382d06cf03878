-- The first pairs of a leaf decide.
use Rattle.std.proofs.Common.{Option, ◌∙◌, ap, subst, ◌+◌, List, length, w64}
use Rattle.std.proofs.lemmas.Result.{IfOk-weaker}
use Rattle.std.proofs.lemmas.Int.{to_z-of_z}
use Rattle.std.specs.Prelude.{IfOk, ℤ, Some}
use Rattle.sparse_program.specs.Box.{Ranges}
use Rattle.sparse_program.specs.Program.{Parts}
use Rattle.certificate_model.specs.Text.{node_in}
use Rattle.certificate_model.specs.Verdicts.{AfterNode}
use Rattle.cert_format.specs.Marks.{marked}
use Rattle.cert_format.specs.declared.line.Mark.{Mark}
use Rattle.cert_check.specs.declared.state.State.{State}
use Rattle.cert_check.specs.inner.Known.{node_with}
use Rattle.cert_check.specs.inner.Standings.{standing_at}
use Rattle.cert_check.specs.inner.Waiting.{waiting}
use Rattle.cert_check.specs.inner.Walks.{boxes_of}
use Rattle.cert_check.proofs.FirstPairs.{after_read, read_is_spelled}
use Rattle.cert_check.proofs.line_checker.LineChecker.after_node.Goals as goal

pub after_mark-requires-clause-spelled : goal.after_mark-requires-clause-spelled
after_mark-requires-clause-spelled c =
    read_is_spelled c.args.line.now c.most_pairs-most.result c.in-Some.mark c.read_node.new.pairs.items
    (c.in_ok-mark.ensures.node ∙ ap (λ (mark : Option Mark). marked mark c.read_node.new.pairs.items) c.in-Some.is)

pub returns-in-Some-clause-after : goal.returns-in-Some-clause-after
returns-in-Some-clause-after c =
    let box : Ranges = c.args.self.now.walk.costed.box in
    let boxes : List Ranges = waiting box c.args.self.now.walk.frames in
    let kept : ℤ → State → Type 0 = λ bound state.
    AfterNode c.args.net.now bound box boxes c.args.self.now.line (Some (node_with c.in-Some.mark c.read_node.new.pairs.items)) (standing_at state (boxes_of c.after_mark.new.self.walk)) in
    IfOk-weaker c.after_mark.result (kept c.args.bound)
    (λ state. AfterNode c.args.net.now c.args.bound box boxes c.args.self.now.line (node_in c.args.line.now) (standing_at state (boxes_of c.after_mark.new.self.walk)))
    (λ state. after_read c.args.net.now c.args.bound box boxes c.args.self.now.line c.args.line.now c.most_pairs-most.result c.in-Some.mark c.read_node.new.pairs.items
    (standing_at state (boxes_of c.after_mark.new.self.walk))
    (c.most_pairs-most.ensures ∙ ap (λ (program : Parts). length program.rows + 1) c.requires.program)
    (c.in_ok-mark.ensures.node ∙ ap (λ (mark : Option Mark). marked mark c.read_node.new.pairs.items) c.in-Some.is))
    (subst (λ (bound : ℤ). IfOk c.after_mark.result (kept bound)) (to_z-of_z w64 c.args.bound c.ranges.bound) c.after_mark.ensures.after)
