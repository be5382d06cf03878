use Rattle.std.proofs.Common.{◌∙◌, ap, subst, List, ℕ}
use Rattle.certificate_model.specs.Verdicts.{IsVerdict, verdict_at}
use Rattle.certificate_model.specs.declared.verdict.Verdict.{Verdict}
use Rattle.cert_check.specs.inner.Standings.{standing_of}
use Rattle.cert_check.proofs.WalkedLaws.{verdict_of_walked}
use Rattle.cert_check.proofs.pieces.Checker.finish.Goals as goal

pub returns-clause-value : goal.returns-clause-value
returns-clause-value c = λ net text stands.
    verdict_of_walked net c.args.self.lines c.args.self.unfinished text c.finish.result stands.walked
    (c.finish.ensures ∙ ap (λ (behind : List ℕ). verdict_at (standing_of c.args.self.lines) c.args.self.lines.line behind) c.as_slice.ensures.bytes)

pub returns-clause-safe : goal.returns-clause-safe
returns-clause-safe c = λ net text bound plan valid stands is admissible.
    let deserved : IsVerdict net text c.finish.result =
    verdict_of_walked net c.args.self.lines c.args.self.unfinished text c.finish.result stands.walked
    (c.finish.ensures ∙ ap (λ (behind : List ℕ). verdict_at (standing_of c.args.self.lines) c.args.self.lines.line behind) c.as_slice.ensures.bytes) in
    c.accepted_bounds_are_safe.ensures net text bound plan valid (subst (λ (verdict : Verdict). IsVerdict net text verdict) is deserved) admissible
