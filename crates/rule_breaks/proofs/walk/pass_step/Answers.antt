use Rattle.std.proofs.Common.{◌≡◌, ℕ, ap, ◌∙◌, sym, rules}
use Rattle.std.specs.Prelude.{Err, Result}
use Rattle.listed.specs.Below.{join_below}
use Rattle.ct_base.specs.Access.{signal_of}
use Rattle.rule_breaks.specs.Breaks.{value_in}
use Rattle.rule_breaks.specs.declared.breaks.RuleBreak.{RuleBreak}
use Rattle.rule_breaks.specs.inner.Kinds.{rows_at}
use Rattle.rule_breaks.specs.inner.Walk.{after, walk}
use Rattle.rule_breaks.proofs.WalkKinds.{walk_step}
use Rattle.rule_breaks.proofs.walk.pass_step.Goals as goal

pub returns-in_err-next : goal.returns-in_err-next
returns-in_err-next c =
    let part = c.args.part.now in
    let signal = signal_of c.args.net.now.signals part.signal in
    let value = value_in c.args.net.now c.args.bits.now in
    let more : ℕ → Result ℕ RuleBreak = λ next. walk value part.steps next (join_below 5 (rows_at signal c.args.net.now.steps part.signal c.args.t)) in
    let handed_on : c.from_residual.result ≡ Err c.in_err-next.field-0.0 = search rules in
    handed_on ∙ sym (walk_step value part.steps c.args.number signal c.args.net.now.steps part.signal c.args.t ∙ ap (λ result. after result more) (sym c.in_err-next.ensures))

pub returns : goal.returns
returns c =
    let part = c.args.part.now in
    let signal = signal_of c.args.net.now.signals part.signal in
    let value = value_in c.args.net.now c.args.bits.now in
    let more : ℕ → Result ℕ RuleBreak = λ next. walk value part.steps next (join_below 5 (rows_at signal c.args.net.now.steps part.signal c.args.t)) in
    c.pass_kinds.ensures ∙ sym (walk_step value part.steps c.args.number signal c.args.net.now.steps part.signal c.args.t ∙ ap (λ result. after result more) (sym c.in_ok-next.ensures))
