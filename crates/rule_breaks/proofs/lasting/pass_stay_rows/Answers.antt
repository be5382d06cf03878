use Rattle.std.proofs.Common.{◌≡◌, ◌≤◌, ◌+◌, ◌-◌, ◌^◌, ap, ◌∙◌, sym, subst, rules, arith}
use Rattle.std.specs.Prelude.{Err, Ok, min}
use Rattle.listed.specs.Below.{join_below}
use Rattle.listed.proofs.JoinLaws.{join_below-zero}
use Rattle.rule_breaks.specs.Breaks.{value_in}
use Rattle.rule_breaks.specs.inner.Walk.{walk}
use Rattle.rule_breaks.proofs.StayRows.{rows_of_stay, stays_are, walk_stays}
use Rattle.rule_breaks.proofs.WalkLaws.{walk_more, walk_small, walk_stops}
use Rattle.rule_breaks.proofs.lasting.pass_stay_rows.Goals as goal

pub loop-j-init : goal.loop-j-init
loop-j-init c =
    ap (walk (value_in c.args.net.now c.args.bits.now) c.args.part.now.steps c.args.number) (join_below-zero (rows_of_stay c.args.part.now.signal c.args.t c.args.letter))

pub loop-j-preserved : goal.loop-j-preserved
loop-j-preserved c =
    walk_more (value_in c.args.net.now c.args.bits.now) c.args.part.now.steps c.args.number c.loop-j.next c.in_ok-next.next c.loop-j.j (rows_of_stay c.args.part.now.signal c.args.t c.args.letter)
    c.loop-j.invariant (sym c.in_ok-next.ensures)

-- the rows by how many there are
pub returns-in_err-next : goal.returns-in_err-next
returns-in_err-next c =
    let value = value_in c.args.net.now c.args.bits.now in
    let part = c.args.part.now in
    let rows = rows_of_stay part.signal c.args.t c.args.letter in
    let handed_on : c.from_residual.result ≡ Err c.in_err-next.field-0.0 = search rules in
    let count : c.min-rows.result ≡ min (c.args.least - 1) (c.args.net.now.steps - (c.args.t + 1)) = rw (← c.saturating_sub.ensures) c.min-rows.ensures in
    handed_on
    ∙ sym (ap (walk value part.steps c.args.number) (stays_are c.args.net.now.steps part.signal c.args.t c.args.least c.args.letter)
    ∙ ap (λ n. walk value part.steps c.args.number (join_below n rows)) (sym count)
    ∙ walk_stops value part.steps c.args.number c.loop-j.next c.min-rows.result c.loop-j.j rows c.in_err-next.field-0.0
    (omega (arith, c.loop-j-test.true, c.min-within.ensures)) c.loop-j.invariant (sym c.in_err-next.ensures))

pub returns : goal.returns
returns c =
    let value = value_in c.args.net.now c.args.bits.now in
    let part = c.args.part.now in
    let rows = rows_of_stay part.signal c.args.t c.args.letter in
    let count : c.min-rows.result ≡ min (c.args.least - 1) (c.args.net.now.steps - (c.args.t + 1)) = rw (← c.saturating_sub.ensures) c.min-rows.ensures in
    let within : c.min-within.result ≡ min c.min-rows.result (part.steps - (c.args.t + 1)) = rw (← c.saturating_sub-2.ensures) c.min-within.ensures in
    let all : c.loop-j.j ≡ c.min-within.result = omega (arith, c.loop-j-test.false, c.loop-j.auto.j-end) in
    let passed : walk value part.steps c.args.number (join_below c.min-within.result rows) ≡ Ok c.loop-j.next =
    subst (λ n. walk value part.steps c.args.number (join_below n rows) ≡ Ok c.loop-j.next) all c.loop-j.invariant in
    let small : c.loop-j.next ≤ 2 ^ 32 - 1 =
    walk_small value part.steps c.args.number c.loop-j.next (join_below c.min-within.result rows) (omega (arith, c.ranges.number.fits)) passed in
    ap (λ n. Ok n) c.saturating_add.ensures
    ∙ sym (ap (walk value part.steps c.args.number) (stays_are c.args.net.now.steps part.signal c.args.t c.args.least c.args.letter)
    ∙ ap (λ n. walk value part.steps c.args.number (join_below n rows)) (sym count)
    ∙ walk_stays value part.steps c.args.number c.loop-j.next c.min-within.result c.min-rows.result part.signal c.args.t c.args.letter within small passed)
