-- The delay of a plan is small.
use Rattle.std.proofs.Common.{◌<◌, ◌^◌, arith}
use Rattle.traffic_model.specs.Delay.{delay_of, letters_at}
use Rattle.traffic_model.proofs.DelayLaws.{delay_of-lt}
use Rattle.signal_cli.proofs.commands.gap.reply_of.Goals as goal

pub lines_of-requires-clause-delay : goal.lines_of-requires-clause-delay
lines_of-requires-clause-delay c =
    let net = c.net.result.now in
    let small : delay_of net.cells (letters_at c.args.planned.now.plan.words) net.steps < 2 ^ 49 =
    delay_of-lt net (letters_at c.args.planned.now.plan.words) net.steps c.net.ensures.valid (omega arith) in
    omega (arith, small, c.in_ok-delay-in-Accepted.ensures)
