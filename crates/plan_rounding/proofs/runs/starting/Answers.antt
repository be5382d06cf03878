use Rattle.std.proofs.Common.{◌≡◌, ◌<◌, ◌≤◌, ◌+◌, ◌*◌, ◌%◌, arith, length}
use Rattle.std.specs.Prelude.{◌^◌}
use Rattle.std.proofs.Math.Pow.{shl_exact}
use Rattle.plan_rounding.proofs.NamedLaws.{start_within}
use Rattle.plan_rounding.proofs.runs.starting.Goals as goal

pub returns-clause-phases : goal.returns-clause-phases
returns-clause-phases c =
    let within : 2 ^ c.args.signal.now.start < 2 ^ length c.args.signal.now.phases = start_within c.args.signal.now c.requires in
    let few : 1 + c.args.signal.now.start ≤ 8 = (let inside = c.requires.start in let most = c.requires.phases.1 in omega arith) in
    let whole : 1 * 2 ^ c.args.signal.now.start % 256 ≡ 1 * 2 ^ c.args.signal.now.start = shl_exact {a = 1} 1 c.args.signal.now.start 8 (omega arith) few in
    omega (arith, within, whole)
