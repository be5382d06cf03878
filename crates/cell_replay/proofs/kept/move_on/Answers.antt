use Rattle.std.proofs.Common.{◌+◌, ◌*◌, ◌≤◌, List, ℕ, length, sym, subst, arith}
use Rattle.std.proofs.Math.Nat.{mul-le-mul_right}
use Rattle.traffic_model.specs.Occupancy.{AreHeld}
use Rattle.cell_replay.proofs.Keeping.{copied, copied_before, room_behind, units_at-front}
use Rattle.cell_replay.proofs.kept.move_on.Goals as goal

pub advance-requires-clause-held : goal.advance-requires-clause-held
advance-requires-clause-held c =
    let cells : ℕ = c.len-cells.result in
    let within : c.args.step * cells + cells + cells ≤ length c.args.units.now =
    rw c.len-cells.ensures (room_behind (length c.args.net.now.cells) c.args.step c.args.net.now.steps c.args.units.now c.requires.long c.requires.in_time) in
    subst (λ (units : List ℕ). AreHeld c.args.net.now.cells c.args.step units)
    (sym (copied cells (c.args.step * cells) c.args.units.now c.copy_within.new.self within c.copy_within.ensures.after))
    (rw (sym c.len-cells.ensures) at c.requires.held)

pub returns-clause-before : goal.returns-clause-before
returns-clause-before c = λ t before.
    let cells : ℕ = c.len-cells.result in
    let within : c.args.step * cells + cells + cells ≤ length c.args.units.now =
    rw c.len-cells.ensures (room_behind (length c.args.net.now.cells) c.args.step c.args.net.now.steps c.args.units.now c.requires.long c.requires.in_time) in
    let earlier : t * cells + cells ≤ c.args.step * cells + cells = omega (arith, mul-le-mul_right cells before) in
    rw (sym c.len-cells.ensures)
    (units_at-front cells t (c.args.step * cells + cells) _ c.args.units.now earlier
    (copied_before cells (c.args.step * cells) _ c.args.units.now c.copy_within.new.self c.advance.new.units within c.copy_within.ensures.len c.copy_within.ensures.after))
