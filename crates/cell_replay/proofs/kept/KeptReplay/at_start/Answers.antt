use Rattle.std.proofs.Common.{◌≡◌, ◌+◌, ◌*◌, ◌∙◌, length, rules, arith}
use Rattle.traffic_model.specs.Occupancy.{initial_units}
use Rattle.traffic_model.proofs.TrafficLaws.{length-initial_units}
use Rattle.cell_replay.proofs.Keeping.{keeps_at_start, units_at-zero}
use Rattle.cell_replay.proofs.kept.KeptReplay.at_start.Goals as goal

pub returns : goal.returns
returns c = λ plan.
    let cells = length c.args.net.now.cells in
    let first : c.in_ok-units.units.items ≡ initial_units c.args.net.now.cells = search rules in
    keeps_at_start c.args.net.now plan _
    (record { units = search rules; delays = search rules; outflows = search rules; letters = search rules })
    (units_at-zero cells ((c.args.net.now.steps + 1) * c.len-cells.result) c.in_ok-units.units.items _ c.resize.new.self.items
    (rw first (length-initial_units c.args.net.now.cells)) (omega (arith, c.len-cells.ensures)) c.in_ok-resize.ensures.items
    ∙ first)
    (search rules)
