use Rattle.std.proofs.Common.{◌≡◌, ◌+◌, ◌++◌, List, ap, ◌∙◌}
use Rattle.std.specs.Prelude.{pos, length}
use Rattle.ct_base.specs.declared.plan.Letter.{Letter}
use Rattle.listed.specs.Below.{join_below}
use Rattle.listed.proofs.JoinLaws.{join_below-zero}
use Rattle.cell_replay.proofs.Adding.{begins, goes_on, long_enough}
use Rattle.cell_replay.proofs.Steps.{fits}
use Rattle.program_model.specs.Columns.{Column, columns_of_cells}
use Rattle.program_model.specs.Values.{value_of}
use Rattle.traffic_model.specs.Delay.{letters_at}
use Rattle.plan_point.specs.inner.Points.{cell_counts, counts}
use Rattle.plan_point.proofs.EncodingLaws.{cells_count, map-join_below-suc, none_added, part_added}
use Rattle.plan_point.proofs.encoding.cells.push_steps.Goals as goal

pub loop-step-init : goal.loop-step-init
loop-step-init c =
    record {
      run = begins c.args.net.now (letters_at c.args.plan.now.words) c.in_ok-replay.replay c.in_ok-replay.ensures.stands c.in_ok-replay.ensures.value;
      values =
          none_added c.args.values.now.items (counts c.args.net.now c.args.plan.now.words (join_below 0 (columns_of_cells c.args.net.now.cells)))
          (ap (counts c.args.net.now c.args.plan.now.words) (join_below-zero (columns_of_cells c.args.net.now.cells)));
      letters = c.in_ok-letters.ensures.len ∙ c.len.ensures;
    }

pub show-requires-clause-shown : goal.show-requires-clause-shown
show-requires-clause-shown c = rw c.as_slice.ensures (long_enough c.args.net.now c.args.plan.now c.loop-step.step c.requires.words c.loop-step-test.true)

pub push_cells-requires-clause-fit : goal.push_cells-requires-clause-fit
push_cells-requires-clause-fit c =
    rw c.units.ensures
    (fits c.args.net.now c.loop-step.replay.step c.loop-step.replay.units c.requires.valid c.loop-step.invariant.run.stands.in_time c.loop-step.invariant.run.stands.held)

pub loop-step-preserved : goal.loop-step-preserved
loop-step-preserved c =
    let net = c.args.net.now in
    let words = c.args.plan.now.words in
    let t = c.loop-step.step in
    let shows : c.show.new.letters ≡ letters_at words t = c.show.ensures ∙ ap (λ (list : List (List Letter)). letters_at list t) c.as_slice.ensures in
    let holds : c.units.result.now ≡ c.loop-step.replay.units = c.units.ensures in
    let part : join_below (length net.cells) (cell_counts net.cells c.show.new.letters c.units.result.now) ≡ counts net words (columns_of_cells net.cells t) =
    cells_count net words t c.show.new.letters c.units.result.now shows (holds ∙ c.loop-step.invariant.run.units) in
    record {
      run = goes_on net (letters_at words) t c.loop-step.replay c.step-delay.new.self c.show.new.letters c.loop-step.invariant.run shows c.step-delay.ensures.moves c.step-delay.ensures.stands;
      values =
          part_added c.args.values.now.items (counts net words (join_below t (columns_of_cells net.cells))) (counts net words (columns_of_cells net.cells t))
          c.loop-step.values.items c.push_cells.new.values.items (counts net words (join_below (t + 1) (columns_of_cells net.cells)))
          c.loop-step.invariant.values (c.in_ok-push_cells.ensures ∙ ap (λ list. c.loop-step.values.items ++ list) part)
          (map-join_below-suc (λ (column : Column). pos (value_of net words column)) t (columns_of_cells net.cells));
      letters = c.loop-step.invariant.letters;
    }
