use Rattle.std.proofs.Common.{◌≡◌, ◌+◌, length, ap, ◌∙◌, subst, arith, rules}
use Rattle.std.proofs.lemmas.Grind.{common_steps}
use Rattle.traffic_model.specs.Delay.{letters_at}
use Rattle.cell_replay.specs.Keeps.{HasRoom, Kept, KeepsTo}
use Rattle.cell_replay.proofs.Keeping.{delay_more-small, held_at, keeps_more}
use Rattle.cell_replay.proofs.kept.KeptReplay.step.Goals as goal

pub move_on-delay-requires-clause-held : goal.move_on-delay-requires-clause-held
move_on-delay-requires-clause-held c =
    let held = held_at c.args.net.now c.args.plan.now c.args.step c.args.self.now c.requires.valid c.requires.kept in
    search (rules, held)

pub add_up-requires-clause-small : goal.add_up-requires-clause-small
add_up-requires-clause-small c =
    let shows : c.show.new.letters ≡ letters_at c.args.plan.now.words c.args.step = c.show.ensures ∙ ap (λ words. letters_at words c.args.step) c.as_slice.ensures in
    let units : c.as_mut_slice.result.now ≡ c.args.self.now.units = search rules in
    let delays : c.as_mut_slice-2.result.now ≡ c.args.self.now.delays = search rules in
    rw delays
    (delay_more-small c.args.net.now c.args.plan.now c.args.step c.move_on-delay.result c.show.new.letters c.args.self.now c.requires.valid
    c.requires.before_the_end c.requires.kept shows (rw units at c.move_on-delay.ensures.delay))

pub returns : goal.returns
returns c =
    let shows : c.show.new.letters ≡ letters_at c.args.plan.now.words c.args.step = c.show.ensures ∙ ap (λ words. letters_at words c.args.step) c.as_slice.ensures in
    let units : c.as_mut_slice.result.now ≡ c.args.self.now.units = search rules in
    let delays : c.as_mut_slice-2.result.now ≡ c.args.self.now.delays = search rules in
    let after : Kept = record { units = c.move_on-delay.new.units; delays = c.add_up.new.delays; outflows = c.move_on-delay.new.outflows; letters = c.show.new.letters } in
    let room : HasRoom c.args.net.now after = record {
      units = c.move_on-delay.auto.units ∙ ap length units ∙ c.requires.kept.room.units;
      delays = c.add_up.auto.delays ∙ ap length delays ∙ c.requires.kept.room.delays;
      outflows = c.move_on-delay.auto.outflows ∙ search rules;
      letters = c.show.auto.letters ∙ search rules;
    } in
    let keeps : KeepsTo c.args.net.now c.args.plan.now (c.args.step + 1) after =
    keeps_more c.args.net.now c.args.plan.now c.args.step c.move_on-delay.result c.show.new.letters c.args.self.now after c.requires.kept room shows
    (rw units at c.move_on-delay.ensures.next) (rw units at c.move_on-delay.ensures.before) (rw units at c.move_on-delay.ensures.delay)
    (rw delays at c.add_up.ensures.next) (rw delays at c.add_up.ensures.before) in
    subst (λ (kept : Kept). KeepsTo c.args.net.now c.args.plan.now (c.args.step + 1) kept) (grind (arith, common_steps)) keeps
