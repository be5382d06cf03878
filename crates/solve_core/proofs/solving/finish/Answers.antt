use Rattle.std.proofs.Common.{refl, ◌∙◌, w64}
use Rattle.std.proofs.lemmas.Int.{to_z-of_z}
use Rattle.plan_rounding.specs.Replayed.{delay_in}
use Rattle.solve_core.proofs.SolvedLaws.{best_of, held_least, kept_for, reached_for, searched_as, solved_of, whole_size}
use Rattle.solve_core.proofs.StartLaws.{still_small}
use Rattle.solve_core.proofs.WholeLaws.{delay_is_small}
use Rattle.solve_core.proofs.solving.finish.Goals as goal

-- src/solving.rt
pub returns : goal.returns
returns c =
    let net = c.args.net.now in
    let budget = c.args.budget in
    let last = c.args.search in
    let plan = last.best.plan in
    let found = c.requires.searching.found in
    let cert = c.in_ok-cert.ensures in
    let searched = c.whole_trees_are_searched.ensures net budget last.least last.tree cert.whole plan c.requires.valid c.requires.held c.requires.few found.admissible
    (kept_for net budget _ plan last.least last.tree found.delay_is c.requires.searching.grown)
    (reached_for net budget _ _ plan last.least found.delay_is c.requires.searching.reached) cert.closed in
    let low_delay = still_small _ _ found.delay_is (delay_is_small net plan c.requires.valid) in
    let bound = cert.shows ∙ to_z-of_z w64 c.bound_of-bound.result (record { sfits = c.bound_of-bound.type_inv })
    ∙ c.bound_of-bound.ensures searched.from_zero (held_least last.least last.best.delay (delay_in net plan) found.delay_is searched.to_delay low_delay) in
    let shown = searched_as net budget last.best.delay plan last.least c.in_ok-cert.cert.bound cert.whole found.delay_is bound searched in
    solved_of net budget _ cert.whole c.state_of-state.result refl found cert.nodes shown (c.nodes-nodes.ensures ∙ whole_size last.tree.tree cert.whole cert.closed)
    c.state_of-state.ensures.optimal c.state_of-state.ensures.open
    (λ is other admissible. best_of net c.in_ok-cert.cert.bound last.best.delay plan other found.delay_is is
    (λ reaches. c.plans_that_reach_a_bound_are_best.ensures net c.in_ok-cert.cert.bound cert.whole plan other c.requires.valid shown.certified reaches admissible))
