use Rattle.std.proofs.Common.{rules, ◌∙◌, ap, arith}
use Rattle.std.specs.Int.{w128}
use Rattle.std.specs.Prelude.{pos}
use Rattle.std.proofs.lemmas.Int.{ints, to_z-of_z}
use mir.Val.{SFits}
use Rattle.solve_core.proofs.DecidedLaws.{can_close_fixed}
use Rattle.solve_core.proofs.search.Search.close_fixed.Goals as goal

pub close-requires-clause-can : goal.close-requires-clause-can
close-requires-clause-can c =
    let fits : SFits w128 c.from.result = search rules in
    simp to_z-of_z (can_close_fixed c.args.net.now c.args.budget c.args.self.now c.take.new.self c.args.plan c.from.result c.requires.valid c.requires.open c.requires.fixes
    c.take.ensures.tree c.take.ensures.at (omega (arith, ints, c.take.ensures.no_worse, c.in_ok-found.ensures.no_worse)) (c.from.ensures ∙ ap pos c.in_ok-number.ensures))
