use Rattle.std.proofs.Common.{◌∷◌, [], ◌++◌, rules, ◌∙◌, ap}
use Rattle.std.specs.Int.{w64}
use Rattle.std.proofs.lemmas.Int.{to_z-of_z}
use mir.Val.{SFits}
use Rattle.solve_core.proofs.BrokenRules.{break_shows_empty}
use Rattle.solve_core.proofs.decided.broken_pairs.Goals as goal

pub returns : goal.returns
returns c =
    let fits : SFits w64 c.broken_rule-found.result.price = search rules in
    break_shows_empty c.args.net.now c.args.bits.now c.broken_rule-found.result c.push.new.self c.requires.valid c.broken_rule-found.ensures
    ((simp to_z-of_z at c.in_ok-push.ensures.ok) ∙ ap (λ pairs. pairs ++ (c.broken_rule-found.result.row, c.broken_rule-found.result.price) ∷ []) c.new-pairs.ensures)
