use Rattle.std.proofs.Common.{◌∷◌, [], ◌++◌, rules, ◌∙◌, ap, sym, take, arith}
use Rattle.std.specs.Prelude.{ℤ, pos}
use Rattle.std.specs.Int.{w64}
use Rattle.std.proofs.lemmas.Int.{to_z-of_z}
use Rattle.std.proofs.lemmas.List.{take_more}
use mir.Val.{SFits}
use Rattle.solve_core.proofs.decided.bits_of_box.Goals as goal

pub loop-column-preserved : goal.loop-column-preserved
loop-column-preserved c =
    let fits : SFits w64 c.low.result = search rules in
    (simp to_z-of_z at c.in_ok-push.ensures.items)
    ∙ ap (λ bits. bits ++ c.low.result ∷ []) c.loop-column.invariant
    ∙ ap (λ (bit : ℤ). take c.loop-column.column c.args.costed.now.box.lows ++ bit ∷ []) c.low.ensures.value
    ∙ sym (take_more c.args.costed.now.box.lows c.loop-column.column (pos 0) (omega (arith, c.requires, c.loop-column-test.true)))
