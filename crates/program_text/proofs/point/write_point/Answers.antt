-- All values, and the end.
use Rattle.std.proofs.Common.{[], ◌∷◌, ◌++◌, ap, ◌∙◌, arith}
use Rattle.std.specs.Prelude.{ℤ, codes, flat_map}
use Rattle.std.specs.Fmt.{signed_decimal}
use Rattle.std.proofs.lemmas.List.{take_all}
use Rattle.program_text.proofs.TextLaws.{point_is_written}
use Rattle.program_text.proofs.point.write_point.Goals as goal

pub returns : goal.returns
returns c =
    point_is_written c.args.point.now c.loop-value.text.items c.extend_from_slice-2.new.self.items
    (c.loop-value.invariant ∙ ap (λ values. codes "ctm-point 1\n" ++ flat_map (λ (value : ℤ). signed_decimal value ++ 10 ∷ []) values) (take_all c.loop-value.value-index c.args.point.now (omega arith))) c.in_ok-extend_from_slice-2.ensures.items
