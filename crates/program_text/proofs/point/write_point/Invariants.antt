-- The first line and the values so far are written.
use Rattle.std.proofs.Common.{◌≡◌, [], ◌∷◌, ◌++◌, take}
use Rattle.std.specs.Prelude.{ℤ, codes, flat_map}
use Rattle.std.specs.Fmt.{signed_decimal}
use Rattle.program_text.proofs.point.write_point.Given as goal

abbrev pub invariant-loop-value : goal.invariant-loop-value
invariant-loop-value l = l.text.items ≡ codes "ctm-point 1\n" ++ flat_map (λ (value : ℤ). signed_decimal value ++ 10 ∷ []) (take l.value-index l.point)
