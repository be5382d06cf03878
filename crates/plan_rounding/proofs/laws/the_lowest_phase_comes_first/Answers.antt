use Rattle.std.specs.Int.{w8}
use Rattle.std.proofs.lemmas.Nat.Bits.{bit_at-trailing_zeros}
use Rattle.plan_rounding.proofs.laws.the_lowest_phase_comes_first.Goals as goal

pub returns : goal.returns
returns c = λ phases some byte. (let all = bit_at-trailing_zeros w8 phases some byte in record { in_set = all.1; first = all.2 })
