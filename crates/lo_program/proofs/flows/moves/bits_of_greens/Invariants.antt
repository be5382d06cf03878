use Rattle.std.proofs.Common.{◌≡◌, map, take, filter}
use Rattle.ct_base.specs.declared.plan.Letter.{Letter}
use Rattle.traffic_model.specs.Flow.{is_green_among}
use Rattle.program_model.specs.Columns.{Bit}
use Rattle.program_model.specs.Numbers.{number_of}
use Rattle.lo_program.proofs.flows.moves.bits_of_greens.Given as goal

-- the bits of the greens among the letters that were passed
abbrev pub invariant-loop-letter : goal.invariant-loop-letter
invariant-loop-letter l = l.found ≡ map (λ (letter : Letter). number_of l.net (Bit l.t l.bits.signal letter)) (filter (is_green_among l.greens) (take l.letter-index l.bits.letters))
