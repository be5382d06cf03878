use Rattle.std.proofs.Common.{arith}
use Rattle.program_layout.proofs.CountLaws.{small_bits}
use Rattle.program_model.specs.Columns.{Flow}
use Rattle.program_model.proofs.NumberLaws.{bit_stands}
use Rattle.rule_breaks.proofs.part.bit.Goals as goal

pub overflow_add-first : goal.overflow_add-first
overflow_add-first c =
    rw (c.requires.part.width, c.requires.part.first)
    (omega (arith, small_bits c.args.net.now c.args.t c.args.part.now.signal c.requires.part.values.valid c.requires.column.0 c.requires.column.1))

pub overflow_add-first-2 : goal.overflow_add-first-2
overflow_add-first-2 c =
    rw (c.requires.part.width, c.requires.part.first)
    (omega (arith, c.place_of_letter.ensures.few, small_bits c.args.net.now c.args.t c.args.part.now.signal c.requires.part.values.valid c.requires.column.0 c.requires.column.1))

pub bit_at-requires-clause-inside : goal.bit_at-requires-clause-inside
bit_at-requires-clause-inside c =
    let place = rw c.signal.ensures.value at c.place_of_letter.ensures.value in
    rw (c.requires.part.width, c.requires.part.first, place, c.requires.part.values.columns)
    (bit_stands c.args.net.now c.args.t c.args.part.now.signal c.args.letter (Flow 0 0) c.requires.column.0 c.requires.column.1 c.requires.column.2).0
