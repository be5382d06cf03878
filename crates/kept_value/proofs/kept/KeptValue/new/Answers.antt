use Rattle.std.proofs.Common.{◌<◌, length, arith}
use Rattle.std.proofs.lemmas.Int.{ints}
use Rattle.kept_value.proofs.KeptLaws.{reduced_cost-small}
use Rattle.kept_value.proofs.kept.KeptValue.new.Goals as goal

pub invariant_of-result : goal.invariant_of-result
invariant_of-result c =
    let lawful = rw (← c.as_slice-2.ensures.value) at c.requires.lawful in
    record {
      costs = record {
        each = λ j below.
            let within : j < length c.args.program.now.columns = omega (arith, below, c.in_ok-reduced.ensures.long) in
            omega (arith, ints, c.in_ok-reduced.ensures.each j within, reduced_cost-small c.args.program.now c.as_slice-2.result.now j c.is_program.ensures lawful within);
      };
      small = omega (arith, ints, c.value-value.ensures.small);
    }
