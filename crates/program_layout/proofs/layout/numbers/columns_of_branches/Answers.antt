use Rattle.std.proofs.Common.{sym, arith}
use Rattle.std.specs.Prelude.{nat_lt, if◌then◌else◌, slice_index_or}
use Rattle.listed.proofs.SumLaws.{sum_below-suc, sum_below-zero}
use Rattle.program_layout.proofs.layout.numbers.columns_of_branches.Goals as goal

pub loop-j-init : goal.loop-j-init
loop-j-init c = record {
  value = sym (sum_below-zero (λ j. if nat_lt 1 (slice_index_or c.args.branches.now j (0, 0)).1 then 2 else 0));
  few = omega arith;
}

pub loop-j-preserved : goal.loop-j-preserved
loop-j-preserved c = record {
  value = omega (arith, c.loop-j.invariant.value, c.columns_of_branch-columns.ensures.value, sum_below-suc c.loop-j.j (λ j. if nat_lt 1 (slice_index_or c.args.branches.now j (0, 0)).1 then 2 else 0));
  few = omega (arith, c.loop-j.invariant.few, c.columns_of_branch-columns.ensures.few);
}
