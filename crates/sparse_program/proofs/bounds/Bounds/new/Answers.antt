use Rattle.sparse_program.proofs.BuildLaws.{IsBox-ranges_of}
use Rattle.sparse_program.proofs.bounds.Bounds.new.Goals as goal

pub invariant_of-result : goal.invariant_of-result
invariant_of-result c = rw (c.in_ok-lows.ensures, c.in_ok-highs.ensures, c.columns.ensures, c.columns-2.ensures) (IsBox-ranges_of _ c.is_program.ensures.built.few_columns c.is_program.ensures.built.each_column)
