use Rattle.std.proofs.lemmas.Result.{err_from_is_err_and}
use Rattle.shelf_io.proofs.Growing.{stops_in_text, taken_further}
use Rattle.std.proofs.Common.{arith}
use Rattle.shelf_io.proofs.whole_text.put_all.Goals as goal

pub returns-in_err-put-clause-err : goal.returns-in_err-put-clause-err
returns-in_err-put-clause-err g c =
    let p = err_from_is_err_and c.from_residual.result c.from_residual.ensures.1 in
    rw p.1 (stops_in_text _ _ _ _ c.loop-put.put c.loop-put.invariant.taken c.in_err-put.ensures.err)

pub loop-put-preserved : goal.loop-put-preserved
loop-put-preserved g c = record {
  within = omega (arith, c.in_ok-put.ensures.count.most);
  taken = taken_further _ _ _ _ c.loop-put.put c.in_ok-put.field-0 c.loop-put.invariant.taken c.in_ok-put.ensures.ok;
}
