use Rattle.std.proofs.lemmas.Result.{err_from_is_err_and}
use Rattle.shelf_io.proofs.Growing.{file_is_there, stops_in_file, written_further}
use Rattle.std.proofs.Common.{arith}
use Rattle.shelf_io.proofs.whole_write.write_all.Goals as goal

pub append-requires : goal.append-requires
append-requires g c = file_is_there _ _ _ _ c.loop-written.invariant.holds

pub returns-in_err-written-clause-err : goal.returns-in_err-written-clause-err
returns-in_err-written-clause-err g c =
    let p = err_from_is_err_and c.from_residual-in_err-written.result c.from_residual-in_err-written.ensures.1 in
    rw p.1 (stops_in_file _ _ _ _ _ c.loop-written.written c.loop-written.invariant.holds c.in_err-written.ensures.err)

pub loop-written-preserved : goal.loop-written-preserved
loop-written-preserved g c = record {
  within = omega (arith, c.in_ok-written.ensures.count.most);
  holds = written_further _ _ _ _ _ c.loop-written.written c.in_ok-written.field-0 c.loop-written.invariant.holds c.in_ok-written.ensures.ok;
}
