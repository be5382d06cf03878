use Rattle.std.proofs.lemmas.Result.{err_from_is_err_and}
use Rattle.std.proofs.Common.{arith}
use Rattle.signal_cli.proofs.FileLists.{one_more_stands, stops_here}
use Rattle.signal_cli.proofs.output.write_files.Goals as goal

pub returns-in_err-write_all-clause-err : goal.returns-in_err-write_all-clause-err
returns-in_err-write_all-clause-err g c =
    let p = err_from_is_err_and c.from_residual.result c.from_residual.ensures.1 in
    rw p.1 (stops_here _ _ _ _ c.loop-file.file-index c.file-item.result (omega arith) c.file-item.is c.loop-file.invariant (rw (c.as_str.ensures, c.as_slice.ensures) at c.in_err-write_all.ensures.err))

pub loop-file-preserved : goal.loop-file-preserved
loop-file-preserved g c =
    one_more_stands _ _ _ _ c.loop-file.file-index c.file-item.result (omega arith) c.file-item.is c.loop-file.invariant (rw (c.as_str.ensures, c.as_slice.ensures) at c.in_ok-write_all.ensures.ok)
