use Rattle.std.proofs.Common.{◌<◌, ◌≤◌, length, arith}
use Rattle.sparse_program.specs.declared.limits.TheConstants.{MAX_ROWS}
use Rattle.program_model.specs.Points.{rows}
use Rattle.lo_program.proofs.SizeFaults.{no_size_fault, size_fault}
use Rattle.lo_program.proofs.program.judge_size.Goals as goal

pub returns-then-rows : goal.returns-then-rows
returns-then-rows c =
    let many : MAX_ROWS < length (rows c.args.net.now) = omega (arith, c.row_count-rows.ensures.value, c.if-rows.true) in
    rw (size_fault c.args.net.now many, c.row_count-rows.ensures.value)

pub returns : goal.returns
returns c =
    let few : length (rows c.args.net.now) ≤ MAX_ROWS = omega (arith, c.row_count-rows.ensures.value, c.if-rows.false) in
    rw (no_size_fault c.args.net.now few)
