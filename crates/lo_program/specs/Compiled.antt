-- The program that a network deserves (docs/program.md, "Limits"): all its columns and rows, unless there are too many rows.
use Rattle.std.specs.Prelude.{nat_lt, List, length, Result}
use Rattle.refusals.specs.Faults.{unless, where_so}
use Rattle.ct_base.specs.declared.net.Net.{Net}
use Rattle.sparse_program.specs.Program.{Parts}
use Rattle.sparse_program.specs.declared.limits.TheConstants.{MAX_ROWS}
use Rattle.program_model.specs.Points.{program_of, rows}
use Rattle.lo_program.specs.declared.fault.CompileFault.{CompileFault}
use Rattle.lo_program.specs.declared.fault.CompileFault.TheVariants.{TooLarge}

-- the fault of a network whose program has more rows than a program holds
unfoldable pub size_faults : Net → List CompileFault
size_faults net = where_so (nat_lt MAX_ROWS (length (rows net))) (TooLarge (length (rows net)))

-- the program of a network, or that it is too large
abbrev pub compiled : Net → Result Parts CompileFault
compiled net = unless (size_faults net) (program_of net)
