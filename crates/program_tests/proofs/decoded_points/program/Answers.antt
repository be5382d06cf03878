use Rattle.std.proofs.Common.{◌≡◌, Result, Ok, Err, IfOk}
use Rattle.refusals.specs.Memory.{OrMemory}
use Rattle.refusals.proofs.Memory.{made_without_fault}
use Rattle.ct_base.specs.declared.net.Net.{Net}
use Rattle.sparse_program.specs.Program.{Parts}
use Rattle.program_model.specs.Points.{program_of}
use Rattle.lo_program.specs.Compiled.{compiled, size_faults}
use Rattle.lo_program.specs.declared.fault.CompileFault.{CompileFault}
use Rattle.lo_program.specs.declared.fault.CompileFault.TheVariants.{Memory as WantOfMemory}
use Rattle.program_tests.proofs.decoded_points.program.Goals as goal

-- what is compiled is the program of the network
made_is : (net : Net) (result : Result Parts CompileFault) → OrMemory WantOfMemory (compiled net) result → IfOk result (λ program. program ≡ program_of net)
made_is net (Ok program) made = (made_without_fault WantOfMemory (size_faults net) (program_of net) program made).1
made_is net (Err fault) made = tt

pub returns : goal.returns
returns c = made_is c.args.net.now c.compile.result c.compile.ensures.value
