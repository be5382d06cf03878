-- The network that the bytes of a file spell, or the first fault (docs/network-file.md, "Refusals").
use Rattle.std.specs.Prelude.{ℕ, List, Result, Ok, Err}
use Rattle.named_net.specs.Naming.{Named}
use Rattle.network_file.specs.Spelled.{raw_network}
use Rattle.network_file.specs.declared.fault.NetFault.{NetFault}
use Rattle.network_file.specs.declared.fault.NetFault.TheVariants as unread
use Rattle.network_file.specs.declared.raw.RawNet.{RawNet}
use Rattle.cell_build.specs.Built.{built}
use Rattle.cell_build.specs.declared.fault.BuildFault.{BuildFault}
use Rattle.cell_build.specs.declared.fault.BuildFault.TheVariants as unbuilt
use Rattle.cell_build.specs.declared.network_fault.NetworkFault.{NetworkFault}
use Rattle.cell_build.specs.declared.network_fault.NetworkFault.TheVariants.{File, Build, Memory}

-- what became of links and signals, as what became of the bytes that spell them
abbrev pub built_as : Result Named BuildFault → Result Named NetworkFault
built_as (Ok named) = Ok named
built_as (Err fault) = Err (Build fault)

-- what links and signals become, or the fault of the file that should spell them
abbrev pub spelled_as : Result RawNet NetFault → Result Named NetworkFault
spelled_as (Ok raw) = built_as (built raw)
spelled_as (Err fault) = Err (File fault)

-- the network that bytes spell, or the first fault: of the file, or else of its links and signals
unfoldable pub spelled_network : List ℕ → Result Named NetworkFault
spelled_network bytes = spelled_as (raw_network bytes)

-- a fault of the file as one of the bytes; want of memory is no fault of theirs
abbrev pub unread_of : NetFault → NetworkFault
unread_of unread.Memory = Memory
unread_of fault = File fault

-- a fault of links and signals as one of the bytes; want of memory is no fault of theirs
abbrev pub unbuilt_of : BuildFault → NetworkFault
unbuilt_of unbuilt.Memory = Memory
unbuilt_of fault = Build fault
