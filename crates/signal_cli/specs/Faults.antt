-- The faults of a network, of a plan, of a network's size and of a search as those of the program, the status of a reply, and the status and the line of each fault (README.md, "Statuses").
use Rattle.std.specs.Prelude.{ℕ, if◌then◌else◌, List, [], ◌∷◌, ◌++◌, Result, Ok, Err, codes}
use Rattle.std.specs.Fmt.{decimal}
use Rattle.cell_build.specs.declared.network_fault.NetworkFault.{NetworkFault}
use Rattle.cell_build.specs.declared.network_fault.NetworkFault.TheVariants as unspelled
use Rattle.plan_file.specs.declared.fault.PlanFault.{PlanFault}
use Rattle.plan_file.specs.declared.fault.PlanFault.TheVariants as unplanned
use Rattle.lo_program.specs.declared.fault.CompileFault.{CompileFault}
use Rattle.lo_program.specs.declared.fault.CompileFault.TheVariants as uncompiled
use Rattle.solve_core.specs.declared.fault.SolveFault.{SolveFault}
use Rattle.solve_core.specs.declared.fault.SolveFault.TheVariants as unsolved
use Rattle.fault_words.specs.Words.{network_text, plan_text}
use Rattle.signal_cli.specs.declared.fault.Fault.{Fault}
use Rattle.signal_cli.specs.declared.fault.Fault.TheVariants.{NetworkLong, Network, PlanLong, Plan, TooLarge, Read, Memory}
use Rattle.signal_cli.specs.declared.reply.Reply.{Reply}

-- a fault of a network as one of the program
abbrev pub unspelled_of : NetworkFault → Fault
unspelled_of unspelled.Memory = Memory
unspelled_of fault = Network fault

-- a fault of a plan as one of the program
abbrev pub unplanned_of : PlanFault → Fault
unplanned_of unplanned.Memory = Memory
unplanned_of fault = Plan fault

-- why a network has no program in whole numbers, as a fault of the planner
abbrev pub uncompiled_of : CompileFault → Fault
uncompiled_of (uncompiled.TooLarge rows) = TooLarge rows
uncompiled_of uncompiled.Memory = Memory

-- why there is no search, as a fault of the planner: a budget that is too great for the rows of a program is told by their number too
abbrev pub unsolved_of : SolveFault → Fault
unsolved_of (unsolved.TooLarge rows) = TooLarge rows
unsolved_of (unsolved.Budget rows) = TooLarge rows
unsolved_of unsolved.Memory = Memory

-- 0, or 1 where a file is not accepted
abbrev pub reply_status : Reply → ℕ
reply_status reply = if reply.rejected then 1 else 0

-- the status of a fault
abbrev pub status_of : Fault → ℕ
status_of NetworkLong = 3
status_of (Network fault) = 3
status_of PlanLong = 4
status_of (Plan fault) = 4
status_of (TooLarge rows) = 5
status_of Read = 6
status_of Memory = 8

-- the status of what a command deserves
abbrev pub outcome_status : Result Reply Fault → ℕ
outcome_status (Ok reply) = reply_status reply
outcome_status (Err fault) = status_of fault

-- a text as a line
abbrev pub line : List ℕ → List ℕ
line text = text ++ 10 ∷ []

-- the line of a fault
unfoldable pub line_of : Fault → List ℕ
line_of NetworkLong = line (codes "network long")
line_of (Network fault) = line (codes "network " ++ network_text fault)
line_of PlanLong = line (codes "plan long")
line_of (Plan fault) = line (codes "plan " ++ plan_text fault)
line_of (TooLarge rows) = line (codes "too large " ++ decimal rows)
line_of Read = line (codes "read fault")
line_of Memory = line (codes "want of memory")
