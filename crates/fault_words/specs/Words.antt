-- The words of each fault of a network and of a plan, as its line has them (docs/network-file.md and docs/plan-file.md,
-- "Refusals").
use Rattle.std.specs.Prelude.{ℕ, List, ◌++◌, codes}
use Rattle.std.specs.Fmt.{decimal}
use Rattle.demand.specs.declared.fault.DemandFault.{DemandFault}
use Rattle.demand.specs.declared.fault.DemandFault.TheVariants as demand
use Rattle.network_file.specs.declared.fault.At.{At}
use Rattle.network_file.specs.declared.fault.At.TheVariants.{Top, Link, Turn, Piece, Signal, Phase}
use Rattle.network_file.specs.declared.fault.NetFault.{NetFault}
use Rattle.network_file.specs.declared.fault.NetFault.TheVariants as net
use Rattle.cell_build.specs.declared.fault.BuildFault.{BuildFault}
use Rattle.cell_build.specs.declared.fault.BuildFault.TheVariants as build
use Rattle.cell_build.specs.declared.network_fault.NetworkFault.{NetworkFault}
use Rattle.cell_build.specs.declared.network_fault.NetworkFault.TheVariants as network
use Rattle.cell_build.specs.declared.fault.PhaseAt.{PhaseAt}
use Rattle.cell_build.specs.declared.fault.PhaseAt.TheVariants.{Green, Start, Next}
use Rattle.phase_rules.specs.declared.fault.RunFault.{RunFault}
use Rattle.phase_rules.specs.declared.fault.RunFault.TheVariants as run
use Rattle.plan_file.specs.declared.fault.PlanFault.{PlanFault}
use Rattle.plan_file.specs.declared.fault.PlanFault.TheVariants as plan

-- a number behind a space
abbrev pub then_number : ℕ → List ℕ
then_number n = codes " " ++ decimal n

-- two numbers, each behind a space
abbrev pub two_numbers : ℕ → ℕ → List ℕ
two_numbers first second = then_number first ++ then_number second

-- a table of a network file
abbrev pub table_text : At → List ℕ
table_text Top = codes "top"
table_text (Link i) = codes "link" ++ then_number i
table_text (Turn i j) = codes "turn" ++ then_number i ++ then_number j
table_text (Piece i j) = codes "piece" ++ then_number i ++ then_number j
table_text (Signal i) = codes "signal" ++ then_number i
table_text (Phase i j) = codes "phase" ++ then_number i ++ then_number j

-- a fault of the keys of a network file
abbrev pub net_text : NetFault → List ℕ
net_text net.Toml = codes "toml"
net_text net.Format = codes "format"
net_text (net.Key table key) = codes "key " ++ table_text table ++ then_number key
net_text (net.Range table key) = codes "range " ++ table_text table ++ then_number key
net_text (net.Name table) = codes "name " ++ table_text table
net_text net.Memory = codes ""

-- the piece or the step of a fault of demand
abbrev pub demand_place : DemandFault → List ℕ
demand_place (demand.Range piece) = codes " range" ++ then_number piece
demand_place (demand.Heavy step) = codes " heavy" ++ then_number step
demand_place demand.Memory = codes ""

-- a fault of the demand of a link
abbrev pub demand_text : ℕ → DemandFault → List ℕ
demand_text link fault = codes "demand" ++ then_number link ++ demand_place fault

-- a place among the phases that may follow one
abbrev pub next_text : ℕ → ℕ → ℕ → List ℕ
next_text signal phase place = codes "next" ++ two_numbers signal phase ++ then_number place

-- where a phase is named that its signal does not have
abbrev pub phase_text : PhaseAt → List ℕ
phase_text (Green link place) = codes "green" ++ then_number link ++ then_number place
phase_text (Start signal) = codes "start" ++ then_number signal
phase_text (Next signal phase place) = next_text signal phase place

-- a fault of the links and signals of a network
abbrev pub build_text : BuildFault → List ℕ
build_text (build.UnknownLink link place) = codes "unknownlink" ++ then_number link ++ then_number place
build_text (build.UnknownSignal link) = codes "unknownsignal" ++ then_number link
build_text (build.UnknownPhase at) = codes "unknownphase " ++ phase_text at
build_text (build.OutBoth link) = codes "outboth" ++ then_number link
build_text (build.Itself link) = codes "itself" ++ then_number link
build_text (build.TwiceTurn link place) = codes "twiceturn" ++ then_number link ++ then_number place
build_text (build.Fed link) = codes "fed" ++ then_number link
build_text (build.OpenMerge link) = codes "openmerge" ++ then_number link
build_text (build.Initial link) = codes "initial" ++ then_number link
build_text (build.Cells count) = codes "cells" ++ then_number count
build_text (build.Demand link fault) = demand_text link fault
build_text (build.Phase signal phase) = codes "phase" ++ then_number signal ++ then_number phase
build_text build.Memory = codes ""

-- a fault of a network, behind the word `network`
abbrev pub network_text : NetworkFault → List ℕ
network_text (network.File fault) = net_text fault
network_text (network.Build fault) = build_text fault
network_text network.Memory = codes ""

-- the word of a fault of a run
abbrev pub run_text : RunFault → List ℕ
run_text (run.Surplus j) = codes " surplus"
run_text run.Start = codes " start"
run_text (run.Order j) = codes " order"
run_text (run.Green j) = codes " green"
run_text (run.Short letters) = codes " short"
run_text run.Memory = codes ""

-- a fault of a plan file, behind the word `plan`
abbrev pub plan_text : PlanFault → List ℕ
plan_text (plan.Form n) = codes "form" ++ then_number n
plan_text (plan.Signal n) = codes "signal" ++ then_number n
plan_text (plan.Run n fault) = codes "run" ++ then_number n ++ run_text fault
plan_text (plan.Missing s) = codes "missing" ++ then_number s
plan_text plan.Memory = codes ""
