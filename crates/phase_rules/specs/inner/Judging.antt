-- The faults of one run, by what is known of the runs before it: which phases may come, and at which step it begins.
use Rattle.std.specs.Prelude.{ℕ, not, nat_le, ◌==◌, List, ◌++◌}
use Rattle.std.specs.Int.{bit_at}
use Rattle.refusals.specs.Faults.{where_so}
use Rattle.ct_base.specs.declared.signal.Signal.{Signal}
use Rattle.traffic_model.specs.Runs.{Run}
use Rattle.phase_rules.specs.Expansion.{is_green, out_of_order}
use Rattle.phase_rules.specs.declared.fault.RunFault.{RunFault}
use Rattle.phase_rules.specs.declared.fault.RunFault.TheVariants.{Surplus, Green}

-- the faults of a run of a number, which may be of a phase of the set and begins at a step
abbrev pub faults_of_run : Signal → ℕ → ℕ → ℕ → ℕ → Run → List RunFault
faults_of_run signal allowed begin steps number run =
    where_so (nat_le steps begin) (Surplus number)
    ++ (where_so (not (bit_at allowed run.phase == 1)) (out_of_order number)
    ++ where_so (not (is_green signal steps begin run)) (Green number))
