-- The word that a list of runs becomes within a horizon, or the first run at fault (docs/signals.md, "The runs of a plan").
use Rattle.std.specs.Prelude.{ℕ, zero, suc, ◌+◌, ◌^◌, Bool, not, ◌&&◌, ◌||◌, nat_lt, nat_le, ◌==◌, List, ◌++◌, length, take, Result, slice_index_or}
use Rattle.std.specs.Int.{bit_at}
use Rattle.listed.specs.Below.{join_below, sum_below}
use Rattle.refusals.specs.Faults.{unless, where_so}
use Rattle.ct_base.specs.Access.{phase_of}
use Rattle.ct_base.specs.declared.plan.Letter.{Letter}
use Rattle.ct_base.specs.declared.signal.Signal.{Signal}
use Rattle.traffic_model.specs.Runs.{Run, letters_of_runs}
use Rattle.phase_rules.specs.declared.fault.RunFault.{RunFault}
use Rattle.phase_rules.specs.declared.fault.RunFault.TheVariants.{Surplus, Start, Order, Green, Short}

-- a phase and a number of green letters as a run
abbrev pub run_by : ℕ × ℕ → Run
run_by pair = record { phase = pair.0; green = pair.1 }

-- run j of a list
abbrev pub run_at : List Run → ℕ → Run
run_at runs j = slice_index_or runs j (record { phase = 0; green = 0 })

-- the letters of a run, its whole clearing among them
abbrev pub length_of_run : Signal → Run → ℕ
length_of_run signal run = run.green + (phase_of signal run.phase).clear

-- the step at which run j begins
abbrev pub begins_at : Signal → List Run → ℕ → ℕ
begins_at signal runs j = sum_below j (λ i. length_of_run signal (run_at runs i))

-- the phases that run j may be of: the starting one, or those that may follow the run before
abbrev pub may_be : Signal → List Run → ℕ → ℕ
may_be signal runs zero = 2 ^ signal.start
may_be signal runs (suc i) = (phase_of signal (run_at runs i).phase).next

-- the fault of run i where its phase may not stand there
abbrev pub out_of_order : ℕ → RunFault
out_of_order zero = Start
out_of_order (suc i) = Order (suc i)

-- the green of a run that begins at a step: not empty, not above the maximum, inside the horizon, and not below the
-- minimum where the horizon does not cut it
abbrev pub is_green : Signal → ℕ → ℕ → Run → Bool
is_green signal steps begin run =
    nat_lt 0 run.green && (nat_le run.green (phase_of signal run.phase).max && (nat_le (begin + run.green) steps
    && (nat_le (phase_of signal run.phase).min run.green || (begin + run.green == steps))))

-- the faults of run j
abbrev pub faults_at : Signal → List Run → ℕ → ℕ → List RunFault
faults_at signal runs steps j =
    where_so (nat_le steps (begins_at signal runs j)) (Surplus j)
    ++ (where_so (not (bit_at (may_be signal runs j) (run_at runs j).phase == 1)) (out_of_order j)
    ++ where_so (not (is_green signal steps (begins_at signal runs j) (run_at runs j))) (Green j))

-- the fault of runs that end before the horizon does
abbrev pub short_faults : Signal → List Run → ℕ → List RunFault
short_faults signal runs steps =
    let letters = begins_at signal runs (length runs) in
    where_so (nat_lt letters steps) (Short letters)

-- the faults of each run in its turn, and then that of the whole
unfoldable pub faults_of : Signal → List Run → ℕ → List RunFault
faults_of signal runs steps = join_below (length runs) (faults_at signal runs steps) ++ short_faults signal runs steps

-- the letters of the runs inside the horizon, or the first fault
unfoldable pub expanded : Signal → List Run → ℕ → Result (List Letter) RunFault
expanded signal runs steps = unless (faults_of signal runs steps) (take steps (letters_of_runs signal runs))
