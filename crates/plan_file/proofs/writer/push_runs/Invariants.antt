-- The lines of the runs so far are added.
use Rattle.std.proofs.Common.{◌≡◌, ◌++◌, map, take}
use Rattle.std.specs.Prelude.{flat_map, string_bytes}
use Rattle.phase_rules.specs.Expansion.{run_by}
use Rattle.named_net.specs.Naming.{signal_names_at}
use Rattle.plan_file.specs.PlanText.{run_text}
use Rattle.plan_file.proofs.writer.push_runs.Given as goal

abbrev pub invariant-loop-run : goal.invariant-loop-run
invariant-loop-run l = record {
  text : string_bytes l.text ≡ string_bytes l.fn.text ++ flat_map (run_text (signal_names_at l.fn.named.names l.signal)) (map run_by (take l.run-index l.runs));
  names : l.names ≡ l.fn.named.names;
}
