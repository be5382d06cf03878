use Rattle.std.proofs.Common.{Option, List, ℕ, ap, ◌∙◌, sym}
use Rattle.std.specs.Borrow.{Bor}
use Rattle.std.specs.Option.{option_copied}
use Rattle.std.proofs.lemmas.Int.{to_z-of_z}
use Rattle.program_model.specs.SwitchRows as model
use Rattle.flow_switches.specs.Sums.{cap_term}
use Rattle.flow_switches.proofs.Capped.{gate_is, no_gate_is}
use Rattle.flow_switches.proofs.term.capped.Goals as goal
use Rattle.flow_switches.proofs.term.capped.Goals.{in-None, in-Some+in_ok-each-in-Some}
use Rattle.std.proofs.Common.{w64}
use mir.Val.{SFits}

pub returns-clause-value : goal.returns-clause-value
returns-clause-value c =
    let fits : SFits w64 c.args.cap = c.ranges.cap in
    let by_gate : Option (Bor (List ℕ)) → model.Term ℕ = λ gate. cap_term c.args.cap (option_copied gate) in
    elim c.match-gate.branch [
      | in-None w ↦
          let of_is = simp to_z-of_z at w.of-is in
          simp to_z-of_z (no_gate_is c.match-gate.of c.args.cap w.new.result c.requires of_is w.new.ensures ∙ ap by_gate (sym w.in-None.is))
      | in-Some+in_ok-each-in-Some w ↦
          let each = simp to_z-of_z at w.in_ok-each-in-Some.ensures in
          simp to_z-of_z (gate_is c.match-gate.of c.args.cap w.in-Some.columns.now w.in_ok-each-in-Some.field-0 c.requires w.of-is each ∙ ap by_gate (sym w.in-Some.is))
    ]
