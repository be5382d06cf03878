use Rattle.std.proofs.Common.{rules, tests, ◌≡◌, position, sym, ◌∙◌}
use Rattle.std.proofs.lemmas.Iterator.{YieldsList-from_slice}
use Rattle.std.proofs.lemmas.Iterator.Search.{position_from_yields_List}
use Rattle.std.specs.Str.{bytes_eq}
use Rattle.network_file.specs.declared.raw.RawPhase.{RawPhase}
use Rattle.cell_build.proofs.NameLaws.{position_phase}
use Rattle.cell_build.proofs.by_name.phase_place.Goals as goal

pub returns-clause-value : goal.returns-clause-value
returns-clause-value c =
    let among : c.position.result ≡ position (λ (phase : RawPhase). bytes_eq c.args.name.now phase.name) c.args.phases.now =
    position_from_yields_List (λ (phase : RawPhase). bytes_eq c.args.name.now phase.name) _ _ c.position.result c.position.ensures.ran (YieldsList-from_slice _ c.iter.ensures.rest) (λ x b q k. search (rules, tests)) in
    among ∙ sym (position_phase c.args.name.now c.args.phases.now)
