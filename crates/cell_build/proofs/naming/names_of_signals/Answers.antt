use Rattle.std.proofs.Common.{None, map, refl, sym, ap, ◌∙◌}
use Rattle.std.proofs.lemmas.Iterator.Adapters.{YieldsList-from_vec}
use Rattle.std.proofs.lemmas.Iterator.Consumers.{YieldsList-end}
use Rattle.std.proofs.lemmas.List.{map-id}
use Rattle.cell_build.specs.Naming.{names_of_signal}
use Rattle.cell_build.proofs.naming.names_of_signals.Goals as goal

pub returns : goal.returns
returns c =
    let gives = c.into_iter-signal-iterator.ensures.into_iter_gives in
    let all = YieldsList-end (YieldsList-from_vec _ gives.0 (cc)) c.loop-signal.yielded _ c.loop-signal.yielded_by None c.next.new.self refl c.in-None.ensures.steps in
    c.loop-signal.invariant ∙ ap (map names_of_signal) (sym (map-id c.loop-signal.yielded) ∙ all.0 ∙ c.into_vec-signal-items.ensures)
