-- The places lie in links of the file.
use Rattle.std.proofs.Common.{ap, ◌∙◌}
use Rattle.cell_build.specs.Naming.{places_of}
use Rattle.cell_build.proofs.NamedLaws.{are_in_links}
use Rattle.cell_build.proofs.naming.names_of.Goals as goal

pub new-requires : goal.new-requires
new-requires c =
    are_in_links c.args.raw.links (record { links = c.in_ok-links.links; signals = c.in_ok-signals.signals; places = c.in_ok-places.places }) c.in_ok-links.ensures
    (c.in_ok-places.ensures ∙ ap places_of c.as_slice.ensures)
