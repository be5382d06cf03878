-- The junctions so far are added.
use Rattle.std.proofs.Common.{◌≡◌, ◌++◌}
use Rattle.std.specs.Prelude.{string_bytes}
use Rattle.listed.specs.Below.{join_below}
use Rattle.generated_nets.specs.Generated.{junction_text, street_text}
use Rattle.generated_nets.proofs.network.push_links.Given as goal

abbrev pub invariant-loop-junction : goal.invariant-loop-junction
invariant-loop-junction l = string_bytes l.text ≡ string_bytes l.fn.text ++ (street_text l.number 0 ++ join_below l.junction (junction_text l.number))
