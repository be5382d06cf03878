-- The nodes of lines that are read behind others.
use Rattle.std.specs.Prelude.{List, ◌++◌}
use Rattle.certificate_model.specs.Nodes.{Node}
use Rattle.cert_format.specs.Fronts.{Part}
use Rattle.cert_format.specs.declared.reading.Ending.{Ending}

-- nodes, and how the lines end
abbrev pub part_as : List Node → Ending → Part
part_as nodes ending = record { nodes = nodes; ending = ending }

-- nodes before those of the lines
abbrev pub part_behind : List Node → Part → Part
part_behind nodes part = record { nodes = nodes ++ part.nodes; ending = part.ending }
