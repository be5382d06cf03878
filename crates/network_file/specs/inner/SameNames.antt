-- Names that an earlier table has, table by table.
use Rattle.std.specs.Prelude.{ℕ, Bool, false, List, [], ◌++◌, codes}
use Rattle.std.specs.List.{list_any}
use Rattle.std.specs.Option.{option_map_or}
use Rattle.std.specs.Str.{bytes_eq}
use Rattle.toml.specs.Data.{Data, as_table, Members}
use Rattle.refusals.specs.Faults.{where_so}
use Rattle.network_file.specs.Documents.{tables_at, text_at}
use Rattle.network_file.specs.Refusals.{names_of}
use Rattle.network_file.specs.inner.Tables.{each_after}
use Rattle.network_file.specs.declared.fault.At.{At}
use Rattle.network_file.specs.declared.fault.At.TheVariants.{Link, Signal, Phase}
use Rattle.network_file.specs.declared.fault.NetFault.{NetFault}
use Rattle.network_file.specs.declared.fault.NetFault.TheVariants as fault
use Rattle.network_file.specs.declared.judge.names.Named.{Named}
use Rattle.network_file.specs.declared.judge.names.Named.TheVariants.{Links, Phases}

-- where table k of a list stands: links, or the phases of a signal
abbrev pub named_at : Named → ℕ → At
named_at Links k = Link k
named_at (Phases s) k = Phase s k

-- the value is a table of this name
abbrev pub has_name : List ℕ → Data → Bool
has_name name d = option_map_or (λ (ms : Members). bytes_eq name (text_at (codes "name") ms)) (as_table d) false

-- an earlier table has the name of this one
abbrev pub name_after : (ℕ → At) → ℕ → List Members → Members → List NetFault
name_after at k earlier ms = where_so (list_any (bytes_eq (text_at (codes "name") ms)) (names_of earlier)) (fault.Name (at k))

-- the names of tables of one kind
abbrev pub same_names : Named → List Members → List NetFault
same_names named tables = each_after 0 (name_after (named_at named)) [] tables

-- the name of a signal, and then those of its phases
abbrev pub signal_after : ℕ → List Members → Members → List NetFault
signal_after s earlier ms = name_after Signal s earlier ms ++ same_names (Phases s) (tables_at (codes "phase") ms)
