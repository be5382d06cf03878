-- The two stages that walk over all tables, as the program names them.
use Rattle.std.specs.Prelude.{ℕ, List, ◌++◌, codes}
use Rattle.toml.specs.Data.{Members}
use Rattle.network_file.specs.Documents.{tables_at}
use Rattle.network_file.specs.Keys.{Key, link_keys, turn_keys, piece_keys, signal_keys, phase_keys}
use Rattle.network_file.specs.Refusals.{Place, key_faults_at, place, range_faults_at}
use Rattle.network_file.specs.inner.Tables.{each_from}
use Rattle.network_file.specs.declared.fault.At.{At}
use Rattle.network_file.specs.declared.fault.At.TheVariants.{Link, Turn, Piece, Signal, Phase}
use Rattle.network_file.specs.declared.fault.NetFault.{NetFault}
use Rattle.network_file.specs.declared.judge.table.Stage.{Stage}
use Rattle.network_file.specs.declared.judge.table.Stage.TheVariants.{Keys, Ranges}
use Rattle.network_file.specs.declared.judge.walk.Inner.{Inner}
use Rattle.network_file.specs.declared.judge.walk.Inner.TheVariants.{Turns, Pieces, Phases}

-- the faults of a table in a stage
unfoldable pub faults_at : Stage → Place → List NetFault
faults_at Keys = key_faults_at
faults_at Ranges = range_faults_at

-- the key of an array of tables inside a link or a signal
abbrev pub inner_key : Inner → List ℕ
inner_key Turns = codes "turns"
inner_key Pieces = codes "demand"
inner_key Phases = codes "phase"

-- where table j of the array stands in link or signal k
abbrev pub inner_at : Inner → ℕ → ℕ → At
inner_at Turns k j = Turn k j
inner_at Pieces k j = Piece k j
inner_at Phases k j = Phase k j

-- the keys that each table of the array may have
abbrev pub inner_keys : Inner → List Key
inner_keys Turns = turn_keys
inner_keys Pieces = piece_keys
inner_keys Phases = phase_keys

-- the faults of table j of the array
abbrev pub inner_faults_at : Stage → Inner → ℕ → ℕ → Members → List NetFault
inner_faults_at stage inner k j ms = faults_at stage (place (inner_at inner k j) (inner_keys inner) ms)

-- the faults of all tables of the array
abbrev pub inner_faults : Stage → Inner → ℕ → Members → List NetFault
inner_faults stage inner k ms = each_from 0 (inner_faults_at stage inner k) (tables_at (inner_key inner) ms)

-- the faults of a link, of its branches and of its pieces
abbrev pub link_faults : Stage → ℕ → Members → List NetFault
link_faults stage k ms = faults_at stage (place (Link k) link_keys ms) ++ (inner_faults stage Turns k ms ++ inner_faults stage Pieces k ms)

-- the faults of a signal and of its phases
abbrev pub signal_faults : Stage → ℕ → Members → List NetFault
signal_faults stage s ms = faults_at stage (place (Signal s) signal_keys ms) ++ inner_faults stage Phases s ms
