-- What a key of the program means: the key of a table with its tests (docs/network-file.md, "Keys").
use Rattle.std.specs.Prelude.{Bool, List, map}
use Rattle.toml.specs.Data.{Data, Members}
use Rattle.network_file.specs.Documents.{is_array_of, is_table, is_text, is_whole}
use Rattle.network_file.specs.Keys.{Key, key, needed, optional, needed_with, any, name_shape, whole, count, wholes, wave}
use Rattle.network_file.specs.declared.keys.Key.{Key as Listed}
use Rattle.network_file.specs.declared.keys.Need.{Need}
use Rattle.network_file.specs.declared.keys.Need.TheVariants.{Needed, Optional, NeededWith}
use Rattle.network_file.specs.declared.keys.Kind.{Kind}
use Rattle.network_file.specs.declared.keys.Kind.TheVariants.{AnyWhole, Whole, AnyText, Name, Wave, Wholes, Texts, Tables}

-- whether the key must stand in a table
abbrev pub need_of : Need → Members → Bool
need_of Needed = needed
need_of Optional = optional
need_of (NeededWith other) = needed_with other.now

-- whether a value has the type
abbrev pub type_of : Kind → Data → Bool
type_of AnyWhole = is_whole
type_of (Whole low high) = is_whole
type_of AnyText = is_text
type_of Name = is_text
type_of Wave = is_array_of is_whole
type_of (Wholes most low high) = is_array_of is_whole
type_of (Texts low high) = is_array_of is_text
type_of (Tables low high) = is_array_of is_table

-- whether a value is within the range
abbrev pub range_of : Kind → Data → Bool
range_of AnyWhole = any
range_of (Whole low high) = whole low high
range_of AnyText = any
range_of Name = name_shape
range_of Wave = wave
range_of (Wholes most low high) = wholes most low high
range_of (Texts low high) = count low high
range_of (Tables low high) = count low high

-- a key that is listed, as the reading of documents takes it
abbrev pub key_of : Listed → Key
key_of listed = key listed.name.now (need_of listed.need) (type_of listed.kind) (range_of listed.kind)

-- the keys that are listed for one table
abbrev pub keys_of : List Listed → List Key
keys_of keys = map key_of keys
