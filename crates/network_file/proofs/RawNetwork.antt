-- What a file spells, from the table that its document is, and from the stages that judge it.
use Rattle.std.proofs.Common.{◌≡◌, ℕ, List, Some, None, inl, inr, Err, refl}
use Rattle.std.specs.Prelude.{flat_map}
use Rattle.std.specs.Str.{IsUtf8, is_utf8}
use Rattle.std.proofs.lemmas.Bool.{cases_Bool}
use Rattle.std.proofs.lemmas.Str.{IsUtf8-from_is_utf8, is_utf8-from_IsUtf8}
use Rattle.toml.specs.Data.{Members}
use Rattle.toml.specs.Parse.{parse_document}
use Rattle.network_file.specs.Spelled.{raw_network, spelled_by}
use Rattle.network_file.specs.Refusals.{key_faults, range_faults, walk}
use Rattle.network_file.specs.inner.Stages.{faults_at}
use Rattle.network_file.specs.declared.judge.table.Stage.TheVariants.{Keys, Ranges}
use Rattle.network_file.specs.declared.fault.NetFault.TheVariants.{Toml}

-- the network of a document is that of its table
pub raw_network-table : (bytes : List ℕ) (top : Members) → IsUtf8 bytes → parse_document bytes ≡ Some top → raw_network bytes ≡ spelled_by top
unfolding raw_network
raw_network-table bytes top utf8 parsed = rw (is_utf8-from_IsUtf8 bytes utf8, parsed)

-- bytes that are no document are refused as such
pub raw_network-none : (bytes : List ℕ) → (IsUtf8 bytes → parse_document bytes ≡ None) → raw_network bytes ≡ Err Toml
unfolding raw_network
raw_network-none bytes refused =
    elim (cases_Bool (is_utf8 bytes)) [
      | inl utf8 ↦ rw (utf8, refused (IsUtf8-from_is_utf8 bytes utf8))
      | inr other ↦ rw other
    ]

-- what a file spells, either way
pub ruleset raw_network_laws = (raw_network-table, raw_network-none)

-- the stages
pub key_stage : (top : Members) → key_faults top ≡ flat_map (faults_at Keys) (walk top)
unfolding key_faults faults_at
key_stage top = refl

pub range_stage : (top : Members) → range_faults top ≡ flat_map (faults_at Ranges) (walk top)
unfolding range_faults faults_at
range_stage top = refl

pub ruleset stages = (key_stage, range_stage)
