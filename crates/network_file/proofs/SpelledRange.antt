-- Links and signals that bytes spell are in range.
use Rattle.std.proofs.Common.{◌≡◌, ℕ, Bool, true, false, List, [], ◌∷◌, Option, Some, None, Ok, refl, subst}
use Rattle.std.specs.Str.{is_utf8}
use Rattle.toml.specs.Data.{Members}
use Rattle.toml.specs.Parse.{parse_document}
use Rattle.refusals.specs.Faults.{unless}
use Rattle.network_file.specs.Range.{IsInRange}
use Rattle.network_file.specs.Refusals.{faults_of, has_format}
use Rattle.network_file.specs.Spelled.{network_of, raw_network, spelled_by}
use Rattle.network_file.specs.declared.raw.RawNet.{RawNet}
use Rattle.network_file.specs.declared.fault.NetFault.{NetFault}
use Rattle.network_file.proofs.RangeLaws.{network_in_range}

-- what a document spells is in range
document_in_range : (top : Members) (raw : RawNet) → spelled_by top ≡ Ok raw → IsInRange raw
unfolding spelled_by
document_in_range top raw spelled = by_format (has_format top) refl
  where
    fine : (faults : List NetFault) → faults_of top ≡ faults → unless faults (network_of top) ≡ Ok raw → IsInRange raw
    fine [] none made = let same : network_of top ≡ raw = cc in subst IsInRange same (network_in_range top (rw none refl))
    fine (fault ∷ faults) some made = absurd (cc)

    by_format : (format : Bool) → has_format top ≡ format → IsInRange raw
    by_format true is = fine (faults_of top) refl (rw is at spelled)
    by_format false is = let refused = rw is at spelled in absurd (cc)

-- links and signals that bytes spell are in range
pub raw_in_range : (bytes : List ℕ) (raw : RawNet) → raw_network bytes ≡ Ok raw → IsInRange raw
unfolding raw_network
raw_in_range bytes raw spelled = by_text (is_utf8 bytes) refl
  where
    by_document : (document : Option Members) → parse_document bytes ≡ document → is_utf8 bytes ≡ true → IsInRange raw
    by_document None none is = let refused = rw (is, none) at spelled in absurd (cc)
    by_document (Some top) some is = document_in_range top raw (rw (is, some) at spelled)

    by_text : (text : Bool) → is_utf8 bytes ≡ text → IsInRange raw
    by_text true is = by_document (parse_document bytes) refl is
    by_text false is = let refused = rw is at spelled in absurd (cc)
