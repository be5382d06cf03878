-- A network that bytes spell is valid, and its names fit it: links and signals that are read are in range, and a network
-- that is built has no fault.
use Rattle.std.proofs.Common.{◌≡◌, ℕ, List, [], ◌∷◌, Result, Ok, Err, refl, subst}
use Rattle.refusals.specs.Faults.{unless}
use Rattle.named_net.specs.Naming.{IsNamed, Named}
use Rattle.network_file.specs.Range.{IsInRange}
use Rattle.network_file.specs.Spelled.{raw_network}
use Rattle.network_file.specs.declared.raw.RawNet.{RawNet}
use Rattle.network_file.specs.declared.fault.NetFault.{NetFault}
use Rattle.network_file.proofs.SpelledRange.{raw_in_range}
use Rattle.cell_build.specs.Built.{built, named_of}
use Rattle.cell_build.specs.Refusals.{faults_of}
use Rattle.cell_build.specs.Spelled.{built_as, spelled_as, spelled_network}
use Rattle.cell_build.specs.declared.fault.BuildFault.{BuildFault}
use Rattle.cell_build.proofs.NamedLaws.{named_is_named}

-- a network that is built of links and signals in range
built_is_named : (raw : RawNet) (named : Named) → IsInRange raw → built raw ≡ Ok named → IsNamed named
unfolding built
built_is_named raw named in_range made = by_faults (faults_of raw) refl made
  where
    by_faults : (faults : List BuildFault) → faults_of raw ≡ faults → unless faults (named_of raw) ≡ Ok named → IsNamed named
    by_faults [] none made = let same : named_of raw ≡ named = cc in subst IsNamed same (named_is_named raw in_range none)
    by_faults (fault ∷ faults) some made = absurd (cc)

-- a network that bytes spell
pub spelled_is_named : (bytes : List ℕ) (named : Named) → spelled_network bytes ≡ Ok named → IsNamed named
unfolding spelled_network
spelled_is_named bytes named spelled = by_raw (raw_network bytes) refl spelled
  where
    by_built : (raw : RawNet) (made : Result Named BuildFault) → IsInRange raw → built raw ≡ made → built_as made ≡ Ok named → IsNamed named
    by_built raw (Ok other) in_range is spelled = let same : other ≡ named = cc in subst IsNamed same (built_is_named raw other in_range is)
    by_built raw (Err fault) in_range is spelled = absurd (cc)

    by_raw : (raw : Result RawNet NetFault) → raw_network bytes ≡ raw → spelled_as raw ≡ Ok named → IsNamed named
    by_raw (Ok raw) is spelled = by_built raw (built raw) (raw_in_range bytes raw is) refl spelled
    by_raw (Err fault) is spelled = absurd (cc)
