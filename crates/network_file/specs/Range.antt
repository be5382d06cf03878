-- What every network that is read keeps (docs/network-file.md, "Ranges").
use Rattle.std.specs.Prelude.{◌≡◌, ◌≢◌, ℕ, ◌≤◌, true, List, [], length, map, None, IsSome, IfSome, All}
use Rattle.ct_base.specs.Validity.{IsBetween}
use Rattle.texts.specs.Names.{is_name}
pub use Rattle.texts.specs.Names.{all_differ}
use Rattle.network_file.specs.declared.raw.RawNet.{RawNet}
use Rattle.network_file.specs.declared.raw.RawLink.{RawLink}
use Rattle.network_file.specs.declared.raw.RawSignal.{RawSignal}
use Rattle.network_file.specs.declared.raw.RawPhase.{RawPhase}
use Rattle.demand.specs.declared.piece.Piece.{Piece}

-- a piece of demand has its numbers in range
pub record IsPieceInRange (piece : Piece) : Type 0 where
  pub first : piece.first ≤ 240
  pub until : piece.until ≤ 240
  pub rate : piece.rate ≤ 1000

-- a link has its name, numbers and lists in range
pub record IsLinkInRange (link : RawLink) : Type 0 where
  pub name : is_name link.name ≡ true
  pub cells : IsBetween 1 256 link.cells
  pub cap : IsBetween 1 1000 link.cap
  pub store : IsBetween 1 10000 link.store
  pub wave_p : IsBetween 1 link.wave_q link.wave_p
  pub wave_q : link.wave_q ≤ 100
  pub turns : link.turns ≢ [] → IsBetween 2 4 (length link.turns)
  pub parcels : All (λ (turn : List ℕ × ℕ). IsBetween 1 100 turn.1) link.turns
  pub greens : IsSome link.signal → IsBetween 1 16 (length link.greens)
  pub no_greens : link.signal ≡ None → link.greens ≡ []
  pub initial : IfSome link.initial (λ units. length units ≤ 256)
  pub initial_units : IfSome link.initial (λ units. All (λ n. n ≤ 10000) units)
  pub pieces : length link.pieces ≤ 480
  pub each_piece : All IsPieceInRange link.pieces

-- a phase has its name and numbers in range
pub record IsPhaseInRange (phase : RawPhase) : Type 0 where
  pub name : is_name phase.name ≡ true
  pub min : IsBetween 1 60 phase.min
  pub max : IsBetween 1 60 phase.max
  pub clear : phase.clear ≤ 20
  pub next : length phase.next ≤ 16

-- a signal has its name and phases in range
pub record IsSignalInRange (signal : RawSignal) : Type 0 where
  pub name : is_name signal.name ≡ true
  pub phases : IsBetween 2 8 (length signal.phases)
  pub each_phase : All IsPhaseInRange signal.phases
  pub names_differ : all_differ (map (λ (phase : RawPhase). phase.name) signal.phases) ≡ true

-- each number, length and name is within its limits, and names of one kind differ
pub record IsInRange (net : RawNet) : Type 0 where
  pub steps : IsBetween 1 240 net.steps
  pub links : IsBetween 1 64 (length net.links)
  pub signals : length net.signals ≤ 16
  pub each_link : All IsLinkInRange net.links
  pub each_signal : All IsSignalInRange net.signals
  pub links_differ : all_differ (map (λ (link : RawLink). link.name) net.links) ≡ true
  pub signals_differ : all_differ (map (λ (signal : RawSignal). signal.name) net.signals) ≡ true
