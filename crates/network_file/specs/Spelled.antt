-- The network that the bytes of a file spell, or the first refusal (docs/network-file.md). A document is what `toml` reads, in
-- the forms of TOML 1.1; the keys are this project's own.
use Rattle.std.specs.Prelude.{ℕ, ◌+◌, if◌then◌else◌, List, [], ◌∷◌, ◌++◌, map, Result, Err, codes, slice_index_or}
use Rattle.std.specs.Option.{option_map_or}
use Rattle.std.specs.Str.{is_utf8}
use Rattle.toml.specs.Data.{Members}
use Rattle.toml.specs.Parse.{parse_document}
use Rattle.refusals.specs.Faults.{unless}
use Rattle.demand.specs.declared.piece.Piece.{Piece}
use Rattle.network_file.specs.Documents.{number_at, numbers_at, some_numbers_at, some_text_at, tables_at, text_at, texts_at}
use Rattle.network_file.specs.Refusals.{faults_of, has_format}
use Rattle.network_file.specs.declared.raw.RawNet.{RawNet}
use Rattle.network_file.specs.declared.raw.RawLink.{RawLink}
use Rattle.network_file.specs.declared.raw.RawSignal.{RawSignal}
use Rattle.network_file.specs.declared.raw.RawPhase.{RawPhase}
use Rattle.network_file.specs.declared.fault.NetFault.{NetFault}
use Rattle.network_file.specs.declared.fault.NetFault.TheVariants.{Toml, Format}

-- one piece of demand for each rate: the first holds step 0, the next step 1
abbrev pub pieces_from : ℕ → List ℕ → List Piece
pieces_from t [] = []
pieces_from t (rate ∷ rates) = (record { first = t; until = t + 1; rate = rate }) ∷ pieces_from (t + 1) rates

-- a piece of demand, as its table spells it
abbrev pub piece_of : Members → Piece
piece_of ms = record { first = number_at 0 (codes "from") ms; until = number_at 0 (codes "until") ms; rate = number_at 0 (codes "rate") ms }

-- a turn, as its table spells it: the name of a link, and its units of a parcel
abbrev pub turn_of : Members → List ℕ × ℕ
turn_of ms = (text_at (codes "link") ms, number_at 0 (codes "parcel") ms)

-- a link, as its table spells it: the pieces of `demand` stand before those of `rates`
unfoldable pub link_of : Members → RawLink
link_of ms =
    record {
      name = text_at (codes "name") ms;
      cells = number_at 1 (codes "cells") ms;
      cap = number_at 0 (codes "cap") ms;
      store = number_at 0 (codes "store") ms;
      wave_p = slice_index_or (numbers_at (codes "wave") ms) 0 1;
      wave_q = slice_index_or (numbers_at (codes "wave") ms) 1 1;
      to = some_text_at (codes "to") ms;
      turns = map turn_of (tables_at (codes "turns") ms);
      signal = some_text_at (codes "signal") ms;
      greens = texts_at (codes "greens") ms;
      initial = some_numbers_at (codes "initial") ms;
      pieces = map piece_of (tables_at (codes "demand") ms) ++ pieces_from 0 (numbers_at (codes "rates") ms);
    }

-- a phase, as its table spells it
abbrev pub phase_of : Members → RawPhase
phase_of ms =
    record {
      name = text_at (codes "name") ms;
      min = number_at 0 (codes "min") ms;
      max = number_at 0 (codes "max") ms;
      clear = number_at 0 (codes "clear") ms;
      next = texts_at (codes "next") ms;
    }

-- a signal, as its table spells it
unfoldable pub signal_of : Members → RawSignal
signal_of ms =
    record {
      name = text_at (codes "name") ms;
      start = some_text_at (codes "start") ms;
      phases = map phase_of (tables_at (codes "phase") ms);
    }

-- a network, as the top table of a document spells it
unfoldable pub network_of : Members → RawNet
network_of top =
    record {
      steps = number_at 0 (codes "steps") top;
      links = map link_of (tables_at (codes "link") top);
      signals = map signal_of (tables_at (codes "signal") top);
    }

-- the network of a document, or its first refusal
unfoldable pub spelled_by : Members → Result RawNet NetFault
spelled_by top = if has_format top then unless (faults_of top) (network_of top) else Err Format

-- the network that a file spells, or the first refusal
unfoldable pub raw_network : List ℕ → Result RawNet NetFault
raw_network bytes = if is_utf8 bytes then option_map_or spelled_by (parse_document bytes) (Err Toml) else Err Toml
