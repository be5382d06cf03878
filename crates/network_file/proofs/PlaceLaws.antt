-- What a document without key faults and range faults keeps, table by table.
use Rattle.std.proofs.Common.{◌≡◌, ℕ, ◌+◌, ◌<◌, false, not, List, [], ◌∷◌, ◌++◌, length, get_or, map, codes, sym, ◌∙◌}
use Rattle.std.specs.List.{All}
use Rattle.std.proofs.lemmas.List.Elements.{All-nil, All-cons}
use Rattle.toml.specs.Data.{Members}
use Rattle.refusals.specs.Faults.{where_so}
use Rattle.listed.proofs.JoinLaws.{append_none}
use Rattle.refusals.proofs.FirstFaults.{where_none}
use Rattle.refusals.proofs.Items.{per_item_none}
use Rattle.network_file.specs.Documents.{is_whole, tables_at}
use Rattle.network_file.specs.Keys.{Key, any, key, needed, top_keys, link_keys, turn_keys, piece_keys, signal_keys, phase_keys}
use Rattle.network_file.specs.Refusals.{has_only, is_broken, is_out_of_range, key_at, key_faults, key_faults_at, number, place, range_at, range_faults, range_faults_at}
use Rattle.network_file.specs.inner.Stages.{faults_at, inner_at, inner_faults, inner_faults_at, inner_key, inner_keys, link_faults, signal_faults}
use Rattle.network_file.specs.inner.Tables.{each_from}
use Rattle.network_file.specs.declared.fault.At.{At}
use Rattle.network_file.specs.declared.fault.At.TheVariants.{Top, Link, Signal}
use Rattle.network_file.specs.declared.fault.NetFault.TheVariants as fault
use Rattle.network_file.specs.declared.judge.table.Stage.TheVariants.{Keys, Ranges}
use Rattle.network_file.specs.declared.judge.walk.Inner.{Inner}
use Rattle.network_file.specs.declared.judge.walk.Inner.TheVariants.{Turns, Pieces, Phases}
use Rattle.network_file.proofs.RawNetwork.{key_stage, range_stage}
use Rattle.network_file.proofs.TableWalks.{walked_top}

-- what stands for a key that is not there
abbrev pub no_key : Key
no_key = key [] needed is_whole any

-- a table whose keys have no fault
pub record IsFine (keys : List Key) (ms : Members) : Type 0 where
  pub types : (j : ℕ) → j < length keys → is_broken ms (get_or keys j no_key) ≡ false
  pub ranges : (j : ℕ) → j < length keys → is_out_of_range ms (get_or keys j no_key) ≡ false

-- a link and its parts, a signal and its phases, a document
pub record IsFineLink (ms : Members) : Type 0 where
  pub own : IsFine link_keys ms
  pub turns : All (IsFine turn_keys) (tables_at (codes "turns") ms)
  pub pieces : All (IsFine piece_keys) (tables_at (codes "demand") ms)

pub record IsFineSignal (ms : Members) : Type 0 where
  pub own : IsFine signal_keys ms
  pub phases : All (IsFine phase_keys) (tables_at (codes "phase") ms)

pub record IsFineTop (ms : Members) : Type 0 where
  pub own : IsFine top_keys ms
  pub links : All IsFineLink (tables_at (codes "link") ms)
  pub signals : All IsFineSignal (tables_at (codes "signal") ms)

-- no faults of a table
fine : (at other : At) (keys : List Key) (ms : Members) → faults_at Keys (place at keys ms) ≡ [] → faults_at Ranges (place other keys ms) ≡ [] → IsFine keys ms
unfolding faults_at key_faults_at range_faults_at
fine at other keys ms no_keys no_ranges =
    let named : List _ = where_so (not (has_only (map (λ (key : Key). key.name) keys) ms)) (fault.Key at 0) in
    record {
      types = λ j within.
          where_none (is_broken ms (get_or keys j no_key)) (fault.Key at (j + 1)) (per_item_none keys (key_at at ms) j no_key (append_none _ named no_keys).0 within);
      ranges = λ j within.
          where_none (is_out_of_range ms (get_or keys j no_key)) (fault.Range other (j + 1)) (per_item_none keys (range_at other ms) j no_key no_ranges within);
    }

-- no faults of each table
each_none : {X : Type 0} (k : ℕ) (f : ℕ → Members → List X) (tables : List Members) → each_from k f tables ≡ [] → All (λ ms. (j : ℕ) × (f j ms ≡ [])) tables
each_none k f [] none = All-nil _
each_none k f (ms ∷ tables) none =
    let parts = append_none (f k ms) (each_from (number (k + 1)) f tables) none in
    All-cons (λ ms. (j : ℕ) × (f j ms ≡ [])) ms tables (k, parts.0) (each_none (number (k + 1)) f tables parts.1)

-- what two facts of each table make
both : (P Q R : Members → Type 0) → ((ms : Members) → P ms → Q ms → R ms) → (tables : List Members) → All P tables → All Q tables → All R tables
both P Q R join tables p q = λ k d within. join (get_or tables k d) (p k d within) (q k d within)

inner_fine : (inner : Inner) (j k : ℕ) (ms : Members) → inner_faults Keys inner j ms ≡ [] → inner_faults Ranges inner k ms ≡ [] → All (IsFine (inner_keys inner)) (tables_at (inner_key inner) ms)
inner_fine inner j k ms no_keys no_ranges =
    let tables = tables_at (inner_key inner) ms in
    both (λ part. (i : ℕ) × (inner_faults_at Keys inner j i part ≡ [])) (λ part. (i : ℕ) × (inner_faults_at Ranges inner k i part ≡ [])) (IsFine (inner_keys inner))
    (λ part keys ranges. fine (inner_at inner j keys.0) (inner_at inner k ranges.0) (inner_keys inner) part keys.1 ranges.1)
    tables (each_none 0 (inner_faults_at Keys inner j) tables no_keys) (each_none 0 (inner_faults_at Ranges inner k) tables no_ranges)

link_fine : (ms : Members) → (j : ℕ) × (link_faults Keys j ms ≡ []) → (j : ℕ) × (link_faults Ranges j ms ≡ []) → IsFineLink ms
link_fine ms (j, no_keys) (k, no_ranges) =
    let keys = append_none (faults_at Keys (place (Link j) link_keys ms)) (inner_faults Keys Turns j ms ++ inner_faults Keys Pieces j ms) no_keys in
    let inner_keys = append_none (inner_faults Keys Turns j ms) (inner_faults Keys Pieces j ms) keys.1 in
    let ranges = append_none (faults_at Ranges (place (Link k) link_keys ms)) (inner_faults Ranges Turns k ms ++ inner_faults Ranges Pieces k ms) no_ranges in
    let inner_ranges = append_none (inner_faults Ranges Turns k ms) (inner_faults Ranges Pieces k ms) ranges.1 in
    record {
      own = fine (Link j) (Link k) link_keys ms keys.0 ranges.0;
      turns = inner_fine Turns j k ms inner_keys.0 inner_ranges.0;
      pieces = inner_fine Pieces j k ms inner_keys.1 inner_ranges.1;
    }

signal_fine : (ms : Members) → (j : ℕ) × (signal_faults Keys j ms ≡ []) → (j : ℕ) × (signal_faults Ranges j ms ≡ []) → IsFineSignal ms
signal_fine ms (j, no_keys) (k, no_ranges) =
    let keys = append_none (faults_at Keys (place (Signal j) signal_keys ms)) (inner_faults Keys Phases j ms) no_keys in
    let ranges = append_none (faults_at Ranges (place (Signal k) signal_keys ms)) (inner_faults Ranges Phases k ms) no_ranges in
    record { own = fine (Signal j) (Signal k) signal_keys ms keys.0 ranges.0; phases = inner_fine Phases j k ms keys.1 ranges.1 }

pub top_fine : (top : Members) → key_faults top ≡ [] → range_faults top ≡ [] → IsFineTop top
top_fine top no_keys no_ranges =
    let links = tables_at (codes "link") top in
    let signals = tables_at (codes "signal") top in
    let keys = append_none (faults_at Keys (place Top top_keys top)) (each_from 0 (link_faults Keys) links ++ each_from 0 (signal_faults Keys) signals) (sym (walked_top Keys top) ∙ sym (key_stage top) ∙ no_keys) in
    let inner_keys = append_none (each_from 0 (link_faults Keys) links) (each_from 0 (signal_faults Keys) signals) keys.1 in
    let ranges = append_none (faults_at Ranges (place Top top_keys top)) (each_from 0 (link_faults Ranges) links ++ each_from 0 (signal_faults Ranges) signals) (sym (walked_top Ranges top) ∙ sym (range_stage top) ∙ no_ranges) in
    let inner_ranges = append_none (each_from 0 (link_faults Ranges) links) (each_from 0 (signal_faults Ranges) signals) ranges.1 in
    record {
      own = fine Top Top top_keys top keys.0 ranges.0;
      links = both (λ ms. (j : ℕ) × (link_faults Keys j ms ≡ [])) (λ ms. (j : ℕ) × (link_faults Ranges j ms ≡ [])) IsFineLink link_fine links (each_none 0 (link_faults Keys) links inner_keys.0) (each_none 0 (link_faults Ranges) links inner_ranges.0);
      signals = both (λ ms. (j : ℕ) × (signal_faults Keys j ms ≡ [])) (λ ms. (j : ℕ) × (signal_faults Ranges j ms ≡ [])) IsFineSignal signal_fine signals (each_none 0 (signal_faults Keys) signals inner_keys.1) (each_none 0 (signal_faults Ranges) signals inner_ranges.1);
    }
