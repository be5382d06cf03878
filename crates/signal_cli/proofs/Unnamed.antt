-- Files that a run does not name as outputs, and counts, over what it writes and puts.
use Rattle.std.proofs.Common.{◌≡◌, ℕ, ◌≤◌, inl, inr, Bool, true, false, ◌||◌, cond, List, [], ◌∷◌, ◌++◌, map as mapped, Option, Some, None, option_map, refl, ap, sym, ◌∙◌, arith}
use Rattle.std.specs.List.{list_any}
use Rattle.std.specs.Str.{bytes_eq}
use Rattle.std.specs.FinMap as map
use Rattle.shelf_io.specs.Told.{Files, ShelfState, SinkState, StopsInFile, bytes_of, read_failed, with_file}
use Rattle.shelf_io.specs.declared.file_map.File.{File}
use Rattle.shelf_io.proofs.NamedFiles.{get_inserted}
use Rattle.signal_cli.specs.Worlds.{PutsAsFar, StopsInFiles, Untouched, World, file_at, with_files}

-- the names of files
abbrev pub names_of : List File → List (List ℕ)
names_of files = mapped (λ (file : File). file.name) files

-- neither of two tests passes
neither : (a b : Bool) → (a || b) ≡ false → (a ≡ false) × (b ≡ false)
neither a b failed = elim a as (λ (test : Bool). (test || b) ≡ false → (test ≡ false) × (b ≡ false)) [
  | true ↦ λ failed. absurd (let same : true ≡ false = failed in cc)
  | false ↦ λ failed. (refl, failed)
] failed

-- what is told of another name stays
other_told : (told : Option Files) (name bytes other : List ℕ) → bytes_eq other name ≡ false → option_map (λ (files : Files). bytes_of files other) (option_map (λ (files : Files). map.insert files name bytes) told) ≡ option_map (λ (files : Files). bytes_of files other) told
other_told None name bytes other differ = refl
other_told (Some files) name bytes other differ =
    ap Some (get_inserted files name bytes other ∙ ap (λ (test : Bool). cond test (Some bytes) (map.get files other)) differ)

other_stays : (shelf : ShelfState) (name bytes other : List ℕ) → bytes_eq other name ≡ false → file_at (with_file shelf name bytes) other ≡ file_at shelf other
other_stays shelf name bytes other differ = other_told shelf.files name bytes other differ

others_stay : (shelf : ShelfState) (files : List File) (other : List ℕ) → list_any (bytes_eq other) (names_of files) ≡ false → file_at (with_files shelf files) other ≡ file_at shelf other
others_stay shelf [] other unnamed = refl
others_stay shelf (file ∷ files) other unnamed =
    let apart = neither (bytes_eq other file.name) (list_any (bytes_eq other) (names_of files)) unnamed in
    others_stay (with_file shelf file.name file.bytes) files other apart.1 ∙ other_stays shelf file.name file.bytes other apart.0

-- the counts of a shelf do not change where files are written
same_reads : (shelf : ShelfState) (files : List File) → (with_files shelf files).read_faults ≡ shelf.read_faults
same_reads shelf [] = refl
same_reads shelf (file ∷ files) = same_reads (with_file shelf file.name file.bytes) files

pub same_writes : (shelf : ShelfState) (files : List File) → (with_files shelf files).write_faults ≡ shelf.write_faults
same_writes shelf [] = refl
same_writes shelf (file ∷ files) = same_writes (with_file shelf file.name file.bytes) files

-- the count of a sink never falls
put_faults : (before after : SinkState) (text : List ℕ) → PutsAsFar before text after → before.faults ≤ after.faults
put_faults before after text (inl whole) = omega (arith, ap (λ (sink : SinkState). sink.faults) whole)
put_faults before after text (inr stops) = omega (arith, ap (λ (sink : SinkState). sink.faults) stops.stands)

-- nothing but a line was put
pub untouched_shelf : (outputs : List (List ℕ)) (before after : World) (text : List ℕ) → after.shelf ≡ before.shelf → PutsAsFar before.out text after.out → Untouched outputs before after
untouched_shelf outputs before after text same put = record {
  files = λ name unnamed. ap (λ shelf. file_at shelf name) same;
  read_faults = omega (arith, ap (λ (shelf : ShelfState). shelf.read_faults) same);
  write_faults = omega (arith, ap (λ (shelf : ShelfState). shelf.write_faults) same);
  put_faults = put_faults before.out after.out text put;
}

-- a read failed, and a line was put
pub untouched_read : (outputs : List (List ℕ)) (before after : World) (text : List ℕ) → after.shelf ≡ read_failed before.shelf → PutsAsFar before.out text after.out → Untouched outputs before after
untouched_read outputs before after text counted put = record {
  files = λ name unnamed. ap (λ shelf. file_at shelf name) counted;
  read_faults = omega (arith, ap (λ (shelf : ShelfState). shelf.read_faults) counted);
  write_faults = omega (arith, ap (λ (shelf : ShelfState). shelf.write_faults) counted);
  put_faults = put_faults before.out after.out text put;
}

-- the outputs stand, and lines were put
pub untouched_written : (before after : World) (files : List File) (text : List ℕ) → after.shelf ≡ with_files before.shelf files → PutsAsFar before.out text after.out → Untouched (names_of files) before after
untouched_written before after files text written put = record {
  files = λ name unnamed. ap (λ shelf. file_at shelf name) written ∙ others_stay before.shelf files name unnamed;
  read_faults = omega (arith, ap (λ (shelf : ShelfState). shelf.read_faults) written, same_reads before.shelf files);
  write_faults = omega (arith, ap (λ (shelf : ShelfState). shelf.write_faults) written, same_writes before.shelf files);
  put_faults = put_faults before.out after.out text put;
}

-- a name that none of some files has is that of none of the first, nor that of the next
unnamed_before : (done rest : List File) (stopped : File) (name : List ℕ) → list_any (bytes_eq name) (names_of (done ++ stopped ∷ rest)) ≡ false → (list_any (bytes_eq name) (names_of done) ≡ false) × (bytes_eq name stopped.name ≡ false)
unnamed_before [] rest stopped name unnamed = (refl, (neither (bytes_eq name stopped.name) (list_any (bytes_eq name) (names_of rest)) unnamed).0)
unnamed_before (file ∷ done) rest stopped name unnamed =
    let apart = neither (bytes_eq name file.name) (list_any (bytes_eq name) (names_of (done ++ stopped ∷ rest))) unnamed in
    let further = unnamed_before done rest stopped name apart.1 in
    (ap (λ (test : Bool). test || list_any (bytes_eq name) (names_of done)) apart.0 ∙ further.0, further.1)

-- where the writing of a file stopped, what is told of another name stays
stopped_elsewhere : (before after : ShelfState) (name bytes other : List ℕ) → StopsInFile before name bytes after → bytes_eq other name ≡ false → file_at after other ≡ file_at before other
stopped_elsewhere before after name bytes other stops differ =
    elim stops.stands [
      | inl same ↦ ap (λ shelf. file_at shelf other) same
      | inr front ↦ ap (λ shelf. file_at shelf other) front ∙ other_stays before name stops.front other differ
    ]

-- the counts where the writing of a file stopped
stopped_counts : (before after : ShelfState) (name bytes : List ℕ) → StopsInFile before name bytes after → (before.read_faults ≤ after.read_faults) × (before.write_faults ≤ after.write_faults)
stopped_counts before after name bytes stops =
    elim stops.stands [
      | inl same ↦ (omega (arith, ap (λ (shelf : ShelfState). shelf.read_faults) same), omega (arith, ap (λ (shelf : ShelfState). shelf.write_faults) same))
      | inr front ↦ (omega (arith, ap (λ (shelf : ShelfState). shelf.read_faults) front), omega (arith, ap (λ (shelf : ShelfState). shelf.write_faults) front))
    ]

-- the writing of the outputs stopped, and nothing was put
pub untouched_stopped : (before after : World) (files : List File) → StopsInFiles before.shelf files after.shelf → after.out ≡ before.out → Untouched (names_of files) before after
untouched_stopped before after files stops same =
    let counts = stopped_counts (with_files before.shelf stops.done) after.shelf stops.stopped.name stops.stopped.bytes stops.stands in
    record {
      files = λ name unnamed.
          let apart = unnamed_before stops.done stops.rest stops.stopped name (ap (λ files. list_any (bytes_eq name) (names_of files)) (sym stops.whole) ∙ unnamed) in
          stopped_elsewhere (with_files before.shelf stops.done) after.shelf stops.stopped.name stops.stopped.bytes name stops.stands apart.1
          ∙ others_stay before.shelf stops.done name apart.0;
      read_faults = omega (arith, counts, same_reads before.shelf stops.done);
      write_faults = omega (arith, counts, same_writes before.shelf stops.done);
      put_faults = omega (arith, ap (λ (sink : SinkState). sink.faults) same);
    }
