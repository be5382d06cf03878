-- Files that are written one after another.
use Rattle.std.proofs.Common.{◌≡◌, ℕ, suc, ◌+◌, ◌<◌, List, [], ◌∷◌, ◌++◌, length, take, drop, get_or, refl, ap, sym, ◌∙◌, add-one}
use Rattle.std.proofs.Math.Seq.{take-suc, drop-cons}
use Rattle.std.proofs.lemmas.List.{take-append-drop}
use Rattle.shelf_io.specs.Told.{ShelfState, StopsInFile, with_file}
use Rattle.shelf_io.specs.declared.file_map.File.{File}
use Rattle.signal_cli.specs.Worlds.{StopsInFiles, with_files}

-- one file more
with_files-more : (shelf : ShelfState) (files : List File) (file : File) → with_files shelf (files ++ file ∷ []) ≡ with_file (with_files shelf files) file.name file.bytes
with_files-more shelf [] file = refl
with_files-more shelf (first ∷ files) file = with_files-more (with_file shelf first.name first.bytes) files file

-- once the next file was written, one file more stands
pub one_more_stands : (before now after : ShelfState) (files : List File) (i : ℕ) (file : File) → i < length files → file ≡ get_or files i file → now ≡ with_files before (take i files) → after ≡ with_file now file.name file.bytes → after ≡ with_files before (take (i + 1) files)
one_more_stands before now after files i file within is so_far written =
    written ∙ ap (λ shelf. with_file shelf file.name file.bytes) so_far
    ∙ sym (with_files-more before (take i files) file)
    ∙ ap (λ next. with_files before (take i files ++ next ∷ [])) is
    ∙ ap (with_files before) (sym (take-suc files i file within) ∙ ap (λ n. take n files) (sym (add-one i)))

-- where the next file was not written whole, the writing stops there
pub stops_here : (before now after : ShelfState) (files : List File) (i : ℕ) (file : File) → i < length files → file ≡ get_or files i file → now ≡ with_files before (take i files) → StopsInFile now file.name file.bytes after → StopsInFiles before files after
stops_here before now after files i file within is so_far stopped = record {
  done = take i files;
  stopped = file;
  rest = drop (suc i) files;
  whole = sym (take-append-drop i files) ∙ ap (λ rest. take i files ++ rest) (drop-cons files i file within ∙ ap (λ next. next ∷ drop (suc i) files) (sym is));
  stands = rw so_far at stopped;
}
