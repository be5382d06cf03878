-- Fronts of bytes: what a loop has put, written and read so far.
use Rattle.std.proofs.Common.{◌≡◌, ℕ, ◌+◌, ◌-◌, ◌≤◌, List, ◌++◌, length, take, drop, ap, sym, ◌∙◌, arith, length-append, Option, Some, None, MatchOption}
use Rattle.std.proofs.Math.Seq.{take-add}
use Rattle.std.proofs.lemmas.List.{take_all, length-drop, length-take-le}
use Rattle.shelf_io.specs.Told.{Files, IfTold, ReadsFrom, bytes_of}
use Rattle.shelf_io.specs.inner.Pieces.{IsFrontOf}

-- the rest of a slice is what lies past the place
pub rest_is : (bytes : List ℕ) (at : ℕ) → take (length bytes - at) (drop at bytes) ≡ drop at bytes
rest_is bytes at = take_all (length bytes - at) (drop at bytes) (omega (arith, length-drop at bytes))

-- what was read so far, with the piece that was read where it ends, is the front of the bytes again
front_more : (bytes read buffer : List ℕ) (k : ℕ) → read ≡ take (length read) bytes → ReadsFrom bytes (length read) k buffer → k ≤ length buffer → read ++ take k buffer ≡ take (length (read ++ take k buffer)) bytes
front_more bytes read buffer k front piece fits =
    let long : length (read ++ take k buffer) ≡ length read + k = omega (arith, length-append read (take k buffer), length-take-le k buffer fits) in
    ap (λ start. start ++ take k buffer) front ∙ ap (λ more. take (length read) bytes ++ more) piece.same
    ∙ sym (take-add (length read) k bytes) ∙ ap (λ n. take n bytes) (sym long)

-- the same where files are told
pub told_front_more : (told : Option Files) (name read buffer : List ℕ) (at k : ℕ) → at ≡ length read → IsFrontOf told name read → IfTold told name (λ bytes. ReadsFrom bytes at k buffer) → k ≤ length buffer → IfTold told name (λ bytes. read ++ take k buffer ≡ take (length (read ++ take k buffer)) bytes)
told_front_more None name read buffer at k end front piece fits = tt
told_front_more (Some files) name read buffer at k end front piece fits =
    elim (bytes_of files name) as (λ found. MatchOption found (Unit {0}) (λ bytes. read ≡ take (length read) bytes) → MatchOption found ⊥ (λ bytes. ReadsFrom bytes at k buffer) → k ≤ length buffer → MatchOption found ⊥ (λ bytes. read ++ take k buffer ≡ take (length (read ++ take k buffer)) bytes)) [
      | None ↦ λ front piece fits. piece
      | Some bytes ↦ λ front piece fits. front_more bytes read buffer k front (rw end at piece) fits
    ] front piece fits
