-- What a checker stands for that takes a text in pieces. A caller needs of it only that the empty text comes first, that each piece
-- is added behind it, and that it has the verdict in the end.
use Rattle.std.specs.Prelude.{◌≡◌, ◌⊎◌, ℕ, true, false, List, length}
use Rattle.ct_base.specs.declared.net.Net.{Net}
use Rattle.cert_check.specs.declared.pieces.Checker.{Checker}
use Rattle.cert_check.specs.inner.Walked.{HasWalked}

-- a checker of certificates of a network has taken a text: its lines were walked, and its bytes counted
pub record StandsFor (net : Net) (checker : Checker) (text : List ℕ) : Type 0 where
  pub walked : HasWalked net checker.lines checker.unfinished text
  pub taken : checker.taken ≡ length text
  pub lasts : checker.failed ≡ false

-- memory was wanting for a piece, so that nothing is known of what was walked
abbrev pub HasFailed : Checker → Type 0
HasFailed checker = checker.failed ≡ true

-- a checker of certificates of a network has taken some text, or memory was wanting for a piece
abbrev pub IsFed : Net → Checker → Type 0
IsFed net checker = ((text : List ℕ) × StandsFor net checker text) ⊎ HasFailed checker

-- how many bytes a checker has taken
abbrev pub taken_of : Checker → ℕ
taken_of checker = checker.taken
