-- Pieces that can be summed within a horizon.
use Rattle.std.specs.Prelude.{ℕ, ◌<◌, ◌≤◌}
use Rattle.demand.specs.declared.piece.Piece.{Piece}

-- the piece holds a step, and ends within the horizon
pub record IsWithin (steps : ℕ) (piece : Piece) : Type 0 where
  pub some : piece.first < piece.until
  pub ends : piece.until ≤ steps

-- at most 1000 units arrive in a step of the piece
pub record IsLight (piece : Piece) : Type 0 where
  pub rate : piece.rate ≤ 1000
