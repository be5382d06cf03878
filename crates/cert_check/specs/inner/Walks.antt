-- The walk over the nodes of a tree.
use Rattle.std.specs.Prelude.{◌≡◌, ℕ, List, ◌∷◌, take, Some, IfSome}
use Rattle.sparse_program.specs.Box.{Ranges}
use Rattle.sparse_program.specs.Program.{Parts}
use Rattle.safe_bound.specs.Costed.{IsCostedOf}
use Rattle.cert_check.specs.declared.walk.Walk.{Walk}
use Rattle.certificate_model.specs.Tree.{IsSplit, left_of, right_of}
use Rattle.cert_format.specs.declared.line.Mark.{Mark}
use Rattle.cert_format.specs.declared.line.Mark.TheVariants.{Split}
use Rattle.cert_check.specs.inner.Waiting.{AreFrames, waiting}

-- the box of the node that comes next, and behind it those that wait
abbrev pub boxes_of : Walk → List Ranges
boxes_of walk = walk.costed.box ∷ waiting walk.costed.box walk.frames

-- a walk over a tree of a program's boxes
pub record IsWalk (program : Parts) (walk : Walk) : Type 0 where
  pub costed : IsCostedOf program walk.costed
  pub frames : AreFrames walk.costed.box walk.frames

-- a delay is still known: it was, and no bound of a plan column has changed
pub record IsStillKnown (plan_columns : ℕ) (old new : Walk) (delay : ℕ) : Type 0 where
  pub was : old.known.delay ≡ Some delay
  pub lows : take plan_columns new.costed.box.lows ≡ take plan_columns old.costed.box.lows
  pub highs : take plan_columns new.costed.box.highs ≡ take plan_columns old.costed.box.highs

-- a delay that is known is still known, and the plan that was replayed last is the same
pub record StaysKnown (plan_columns : ℕ) (old new : Walk) : Type 0 where
  pub delay : IfSome new.known.delay (IsStillKnown plan_columns old new)
  pub last : new.known.last ≡ old.known.last

-- the walk can go on behind a node: where that is a split, it is one of the present box
abbrev pub CanPass : Ranges → Mark → Type 0
CanPass box (Split column at) = IsSplit box column at
CanPass box _ = Unit {0}

-- the boxes that are left behind a node: both sides of a split, and those that wait
abbrev pub boxes_behind : Walk → Mark → List Ranges
boxes_behind walk (Split column at) =
    left_of walk.costed.box column at ∷ right_of walk.costed.box column at ∷ waiting walk.costed.box walk.frames
boxes_behind walk _ = waiting walk.costed.box walk.frames
