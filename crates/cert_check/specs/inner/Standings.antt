-- What the parts of the checker mean.
use Rattle.std.specs.Prelude.{◌≡◌, Bool, true, false, List, [], ◌∷◌}
use Rattle.ct_base.specs.declared.net.Net.{Net}
use Rattle.sparse_program.specs.Box.{Ranges}
use Rattle.program_model.specs.Points.{program_of}
use Rattle.certificate_model.specs.Certificates.{root_of}
use Rattle.certificate_model.specs.Verdicts as verdicts
use Rattle.certificate_model.specs.Verdicts.{Standing}
use Rattle.cert_check.specs.declared.line_checker.LineChecker.{LineChecker}
use Rattle.cert_check.specs.declared.state.State.{State}
use Rattle.cert_check.specs.declared.state.State.TheVariants.{Head, Bound, Nodes, Complete, End, Broken}
use Rattle.cert_check.specs.declared.walk.Walk.{Walk}
use Rattle.cert_check.specs.inner.Known.{IsKnown}
use Rattle.cert_check.specs.inner.Walks.{IsWalk, boxes_of}

-- what has to come next, in a state and with the boxes of the walk
abbrev pub standing_at : State → List Ranges → Standing
standing_at Head boxes = verdicts.AtHead
standing_at Bound boxes = verdicts.AtBound
standing_at (Nodes bound) boxes = verdicts.AtNodes bound boxes
standing_at (Complete bound) boxes = verdicts.AtNodes bound []
standing_at (End bound) boxes = verdicts.AtEnd bound
standing_at (Broken line why) boxes = verdicts.Broken line why

-- whether a line broke
abbrev pub is_broken : State → Bool
is_broken (Broken line why) = true
is_broken _ = false

-- what has to come next
abbrev pub standing_of : LineChecker → Standing
standing_of checker = standing_at checker.state (boxes_of checker.walk)

-- a walk over a tree of boxes of a network's program, and what it knows of plans
pub record IsWalkOf (net : Net) (walk : Walk) : Type 0 where
  pub tree : IsWalk (program_of net) walk
  pub known : IsKnown net walk.costed.box walk.known

-- a walk at the top of a tree
pub record IsAtTop (net : Net) (walk : Walk) : Type 0 where
  pub of : IsWalkOf net walk
  pub boxes : boxes_of walk ≡ root_of net ∷ []

-- the walk of a state; none where no node comes any more
abbrev pub IsWalkAt : Net → State → Walk → Type 0
IsWalkAt net Head walk = IsAtTop net walk
IsWalkAt net Bound walk = IsAtTop net walk
IsWalkAt net (Nodes bound) walk = IsWalkOf net walk
IsWalkAt net (Complete bound) walk = Unit {0}
IsWalkAt net (End bound) walk = Unit {0}
IsWalkAt net (Broken line why) walk = Unit {0}

-- a checker of certificates of a network
pub record IsCheckerOf (net : Net) (checker : LineChecker) : Type 0 where
  pub program : checker.program ≡ program_of net
  pub walk : IsWalkAt net checker.state checker.walk
